-- `turbo::encode_streams` meets its contract: three times `completed`, with the outputs of both encoders and their tails.
-- Assumes nothing.
use mathlib.Core.Path.{◌≡◌, ◌∙◌}
use mathlib.Core.List.{List}
use Prim.Native.Nat.{ℕ, ◌+◌, ◌-◌}
use native.Mathlib.Omega.{arith}
use lib.ListN.{length, drop}
use lib.Seq.{length-take-le}
use Rattle.interleaver.specs.Table.{size_at}
use Rattle.turbo.specs.Encode.{block_in}
use Rattle.turbo.proofs.Completing.{stream0_is, stream1_is, stream2_is}
use Rattle.turbo.proofs.encode_streams.Goals as goal

-- the code block has the row's size
block_long : (row : ℕ) (d0 : List ℕ) → length d0 ≡ size_at row + 4 → length (block_in d0) ≡ size_at row
unfolding block_in
block_long row d0 h = omega (arith, length-take-le (length d0 - 4) d0 (omega arith))

pub encode_parities-requires : goal.encode_parities-requires
unfolding block_in
encode_parities-requires c =
    let size = block_long c.args.row c.args.d0.now c.requires.long0 in
    (c.requires.below, size, omega (arith, size, c.requires.long1), omega (arith, size, c.requires.long2))

pub returns : goal.returns
unfolding block_in
returns c =
    let row = c.args.row in
    let bits = block_in c.args.d0.now in
    let size = block_long row c.args.d0.now c.requires.long0 in
    let F = c.args.filler in
    let said = c.encode_parities.ensures in
    let first = c.encode_parities.ensures.tails.0 in
    let second = c.encode_parities.ensures.tails.1 in
    let past : List ℕ → List ℕ = drop (length bits) in record {
      first = c.complete.ensures
          ∙ stream0_is row c.args.d0.now first second F;
      second = c.complete-2.ensures
          ∙ stream1_is row bits (past c.args.d1.now) first second (omega (arith, size, c.encode_parities.auto.d1, c.requires.long1)) F c.encode_parities.ensures.first;
      third = c.complete-3.ensures
          ∙ stream2_is row bits (past c.args.d2.now) first second (omega (arith, size, c.encode_parities.auto.d2, c.requires.long2)) size c.encode_parities.ensures.second;
    }
