-- `streaming::runs_of` meets its contract: the circle is lent from the store (`Form`), or another function unpacks it first.
-- Assumes nothing.
use mathlib.Core.Path.{◌∙◌, ap}
use mathlib.Core.List.{List, ◌++◌}
use Prim.Native.Nat.{ℕ, ◌+◌, ◌*◌, ◌≤◌}
use native.Mathlib.Omega.{arith}
use lib.ListN.{length, drop}
use Rattle.kept_bits.proofs.Rows.{reach_most, streams_shown}
use Rattle.reading.proofs.Lent.{streams_alike}
use Rattle.reading.proofs.Form.{part_within, part_long, plain_long, plain_alike, stretch_on}
use Rattle.streaming.proofs.runs_of.Goals.{After-bytes_a_block-long}
use Rattle.streaming.proofs.runs_of.Goals as goal

-- the code block's bytes
within : (c : After-bytes_a_block-long) → let e = c.args in
    e.i * c.bytes_a_block-long.result + c.bytes_a_block-long.result ≤ length e.store.now
within c = part_within c.requires.0 c.bytes_a_block-long.ensures

pub packed_runs_of-requires : goal.packed_runs_of-requires
packed_runs_of-requires c = rw c.if-four.true at c.requires

pub returns-then-four : goal.returns-then-four
returns-then-four c = rw c.if-four.true c.packed_runs_of.ensures

pub overflow_mul-from : goal.overflow_mul-from
overflow_mul-from c = omega (arith, within (goal.at.overflow_mul-from c).After-bytes_a_block-long)

pub overflow_add-to : goal.overflow_add-to
overflow_add-to c = omega (arith, within (goal.at.overflow_add-to c).After-bytes_a_block-long)

pub slice_bounds-three_streams-end : goal.slice_bounds-three_streams-end
slice_bounds-three_streams-end c = within (goal.at.slice_bounds-three_streams-end c).After-bytes_a_block-long

pub returns : goal.returns
returns c =
    streams_shown _ _ _ _ c.three_streams.ensures c.requires.1 c.requires.2
    (stretch_on c.requires.3 (omega (arith, part_long c.requires.0 c.bytes_a_block-long.ensures, plain_long c.if-four.false)))
    ∙ ap (λ (l : List ℕ). l ++ drop (3 * c.args.d) c.args.out.now)
    (streams_alike c.requires.3.sized (plain_alike c.args.i c.args.store.now c.bytes_a_block-long.ensures c.if-four.false)
    c.args.f (λ s. reach_most s c.requires.3.sized.most))
