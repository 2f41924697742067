-- `turbo::encode_parities` meets its contract: the bits are copied to the front of one stream, interleaved into the front of the other, and
-- encoded there.
-- Assumes nothing.
use mathlib.Core.Path.{◌≡◌, refl, sym, ◌∙◌, ap}
use mathlib.Core.List.{List, ◌++◌}
use Prim.Native.Nat.{ℕ, ◌%◌}
use native.Mathlib.Omega.{arith}
use lib.ListN.{length, drop}
use Rattle.interleaver.specs.Place.{interleaved}
use Rattle.interleaver.proofs.Into.{length_interleaved}
use Rattle.interleaver.proofs.Rows.{row_keeps}
use Rattle.turbo.specs.Streams.{first_end, second_end}
use Rattle.turbo.specs.Encode.{tail_of}
use Rattle.turbo.proofs.Completing.{front_interleaved}
use Rattle.turbo.proofs.InEights.{begun, reached, front_outputs, front_after}
use Rattle.turbo.proofs.encode_parities.Goals as goal

pub returns : goal.returns
unfolding first_end second_end
returns c =
    let row = c.args.row in
    let bits = c.args.c.now in
    let d2 = c.args.d2.now in
    let whole : length bits % 8 ≡ 0 = ap (λ (n : ℕ). n % 8) c.requires.1 ∙ (row_keeps row c.requires.0).bytes in
    let front = front_interleaved row bits d2 c.requires.0 c.requires.1 (omega arith) c.interleave.ensures in
    let first = begun bits c.args.d1.now refl c.requires.2 (ap (λ (l : List ℕ). l ++ drop (length bits) c.args.d1.now) c.copy_from_slice.ensures.after) in
    let second =
    begun (interleaved row bits) d2 (length_interleaved row bits ∙ sym c.requires.1) c.requires.3 (ap (λ (l : List ℕ). l ++ drop (length bits) d2) front) in
    let all = reached whole first second in
    record {
      first = c.encode_both.ensures.one ∙ front_outputs all first;
      second = c.encode_both.ensures.two ∙ front_outputs all second;
      tails = (
        c.tail.ensures ∙ ap tail_of (c.encode_both.ensures.ends.0 ∙ front_after all first),
        c.tail-2.ensures ∙ ap tail_of (c.encode_both.ensures.ends.1 ∙ front_after all second),
      );
    }
