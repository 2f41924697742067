-- `put_sizes` meets its contract: the two refusals, and the six numbers in the first 24 bytes.
-- Assumes nothing.
use native.Mathlib.Omega.{arith}
use mathlib.Core.Path.{◌∙◌}
use lib.Seq.{length-take-le}
use Rattle.laws.proofs.Parts.{front_count}
use Rattle.state_bytes.proofs.Bytes.{whole_over}
use Rattle.codeword.proofs.Segmented.{Sized, sized, unsized}
use Rattle.face.proofs.Six.{refused_1, refused_5, accepted}
use Rattle.face.proofs.put_sizes.Goals.{Else-s-eq0}
use Rattle.face.proofs.put_sizes.Goals as goal

-- past the first test the size is in range
in_range : (c : Else-s-eq0) → Sized c.args.a c.segments_for-s.result
in_range c = sized _ _ c.segments_for-s.ensures c.if-s-eq0.false

pub returns-then-s-eq0 : goal.returns-then-s-eq0
returns-then-s-eq0 c = let told = refused_1 _ _ (unsized _ _ c.segments_for-s.ensures c.if-s-eq0.true) in record { number = told.0; output = told.1 }

pub returns-then-out-lt24 : goal.returns-then-out-lt24
returns-then-out-lt24 c = let told = refused_5 _ _ (in_range (goal.at.returns-then-out-lt24 c).Else-s-eq0).size c.if-out-lt24.true in record { number = told.0; output = told.1 }

pub slice_bounds-put_numbers-end-3 : goal.slice_bounds-put_numbers-end-3
slice_bounds-put_numbers-end-3 c = front_count 24 c.args.out.now c.if-out-lt24.false

pub returns : goal.returns
returns c = let out = c.args.out.now in
    let told = accepted _ _ (in_range (goal.at.returns c).Else-s-eq0).size c.if-out-lt24.false (in_range (goal.at.returns c).Else-s-eq0).told
    (c.put_numbers.ensures ∙ whole_over 4 _ _ (omega arith) (length-take-le 24 out c.if-out-lt24.false)) in record { number = told.0; output = told.1 }
