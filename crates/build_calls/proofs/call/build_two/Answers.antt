-- `build_two` meets its contract: a refusal leaves the output as it was, else its first G bytes are lent to be the codeword.
-- Assumes nothing.
use mathlib.Core.Path.{sym}
use lib.Seq.{length-take-le}
use Rattle.laws.proofs.Parts.{front_count}
use Rattle.segmentation.proofs.Both.{of_joined}
use Rattle.codeword.proofs.Numbers.{accepted}
use Rattle.codeword.proofs.Segmented.{sized_in}
use Rattle.build_calls.proofs.Numbers.{refused_output, built_output}
use Rattle.build_calls.proofs.call.build_two.Goals as goal

pub returns-in_err-accept-clause-output : goal.returns-in_err-accept-clause-output
returns-in_err-accept-clause-output c = refused_output _ _ _ _ c.in_err-accept.ensures

pub invariant_of-block : goal.invariant_of-block
invariant_of-block c =
    let a = c.args in
    let ok = (accepted _ _ _ (sym c.in_ok-accept.ensures)).0 in
    record { accepted = ok; segmented = (sized_in _ _ ok.size (of_joined a.header.now a.payload.now c.segments_for_both-segments.ensures)).told }

pub slice_bounds-write-end : goal.slice_bounds-write-end
slice_bounds-write-end c = (accepted _ _ _ (sym c.in_ok-accept.ensures)).1

pub slice_bounds-write-end-2 : goal.slice_bounds-write-end-2
slice_bounds-write-end-2 c = front_count _ _ (accepted _ _ _ (sym c.in_ok-accept.ensures)).1

pub write-requires : goal.write-requires
write-requires c = length-take-le _ _ (accepted _ _ _ (sym c.in_ok-accept.ensures)).1

pub returns-clause-output : goal.returns-clause-output
returns-clause-output c = built_output _ _ _ (sym c.in_ok-accept.ensures) c.write.ensures
