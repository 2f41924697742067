-- `build_down` meets its contract: a refusal leaves the output as it was, else its first G bytes are lent to be the codeword.
-- Assumes nothing.
use mathlib.Core.Path.{◌≡◌, sym, ◌∙◌, ap₂}
use mathlib.Core.List.{List, append-nil}
use Prim.Native.Nat.{ℕ, ◌≤◌}
use lib.ListN.{length}
use lib.Seq.{length-take-le}
use Rattle.std.proofs.lemmas.Result.{err_from_is_err_and}
use Rattle.laws.proofs.Parts.{front_count}
use Rattle.codeword.specs.declared.Grant.{Grant}
use Rattle.codeword.specs.Codeword.{codeword_in}
use Rattle.codeword.specs.Downlink.{build_down_number}
use Rattle.codeword.specs.inner.Accepted.{Accepted}
use Rattle.codeword.proofs.Segmented.{sized_in}
use Rattle.codeword.proofs.SoftShares.{accepted_down}
use Rattle.build_calls.proofs.DownNumbers.{number_found, share_accepted, refused_down, built_down}
use Rattle.build_calls.proofs.call.build_down.Goals.{In_ok-accept_down}
use Rattle.build_calls.proofs.call.build_down.Goals as goal

-- past the `?` the number is 0
none : (c : In_ok-accept_down) → let r = c.args.receiver in
    build_down_number c.args.block.now r.release r.mimo r.processes r.soft r.layers c.args.grant (length c.args.out.now) ≡ 0
none c = sym (c.in_ok-accept_down.ensures ∙ number_found _ _ _ _ _ _ _ c.segments_for-segments.ensures c.share_for-soft.ensures _)

fits : (c : In_ok-accept_down) → c.args.grant.bits ≤ length c.args.out.now
fits c = (accepted_down _ _ _ _ _ _ _ _ (none c)).1

accepted_as : {soft given : ℕ} {a b : List ℕ} {g : Grant} → soft ≡ given → a ≡ b → Accepted given b g → Accepted soft a g
accepted_as e f h = rw (e, f) h

pub returns-in_err-accept_down-clause-number : goal.returns-in_err-accept_down-clause-number
returns-in_err-accept_down-clause-number c =
    let p = err_from_is_err_and c.from_residual.result c.from_residual.ensures.1 in
    rw (p.1, p.2) (c.in_err-accept_down.ensures ∙ number_found _ _ _ _ _ _ _ c.segments_for-segments.ensures c.share_for-soft.ensures _)

pub returns-in_err-accept_down-clause-output : goal.returns-in_err-accept_down-clause-output
returns-in_err-accept_down-clause-output c = refused_down _ _ _ _ _ _ _ _ _ (c.in_err-accept_down.ensures ∙ number_found _ _ _ _ _ _ _ c.segments_for-segments.ensures c.share_for-soft.ensures _)

pub invariant_of-block : goal.invariant_of-block
invariant_of-block c =
    let ok = none (goal.at.invariant_of-block c).In_ok-accept_down in
    let share = share_accepted _ _ _ _ _ _ _ c.segments_for-segments.ensures c.share_for-soft.ensures _ ok in
    let good = (accepted_down _ _ _ _ _ _ _ _ ok).0 in record {
      accepted = accepted_as share (append-nil c.args.block.now) good;
      segmented = rw (append-nil c.args.block.now) (sized_in _ _ good.size c.segments_for-segments.ensures).told;
    }

pub slice_bounds-write-end : goal.slice_bounds-write-end
slice_bounds-write-end c = fits (goal.at.slice_bounds-write-end c).In_ok-accept_down

pub slice_bounds-write-end-2 : goal.slice_bounds-write-end-2
slice_bounds-write-end-2 c = front_count _ _ (fits (goal.at.slice_bounds-write-end-2 c).In_ok-accept_down)

pub write-requires : goal.write-requires
write-requires c = length-take-le _ _ (fits (goal.at.write-requires c).In_ok-accept_down)

pub returns-clause-number : goal.returns-clause-number
returns-clause-number c = sym (none (goal.at.returns-clause-number c).In_ok-accept_down)

pub returns-clause-output : goal.returns-clause-output
returns-clause-output c =
    let ok = none (goal.at.returns-clause-output c).In_ok-accept_down in
    let share = share_accepted _ _ _ _ _ _ _ c.segments_for-segments.ensures c.share_for-soft.ensures _ ok in
    built_down _ _ _ _ _ _ _ _ ok
    (c.write.ensures ∙ ap₂ (λ (soft : ℕ) (l : List ℕ). codeword_in soft l c.args.grant) share (append-nil c.args.block.now))
