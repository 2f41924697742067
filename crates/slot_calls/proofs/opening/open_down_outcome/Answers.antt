-- `opening::open_down_outcome` meets its contract: an accepted call opens a slot that is there, with the standard's share.
-- Assumes nothing.
use mathlib.Core.Path.{◌≡◌, refl, sym, ◌∙◌, ap}
use mathlib.Core.List.{[], ◌∷◌, ◌++◌}
use Prim.Native.Nat.{ℕ, ◌+◌}
use Rattle.refusals.specs.Refusals.{rule, first_of}
use Rattle.refusals.proofs.Numbers.{refusal_ne0}
use Rattle.segmentation.specs.Segmentation.{blocks}
use Rattle.codeword.specs.Downlink.{too_short, share_for}
use Rattle.rate_matching.specs.SoftBuffer.{soft_share}
use Rattle.slots.specs.Outcome.{Outcome}
use Rattle.slots.specs.Answers.{unless_refused}
use Rattle.slots.specs.Calls.{opened_for, open_rules, open_down_number, open_down_outcome}
use Rattle.slots.proofs.Accepted.{open_admitted, down_found, down_open, down_buffer}
use Rattle.slots.proofs.Buffers.{share_found}
use Rattle.slots.proofs.Done.{down_stored, eight}
use Rattle.slot_calls.proofs.opening.open_down_outcome.Goals.{After-share_for-share}
use Rattle.slot_calls.proofs.opening.open_down_outcome.Goals as goal

-- the share is found for the block's code blocks
found : (c : After-share_for-share) → let e = c.args in let r = e.receiver in
    c.share_for-share.result ≡ share_for (blocks (e.size + 24)) r.release r.mimo r.processes r.soft r.layers
found c = rw c.block_count-count.ensures at c.share_for-share.ensures

-- the rules by the share as it is found are the definition's
told : (c : After-share_for-share) {n : ℕ} → let e = c.args in let r = e.receiver in
    n ≡ first_of (open_rules e.state e.lent e.slot e.size ++ (rule (too_short c.share_for-share.result (e.size + 24) (blocks (e.size + 24))) 21 ∷ []))
    → n ≡ open_down_number e.state e.lent e.slot e.size r.release r.mimo r.processes r.soft r.layers
told c h = rw (found c) at h ∙ down_found _ _ _ _ _ _ _ _ _

-- where none applies the share is the standard's
share_is : (c : After-share_for-share) → let e = c.args in let r = e.receiver in
    0 ≡ open_down_number e.state e.lent e.slot e.size r.release r.mimo r.processes r.soft r.layers
    → c.share_for-share.result ≡ soft_share (blocks (e.size + 24)) r.release r.mimo r.processes r.soft r.layers
share_is c z =
    found c ∙ share_found _ (open_admitted _ _ _ _ refl (down_open _ _ _ _ _ _ _ _ _ (sym z))) _ _ _ _ _ (down_buffer _ _ _ _ _ _ _ _ _ (sym z))

pub opened-requires : goal.opened-requires
opened-requires c = eight (down_stored _ _ _ 0 _ _ _ _ _ _ (sym (told (goal.at.opened-requires c).After-share_for-share c.in-Ok.ensures)))

pub returns-in-Ok : goal.returns-in-Ok
unfolding open_down_outcome unless_refused
returns-in-Ok c =
    let e = c.args in
    let before = (goal.at.returns-in-Ok c).After-share_for-share in
    let none = told before c.in-Ok.ensures in
    rw (← none) (c.opened.ensures ∙ ap (opened_for e.state e.slot e.terminal e.size) (share_is before none))

pub returns-in-Err : goal.returns-in-Err
unfolding open_down_outcome unless_refused
returns-in-Err c =
    let number = told (goal.at.returns-in-Err c).After-share_for-share c.in-Err.ensures in
    rw (← number, refusal_ne0 c.in-Err.refusal) c.refused.ensures
