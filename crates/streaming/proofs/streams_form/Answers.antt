-- `streaming::streams_form` meets its contract: a refusal is that of the first rule that applies, and where none does the code block's circle lies within the store
-- (`Answering`, `Form`).
-- Assumes nothing.
use mathlib.Core.Path.{◌∙◌, refl, sym, ap}
use Prim.Native.Nat.{ℕ, ◌+◌, ◌*◌, ◌≤◌}
use native.Mathlib.Omega.{arith}
use mir.Syntax.{w64}
use mir.Val.{Fits}
use Rattle.refusals.proofs.Numbers.{refusal_ne0}
use Rattle.slot_calls.proofs.OwnerParts.{owned_head, owner_admitted}
use Rattle.slot_calls.proofs.Rules.{failed, last, passed_over}
use Rattle.packing.specs.Store.{places_in}
use Rattle.reading.proofs.Thrown.{thrown}
use Rattle.reading.proofs.Form.{streams_asked}
use Rattle.reading.proofs.Answering.{refused_first, passed_first}
use Rattle.streaming.proofs.Answering.{found_blocks, found_size, found_most, streams_told_number, streams_refused, Streaming, circle_within, index_few, three_needs, streams_told}
use Rattle.streaming.proofs.streams_form.Goals.{After-size_of-d, In_ok-applied-2}
use Rattle.streaming.proofs.streams_form.Goals as goal

-- no size is above 6,144
most : (c : After-size_of-d) → c.size_of-d.result ≤ 6144
most c = let e = c.args in found_most e.state _ e.slot e.terminal e.block (sym c.in_ok-head.was ∙ owner_admitted e.state _ e.slot e.terminal c.owner-owner.ensures) c.segments_for-s.ensures c.size_of-d.ensures

-- the call comes to the room
asked : (c : In_ok-applied-2) → let e = c.args in
    Streaming e.state (places_in e.four e.store.now) e.slot e.terminal e.block e.out.now 0 c.in_ok-head.head c.segments_for-s.result
asked c =
    let e = c.args in
    record {
      number =
          streams_asked e.four e.state e.store.now e.slot e.terminal e.block _ c.places_asked-asked.ensures
          (streams_told_number e.state _ e.slot e.terminal e.block _
          (found_blocks e.state _ e.slot e.terminal e.block (sym c.in_ok-head.was ∙ owner_admitted e.state _ e.slot e.terminal c.owner-owner.ensures) c.segments_for-s.ensures)
          (ap (λ (k : ℕ). k + 4) (found_size e.state _ e.slot e.terminal e.block (sym c.in_ok-head.was ∙ owner_admitted e.state _ e.slot e.terminal c.owner-owner.ensures) c.segments_for-s.ensures c.size_of-d.ensures))
          (passed_first e.state _ e.slot e.terminal (sym c.in_ok-head.was ∙ owner_admitted e.state _ e.slot e.terminal c.owner-owner.ensures) (passed_over refl c.in_ok-applied.ensures (last c.in_ok-applied-2.ensures))));
      zero = refl;
      found = owned_head e.state _ e.slot e.terminal (sym c.in_ok-head.was ∙ owner_admitted e.state _ e.slot e.terminal c.owner-owner.ensures);
      told = c.segments_for-s.ensures;
    }

-- the circle's number and what it is made of
product_few : (slot m r : ℕ) → slot * m + r ≤ 40 → Fits w64 (slot * m)
product_few slot m r h = omega (arith, h)

sum_few : (slot m r : ℕ) → slot * m + r ≤ 40 → Fits w64 (slot * m + r)
sum_few slot m r h = omega (arith, h)

pub returns-in_err-head : goal.returns-in_err-head
returns-in_err-head c =
    let e = c.args in
    let refusal = c.in_err-head.field-0.0 in
    let w = streams_refused e.state (places_in e.four e.store.now) e.slot e.terminal e.block e.out.now
    (streams_asked e.four e.state e.store.now e.slot e.terminal e.block _ c.places_asked-asked.ensures
    (streams_told_number e.state _ e.slot e.terminal e.block _ refl refl (refused_first e.state _ e.slot e.terminal refusal _ (sym c.in_err-head.was ∙ owner_admitted e.state _ e.slot e.terminal c.owner-owner.ensures))))
    (refusal_ne0 refusal) in
    record { value = thrown _ c.from_residual.result c.from_residual.ensures ∙ w.0; out_after = w.1 }

pub returns-in_err-applied : goal.returns-in_err-applied
returns-in_err-applied c =
    let e = c.args in
    let refusal = c.in_err-applied.field-0.0 in
    let w = streams_refused e.state (places_in e.four e.store.now) e.slot e.terminal e.block e.out.now
    (streams_asked e.four e.state e.store.now e.slot e.terminal e.block _ c.places_asked-asked.ensures
    (streams_told_number e.state _ e.slot e.terminal e.block _
    (found_blocks e.state _ e.slot e.terminal e.block (sym c.in_ok-head.was ∙ owner_admitted e.state _ e.slot e.terminal c.owner-owner.ensures) c.segments_for-s.ensures) refl
    (passed_first e.state _ e.slot e.terminal (sym c.in_ok-head.was ∙ owner_admitted e.state _ e.slot e.terminal c.owner-owner.ensures) (failed refusal c.in_err-applied.ensures))))
    (refusal_ne0 refusal) in
    record { value = thrown _ c.from_residual-in_err-applied.result c.from_residual-in_err-applied.ensures ∙ w.0; out_after = w.1 }

pub overflow_add-d : goal.overflow_add-d
overflow_add-d c = omega (arith, most (goal.at.overflow_add-d c).After-size_of-d)

pub overflow_mul-d : goal.overflow_mul-d
overflow_mul-d c = omega (arith, most (goal.at.overflow_mul-d c).After-size_of-d)

pub returns-in_err-applied-2 : goal.returns-in_err-applied-2
returns-in_err-applied-2 c =
    let e = c.args in
    let refusal = c.in_err-applied-2.field-0.0 in
    let w = streams_refused e.state (places_in e.four e.store.now) e.slot e.terminal e.block e.out.now
    (streams_asked e.four e.state e.store.now e.slot e.terminal e.block _ c.places_asked-asked.ensures
    (streams_told_number e.state _ e.slot e.terminal e.block _
    (found_blocks e.state _ e.slot e.terminal e.block (sym c.in_ok-head.was ∙ owner_admitted e.state _ e.slot e.terminal c.owner-owner.ensures) c.segments_for-s.ensures)
    (ap (λ (k : ℕ). k + 4) (found_size e.state _ e.slot e.terminal e.block (sym c.in_ok-head.was ∙ owner_admitted e.state _ e.slot e.terminal c.owner-owner.ensures) c.segments_for-s.ensures c.size_of-d.ensures))
    (passed_first e.state _ e.slot e.terminal (sym c.in_ok-head.was ∙ owner_admitted e.state _ e.slot e.terminal c.owner-owner.ensures) (passed_over refl c.in_ok-applied.ensures (failed refusal c.in_err-applied-2.ensures)))))
    (refusal_ne0 refusal) in
    record { value = thrown _ c.from_residual-in_err-applied-2.result c.from_residual-in_err-applied-2.ensures ∙ w.0; out_after = w.1 }

pub overflow_mul-i : goal.overflow_mul-i
overflow_mul-i c = product_few _ _ _ (index_few (asked (goal.at.overflow_mul-i c).In_ok-applied-2))

pub overflow_add-i : goal.overflow_add-i
overflow_add-i c = sum_few _ _ _ (index_few (asked (goal.at.overflow_add-i c).In_ok-applied-2))

pub runs_of-requires : goal.runs_of-requires
runs_of-requires c =
    let w = asked (goal.at.runs_of-requires c).In_ok-applied-2 in
    let needs = three_needs w c.size_of-d.ensures c.filler_of.ensures in
    (record { enough = circle_within w }, needs.0, needs.1, needs.2)

pub returns : goal.returns
returns c =
    let told = streams_told (asked (goal.at.returns c).In_ok-applied-2) c.size_of-d.ensures c.filler_of.ensures c.runs_of.ensures in
    record { value = told.0; out_after = told.1 }
