-- `receive_by` meets its contract: a refusal is that of the first rule that applies, and where none does the bits are put (`Accepts`).
-- Assumes nothing.
use mathlib.Core.Path.{◌∙◌}
use native.Mathlib.Omega.{arith}
use Rattle.reading.proofs.Thrown.{thrown}
use Rattle.reception.proofs.Accepts.{owner_refused_by, refused_by, put_by}
use Rattle.reception.proofs.receive_by.Goals as goal

pub returns-in_err-head : goal.returns-in_err-head
returns-in_err-head c =
    let e = c.args in
    let told = owner_refused_by e.four e.bad e.blocks e.slot e.grant e.bits.now e.store.now c.in_err-head.field-0.0 c.in_err-head.was in
    record { answer = thrown _ c.from_residual.result c.from_residual.ensures ∙ told.0; stored = told.1 }

pub returns-in_err-admitted : goal.returns-in_err-admitted
returns-in_err-admitted c =
    let e = c.args in
    let told = refused_by e.four e.bad e.blocks e.slot e.grant e.bits.now e.store.now c.in_ok-head.head c.in_ok-head.was c.in_err-admitted.field-0.0 c.in_err-admitted.ensures in
    record { answer = thrown _ c.from_residual-in_err-admitted.result c.from_residual-in_err-admitted.ensures ∙ told.0; stored = told.1 }

pub returns : goal.returns
returns c =
    let e = c.args in
    let told = put_by e.four e.bad e.blocks e.slot e.grant e.bits.now e.store.now c.in_ok-head.head c.in_ok-head.was c.in_ok-admitted.ensures _
    (λ i. omega (arith, c.type_inv.store i)) c.put_in_slot-lacking.ensures.stored c.put_in_slot-lacking.ensures.count in record { answer = told.0; stored = told.1 }
