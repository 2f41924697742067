-- `receive` meets its contract: the owner's rules and the head are those of the state, on the form with a place a byte.
-- Assumes nothing.
use mathlib.Core.Path.{refl}
use mathlib.Core.Bool.{false}
use Rattle.slot_calls.proofs.OwnerParts.{owner_admitted}
use Rattle.packing.specs.Store.{places_in, in_form, places_asked}
use Rattle.reading.proofs.Kept.{receive_kept}
use Rattle.reception.proofs.Accepts.{by_ready, by_answer, by_store}
use Rattle.reception.proofs.receive.Goals as goal

pub receive_by-answer-requires : goal.receive_by-answer-requires
unfolding places_in places_asked
receive_by-answer-requires c =
    let e = c.args in
    rw c.granted-grant.ensures (by_ready false e.state e.slot e.terminal e.q e.n e.version e.bits.now e.store.now refl c.bad_bits-bad.ensures (owner_admitted e.state _ e.slot e.terminal c.owner-owner.ensures))

pub returns : goal.returns
unfolding places_in in_form places_asked
returns c =
    let e = c.args in
    let told = rw c.granted-grant.ensures at c.receive_by-answer.ensures in
    record {
      answer = receive_kept e.state e.slot e.terminal e.q e.n e.version e.bits.now e.store.now
          (by_answer false e.state e.slot e.terminal e.q e.n e.version e.bits.now e.store.now refl c.bad_bits-bad.ensures (owner_admitted e.state _ e.slot e.terminal c.owner-owner.ensures) told.answer);
      stored = by_store false e.state e.slot e.terminal e.q e.n e.version e.bits.now e.store.now refl c.bad_bits-bad.ensures (owner_admitted e.state _ e.slot e.terminal c.owner-owner.ensures)
          (λ i. (c.type_inv.store i).fits) told.stored;
    }
