-- `receive_packed` meets its contract: the owner's rules and the head are those of the state, on the form with four places a byte.
-- Assumes nothing.
use mathlib.Core.Bool.{true}
use Rattle.slot_calls.proofs.OwnerParts.{owner_admitted}
use Rattle.packing.specs.Store.{places_in}
use Rattle.reading.proofs.Kept.{receive_kept}
use Rattle.reception.proofs.Accepts.{by_ready, by_answer, by_store}
use Rattle.reception.proofs.receive_packed.Goals as goal

pub receive_by-answer-requires : goal.receive_by-answer-requires
receive_by-answer-requires c =
    let e = c.args in
    rw c.granted-grant.ensures (by_ready true e.state e.slot e.terminal e.q e.n e.version e.bits.now e.store.now c.places_asked-asked.ensures c.bad_bits-bad.ensures (owner_admitted e.state _ e.slot e.terminal c.owner-owner.ensures))

pub returns : goal.returns
returns c =
    let e = c.args in
    let told = rw c.granted-grant.ensures at c.receive_by-answer.ensures in
    record {
      answer = receive_kept e.state e.slot e.terminal e.q e.n e.version e.bits.now (places_in true e.store.now)
          (by_answer true e.state e.slot e.terminal e.q e.n e.version e.bits.now e.store.now c.places_asked-asked.ensures c.bad_bits-bad.ensures (owner_admitted e.state _ e.slot e.terminal c.owner-owner.ensures) told.answer);
      stored = by_store true e.state e.slot e.terminal e.q e.n e.version e.bits.now e.store.now c.places_asked-asked.ensures c.bad_bits-bad.ensures (owner_admitted e.state _ e.slot e.terminal c.owner-owner.ensures)
          (λ i. (c.type_inv.store i).fits) told.stored;
    }
