-- `calls::zemrukste_open_down` meets its contract: Open for a downlink on the state that the bytes stand for, and the head that it leaves.
-- Assumes nothing.
use Rattle.slot_face.proofs.Told.{numbered, handed}
use Rattle.slot_face.proofs.calls.zemrukste_open_down.Goals as goal

pub returns : goal.returns
returns c =
    let made = c.state_in-state.ensures in
    let told = rw made at c.open_down-outcome.ensures.value in
    record { number = numbered told c.finish.ensures.value; state = handed told _ _ c.finish.ensures.bytes_after; stored = rw made at c.open_down-outcome.ensures.store_after }
