-- `calls::zemrukste_open` meets its contract: Open on the state that the bytes stand for, and the head that it leaves.
-- Assumes nothing.
use Rattle.slot_face.proofs.Told.{numbered, handed}
use Rattle.slot_face.proofs.calls.zemrukste_open.Goals as goal

pub returns : goal.returns
returns c =
    let made = c.state_in-state.ensures in
    let told = rw made at c.open-outcome.ensures.value in
    record { number = numbered told c.finish.ensures.value; state = handed told _ _ c.finish.ensures.bytes_after; stored = rw made at c.open-outcome.ensures.store_after }
