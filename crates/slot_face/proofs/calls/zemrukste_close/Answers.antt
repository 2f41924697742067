-- `calls::zemrukste_close` meets its contract: Close on the state that the bytes stand for, and the head that it leaves.
-- Assumes nothing.
use Rattle.slot_face.proofs.Told.{numbered, handed}
use Rattle.slot_face.proofs.calls.zemrukste_close.Goals as goal

pub returns : goal.returns
returns c =
    let told = rw c.state_in.ensures at c.close-outcome.ensures in
    record { number = numbered told c.finish.ensures.value; state = handed told _ _ c.finish.ensures.bytes_after }
