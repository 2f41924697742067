-- `calls::zemrukste_receive` meets its contract: Receive on the state that the bytes stand for, and its answer in two numbers.
-- Assumes nothing.
use Rattle.slot_face.proofs.Told.{numbered, valued}
use Rattle.slot_face.proofs.calls.zemrukste_receive.Goals as goal

pub returns : goal.returns
returns c =
    let made = c.state_in.ensures in
    let told = rw made at c.receive-outcome.ensures.answer in
    record { number = numbered told c.tell.ensures.value; stored = rw made at c.receive-outcome.ensures.stored; count = valued told _ c.tell.ensures.count_after }
