-- `calls::zemrukste_read` meets its contract: Read on the state that the bytes stand for, and its answer in two numbers.
-- Assumes nothing.
use Rattle.slot_face.proofs.Told.{numbered, valued}
use Rattle.slot_face.proofs.calls.zemrukste_read.Goals as goal

pub returns : goal.returns
returns c =
    let made = c.state_in.ensures in
    let told = rw made at c.read-outcome.ensures.value in
    record { number = numbered told c.tell.ensures.value; output = rw made at c.read-outcome.ensures.out_after; count = valued told _ c.tell.ensures.count_after }
