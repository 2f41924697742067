-- `packed::zemrukste_read_packed` meets its contract: Read on the state that the bytes stand for and the places that the store keeps, and its answer in two numbers.
-- Assumes nothing.
use Rattle.slot_face.proofs.Told.{numbered, valued}
use Rattle.slot_face.proofs.packed.zemrukste_read_packed.Goals as goal

pub returns : goal.returns
returns c =
    let made = c.state_in.ensures in
    let told = rw made at c.read_packed-outcome.ensures.value in
    record { number = numbered told c.tell.ensures.value; output = rw made at c.read_packed-outcome.ensures.out_after; count = valued told _ c.tell.ensures.count_after }
