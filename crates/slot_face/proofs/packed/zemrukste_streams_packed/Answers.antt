-- `packed::zemrukste_streams_packed` meets its contract: Streams on the state that the bytes stand for and the places that the store keeps.
-- Assumes nothing.
use Rattle.slot_face.proofs.Told.{numbered}
use Rattle.slot_face.proofs.packed.zemrukste_streams_packed.Goals as goal

pub returns : goal.returns
returns c =
    let made = c.state_in.ensures in
    record { number = numbered (rw made at c.streams_packed-outcome.ensures.value) c.number.ensures; output = rw made at c.streams_packed-outcome.ensures.out_after }
