-- `calls::zemrukste_streams` meets its contract: Streams on the state that the bytes stand for.
-- Assumes nothing.
use Rattle.slot_face.proofs.Told.{numbered}
use Rattle.slot_face.proofs.calls.zemrukste_streams.Goals as goal

pub returns : goal.returns
returns c =
    let made = c.state_in.ensures in
    record { number = numbered (rw made at c.streams-outcome.ensures.value) c.number.ensures; output = rw made at c.streams-outcome.ensures.out_after }
