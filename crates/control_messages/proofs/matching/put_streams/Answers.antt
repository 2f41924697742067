-- `matching::put_streams` meets its contract: three parts are lent, each behind the bits of the one before.
-- Assumes nothing.
use Prim.Native.Nat.{◌+◌, ◌-◌}
use native.Mathlib.Omega.{arith}
use lib.Seq.{length-take-le}
use Rattle.laws.proofs.Parts.{front_count}
use Rattle.control_messages.proofs.Turn.{three_put}
use Rattle.control_messages.proofs.matching.put_streams.Goals as goal

pub slice_bounds-put_stream-end-2 : goal.slice_bounds-put_stream-end-2
slice_bounds-put_stream-end-2 c = front_count 80 c.args.ring.now (omega arith)

pub put_stream-requires : goal.put_stream-requires
put_stream-requires c = (omega arith, length-take-le 80 c.args.ring.now (omega arith))

pub returns : goal.returns
returns c =
    let d = c.args.d in
    three_put d (d + d + 80 - (d + d)) (d + 80 - d) c.args.ring.now c.args.taken.now c.requires.0 c.put_stream.ensures c.put_stream-2.ensures c.put_stream-3.ensures
