use native.Mathlib.Omega.{arith}
use Rattle.laws.proofs.Writing.{same, push, finish_all}
use Rattle.reports.proofs.Parted.{message_more, message_none}
use Rattle.reports.proofs.parting.put_message.Goals as goal

pub loop-bit-preserved : goal.loop-bit-preserved
loop-bit-preserved c = let long = c.loop-bit.invariant.long in push (omega arith) (same (message_more _ _ _ (omega arith)) c.loop-bit.invariant)

pub returns : goal.returns
returns c = finish_all (omega arith) (message_none _ _ _ (omega (arith, c.loop-bit.invariant.long))) c.loop-bit.invariant
