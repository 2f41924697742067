use mathlib.Core.Path.{refl}
use native.Mathlib.Omega.{arith}
use Rattle.interleaver.specs.inner.Quarters.{digit}
use Rattle.interleaver.proofs.Filling as F
use Rattle.interleaver.proofs.fours.spread.Goals as goal

pub loop-i-init : goal.loop-i-init
loop-i-init c = F.start c.requires.1

pub loop-i-preserved : goal.loop-i-preserved
unfolding digit
loop-i-preserved c = F.next (omega arith) refl c.loop-i.invariant

pub returns : goal.returns
returns c = F.finish (omega arith) c.loop-i.invariant
