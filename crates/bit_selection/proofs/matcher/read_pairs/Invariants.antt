-- `matcher::read_pairs` meets its contract: two entries a turn, and the last alone where the part is odd.
-- Assumes nothing.
use Prim.Native.Nat.{◌-◌}
use lib.ListN.{length}
use Rattle.bit_selection.proofs.Ring.{Pairing}
use Rattle.bit_selection.proofs.matcher.read_pairs.Given as goal

abbrev pub invariant-loop-k : goal.invariant-loop-k
invariant-loop-k l = Pairing l.d1 l.d2 l.from.1 l.initial.part l.part l.below l.k

abbrev pub decreases-loop-k : goal.decreases-loop-k
decreases-loop-k l = length l.initial.part - l.k
