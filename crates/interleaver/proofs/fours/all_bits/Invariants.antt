-- `fours::all_bits` meets its contract: what was seen is at least each byte passed, for an or is at least either side.
-- Assumes nothing.
use Prim.Native.Nat.{ℕ, ◌≤◌, ◌<◌}
use lib.ListN.{get_or}
use Rattle.interleaver.proofs.fours.all_bits.Given as goal

abbrev pub invariant-loop-bit : goal.invariant-loop-bit
invariant-loop-bit l = (k : ℕ) → k < l.bit-index → get_or l.c k 0 ≤ l.seen
