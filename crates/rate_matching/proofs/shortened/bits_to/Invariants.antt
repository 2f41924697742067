-- `shortened::bits_to` meets its contract: the bits of the units before u are counted (`TurnLength`).
-- Assumes nothing.
use mathlib.Core.Path.{◌≡◌}
use Prim.Native.Nat.{◌≤◌}
use lib.ListN.{length}
use Rattle.rate_matching.specs.SubBlocks.{rows}
use Rattle.rate_matching.specs.Shape.{shape, bit_places}
use Rattle.rate_matching.specs.Units.{unit_start}
use Rattle.rate_matching.proofs.shortened.bits_to.Given as goal

abbrev pub invariant-loop-u : goal.invariant-loop-u
invariant-loop-u l = (32 ≤ l.u) × (l.u ≤ l.to) × (l.n ≡ length (bit_places (shape l.d l.filler) 0 (unit_start (rows l.d) l.u)))
