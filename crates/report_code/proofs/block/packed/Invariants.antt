-- `block::packed` meets its contract: from the highest bit down, the word is that of the bits from here on.
-- Assumes nothing.
use Prim.Native.Nat.{◌≤◌}
use mathlib.Core.Path.{◌≡◌}
use lib.ListN.{drop}
use Rattle.report_code.specs.Words.{number_of}
use Rattle.report_code.proofs.block.packed.Given as goal

abbrev pub invariant-loop-i : goal.invariant-loop-i
invariant-loop-i l = (l.i ≤ 32) × (l.word ≡ number_of (drop l.i l.bits))
