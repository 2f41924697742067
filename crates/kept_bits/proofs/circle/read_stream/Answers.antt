-- `circle::read_stream` meets its contract: the test is the definition's, and what passes is read (`Rows`).
-- Assumes nothing.
use mathlib.Core.Path.{◌≡◌, sym, ◌∙◌}
use mathlib.Core.Bool.{true}
use lib.ListN.{length}
use Rattle.kept_bits.specs.Circle.{readable}
use Rattle.kept_bits.proofs.Rows.{readable_told}
use Rattle.kept_bits.proofs.circle.read_stream.Goals.{Then-readable}
use Rattle.kept_bits.proofs.circle.read_stream.Goals as goal

-- past the test
told : (c : Then-readable) → let e = c.args in readable (length e.circle.now) e.d e.from (length e.out.now) ≡ true
told c = sym c.readable.ensures ∙ c.if-readable.true

pub gather_stream-requires : goal.gather_stream-requires
gather_stream-requires c = readable_told _ _ _ _ _ (told (goal.at.gather_stream-requires c).Then-readable)
