-- `circle::missing` meets its contract: a byte above 1 lacks a bit (`Bytes`).
-- Assumes nothing.
use mathlib.Core.Path.{◌∙◌}
use Rattle.kept_bits.proofs.Bytes.{missing_is}
use Rattle.kept_bits.proofs.circle.missing.Goals as goal

pub returns : goal.returns
returns c = c.from.ensures ∙ missing_is c.args.byte
