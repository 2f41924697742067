-- `circle::shown` meets its contract: a byte below 2 is a heard bit (`Bytes`).
-- Assumes nothing.
use mathlib.Core.Path.{◌∙◌}
use Rattle.kept_bits.proofs.Bytes.{shown_is}
use Rattle.kept_bits.proofs.circle.shown.Goals as goal

pub returns : goal.returns
returns c = c.min.ensures ∙ shown_is c.args.byte
