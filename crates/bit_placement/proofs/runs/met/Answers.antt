-- `runs::met` meets its contract: the test is the definition's own.
-- Assumes nothing.
use mathlib.Core.Path.{◌≡◌, refl}
use mathlib.Core.Bool.{Bool, true, false, not}
use Rattle.slots.specs.Room.{has_value, meet}
use Rattle.bit_placement.proofs.runs.met.Goals as goal

not_not : (t : Bool) → not (not t) ≡ t
not_not true = refl
not_not false = refl

pub returns-then-old-new : goal.returns-then-old-new
unfolding meet has_value
returns-then-old-new c = rw (not_not, c.if-old-new.true)

pub returns-else-old-new : goal.returns-else-old-new
unfolding meet has_value
returns-else-old-new c = rw (not_not, c.if-old-new.false)
