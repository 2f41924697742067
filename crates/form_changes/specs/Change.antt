-- The change of form of every room of a state (02, E7), between a plain store and a packed one: its number, and both stores afterwards.
-- Assumes nothing.
use Rattle.std.specs.Prelude.{Bool, true, false, cond, List, ℕ, eqb, length}
use Rattle.slots.specs.declared.State.{State}
use Rattle.forms.specs.Change.{rooms_changed, rooms_number}

-- 13 where M is out of range, then 5 where the rooms do not fit into the plain store or into the packed one, whichever form they have
unfoldable pub form_number : State → ℕ → ℕ → ℕ
form_number state plain packed = rooms_number true state.blocks state.slots plain packed

-- the plain store afterwards: every room from the packed one, where the rooms stand there and the plain form is asked for
unfoldable pub plain_changed : State → Bool → Bool → List ℕ → List ℕ → List ℕ
plain_changed state four to plain packed =
    cond (eqb (form_number state (length plain) (length packed)) 0)
    (cond to plain (cond four (rooms_changed false state.blocks state.slots packed plain) plain))
    plain

-- and the packed one
unfoldable pub packed_changed : State → Bool → Bool → List ℕ → List ℕ → List ℕ
packed_changed state four to plain packed =
    cond (eqb (form_number state (length plain) (length packed)) 0)
    (cond to (cond four packed (rooms_changed true state.blocks state.slots plain packed)) packed)
    packed
