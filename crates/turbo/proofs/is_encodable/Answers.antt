-- `turbo::is_encodable` meets its contract: no room for the tail, or the same tests from the size of the room.
-- Assumes nothing.
use mathlib.Core.Path.{sym}
use Rattle.turbo.proofs.Encodable.{by_size, no_tail}
use Rattle.turbo.proofs.is_encodable.Goals as goal

pub returns-then-n0-lt4 : goal.returns-then-n0-lt4
returns-then-n0-lt4 c = sym (no_tail _ _ _ _ _ c.if-n0-lt4.true)

pub returns : goal.returns
returns c = rw c.has_size.ensures (by_size _ _ _ _ _ c.if-n0-lt4.false)
