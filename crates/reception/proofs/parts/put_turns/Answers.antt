-- `parts::put_turns` meets its contract: the ring has the turns, and is put.
-- Assumes nothing.
use mathlib.Core.Path.{◌∙◌, ap}
use mathlib.Core.List.{List}
use Prim.Native.Nat.{ℕ}
use Rattle.bit_placement.specs.Placement.{put_first}
use Rattle.bit_placement.proofs.Placed.{placed}
use Rattle.reception.specs.inner.Sent.{turn_of}
use Rattle.reception.proofs.Sends.{sends_on}
use Rattle.reception.proofs.parts.put_turns.Goals as goal

pub returns : goal.returns
returns c =
    let a = c.args in
    placed a.part.now (sends_on a.sent c.requires.0) _ c.put_turn.ensures.part
    ∙ ap (λ (l : List ℕ). put_first (turn_of a.sent) l a.part.now) c.meet_turns.ensures
