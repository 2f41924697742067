-- The head that is made by default is the closed one.
-- Assumes nothing.
use mathlib.Core.Path.{◌≡◌}
use mathlib.Core.Bool.{false}
use Rattle.slots.specs.declared.Head.{Head}
use Rattle.slots.specs.State.{closed_head}

pub closed : {h : Head} → (h.opened ≡ false) × ((h.terminal ≡ 0) × ((h.size ≡ 0) × (h.share ≡ 0))) → h ≡ closed_head
unfolding closed_head
closed e = λ i. record { opened = e.0 i; terminal = e.1.0 i; size = e.1.1.0 i; share = e.1.1.1 i }
