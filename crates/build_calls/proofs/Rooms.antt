-- The rooms of a Build: made once, D places each, whatever a code block left in them.
-- Assumes nothing.
use mathlib.Core.Path.{◌≡◌, sym, ◌∙◌, ap}
use mathlib.Core.List.{List, ◌++◌}
use Prim.Native.Nat.{ℕ, ◌+◌}
use lib.ListN.{length, take, drop, length-append, take-append-drop}

pub record Rooms (D : ℕ) (d0 d1 d2 : List ℕ) : Type 0 where
  pub first : length d0 ≡ D
  pub second : length d1 ≡ D
  pub third : length d2 ≡ D

-- a room whose front was lent is as long as it was
pub kept : {D : ℕ} (n : ℕ) (d part : List ℕ) → length d ≡ D → length part ≡ length (take n d) → length (part ++ drop n d) ≡ D
kept n d part long e =
    length-append part (drop n d) ∙ ap (λ (k : ℕ). k + length (drop n d)) e ∙ sym (length-append (take n d) (drop n d)) ∙ ap length (take-append-drop n d) ∙ long
