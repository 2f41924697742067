-- The circular buffer of clause 5.1.4.1.2, its length, where it is cut and the start of each redundancy version.
-- Assumes nothing.
use Rattle.std.specs.Prelude.{List, [], ◌∷◌, ◌++◌, ℕ, ◌+◌, ◌-◌, ◌*◌, ◌/◌, ◌≤◌, min}
use Rattle.rate_matching.specs.SubBlocks.{plain, shifted}

-- v(1) and v(2) by turns: w_(KΠ + 2k) = v(1)_k, w_(KΠ + 2k + 1) = v(2)_k
unfoldable pub by_turns : List ℕ → List ℕ → List ℕ
by_turns [] ys = []
by_turns (x ∷ xs) [] = []
by_turns (x ∷ xs) (y ∷ ys) = x ∷ y ∷ by_turns xs ys

-- w: v(0), then v(1) and v(2) by turns
unfoldable pub circle : List ℕ → List ℕ → List ℕ → List ℕ
circle d0 d1 d2 = plain d0 ++ by_turns (plain d1) (shifted d2)

-- K_w = 3·KΠ = 96·R, the length of the circle, and N_cb for an uplink shared channel
unfoldable pub circle_length : ℕ → ℕ
circle_length R = 96 * R

-- N_cb = min(⌊N_IR / C⌋, K_w), where the circle is cut if each code block has a share ⌊N_IR / C⌋ of the soft buffer
unfoldable pub cut_at : ℕ → ℕ → ℕ
cut_at soft R = min soft (circle_length R)

-- an N_cb that is accepted: the whole of stream 0 can be sent (02), and no more than the circle
pub record Cut (Ncb R : ℕ) : Type 0 where
  pub some : 1 ≤ R
  pub least : 32 * R ≤ Ncb
  pub most : Ncb ≤ circle_length R

-- k0 = R·(2·⌈N_cb / 8R⌉·v + 2); the walk takes it modulo N_cb
unfoldable pub start_in : ℕ → ℕ → ℕ → ℕ
start_in Ncb R v = R * (2 * ((Ncb + (8 * R - 1)) / (8 * R)) * v + 2)

-- k0 of redundancy version v for an uplink shared channel
unfoldable pub start_of : ℕ → ℕ → ℕ
start_of R v = start_in (circle_length R) R v
