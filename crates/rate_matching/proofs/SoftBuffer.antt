-- The soft buffer of clause 5.1.4.1.2 sentence by sentence: what K_C is, that Release 8 does not divide by it, and where the circle is cut.
-- Assumes nothing.
use mathlib.Core.Path.{◌≡◌, refl, ap}
use Prim.Native.Nat.{ℕ, ◌*◌, ◌/◌, ◌≤◌, ◌<◌, min}
use native.Mathlib.Omega.{arith}
use borrow.Author.Tests.{le-leb, lt-leb, ne_eqb}
use Rattle.rate_matching.specs.Circle.{circle_length, cut_at}
use Rattle.rate_matching.specs.SoftBuffer.{k_c, divisor_in, m_limit, n_ir, whole_share}

-- K_C is 5 for 35982720 soft bits, 2 for 3654144 and no more than two layers, and 1 for more layers or another number
pub five : (layers : ℕ) → k_c 35982720 layers ≡ 5
unfolding k_c
five layers = refl

pub two : (layers : ℕ) → layers ≤ 2 → k_c 3654144 layers ≡ 2
unfolding k_c
two layers h = simp (le-leb layers 2 h)

pub more_layers : (layers : ℕ) → 2 < layers → k_c 3654144 layers ≡ 1
unfolding k_c
more_layers layers h = simp (lt-leb layers 2 h)

pub others : (Nsoft layers : ℕ) → (Nsoft ≡ 35982720 → ⊥) → (Nsoft ≡ 3654144 → ⊥) → k_c Nsoft layers ≡ 1
unfolding k_c
others Nsoft layers a b = simp (ne_eqb Nsoft 35982720 a, ne_eqb Nsoft 3654144 b)

-- Release 11 divides by it, Release 8 does not
pub release_11 : (k_mimo processes Nsoft layers : ℕ) → n_ir 11 k_mimo processes Nsoft layers ≡ Nsoft / (k_c Nsoft layers * k_mimo * min processes 8)
unfolding n_ir divisor_in m_limit
release_11 k_mimo processes Nsoft layers = refl

pub release_8 : (k_mimo processes Nsoft layers : ℕ) → n_ir 8 k_mimo processes Nsoft layers ≡ Nsoft / (k_mimo * min processes 8)
unfolding n_ir divisor_in m_limit
release_8 k_mimo processes Nsoft layers = let one : 1 * k_mimo ≡ k_mimo = omega arith in ap (λ (n : ℕ). Nsoft / (n * min processes 8)) one

-- N_cb is the share where the circle is longer, else the circle's length
pub cut_share : (soft R : ℕ) → soft ≤ circle_length R → cut_at soft R ≡ soft
unfolding cut_at
cut_share soft R h = omega arith

pub cut_whole : (soft R : ℕ) → circle_length R ≤ soft → cut_at soft R ≡ circle_length R
unfolding cut_at
cut_whole soft R h = omega arith

-- which it always is for an uplink's share
pub uplink_whole : (R : ℕ) → R ≤ 193 → cut_at whole_share R ≡ circle_length R
unfolding circle_length cut_at
uplink_whole R h = omega arith
