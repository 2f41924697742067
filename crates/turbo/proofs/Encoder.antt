-- Laws of the constituent encoder: as many output bits as input bits, bits from bits, and the tail in closed form.
-- Assumes nothing.
use mathlib.Core.Path.{◌≡◌, refl, ap}
use mathlib.Core.List.{List, [], ◌∷◌}
use Prim.Native.Nat.{ℕ, zero, suc, ◌<◌}
use lib.Bits.{xor_lt, xor_self, xor_zero_l}
use lib.Dec.{lit<}
use lib.ListN.{length}
use Rattle.laws.specs.Bits.{◌⊕◌, AreBits}
use Rattle.turbo.specs.declared.Registers.{Registers}
use Rattle.turbo.specs.Encoder.{start, feedback, entering, parity, next, parities, after, tailed, x_tail, z_tail}

pub length_parities : (s : Registers) (c : List ℕ) → length (parities s c) ≡ length c
unfolding parities
length_parities s [] = refl
length_parities s (x ∷ c) = ap suc (length_parities (next s x) c)

-- ---- the tail

-- a zero enters at each step of the tail
pub tailed_one : (s : Registers) → tailed 1 s ≡ record { d1 = 0; d2 = s.d1; d3 = s.d2 }
unfolding tailed next entering feedback
tailed_one s = simp xor_self

pub tailed_two : (s : Registers) → tailed 2 s ≡ record { d1 = 0; d2 = 0; d3 = s.d1 }
unfolding tailed next entering feedback
tailed_two s = simp xor_self

-- the tail leaves the registers as they were at the start
pub tailed_three : (s : Registers) → tailed 3 s ≡ start
unfolding tailed next entering feedback start
tailed_three s = simp xor_self

pub x_tail_zero : (s : Registers) → x_tail 0 s ≡ s.d2 ⊕ s.d3
unfolding x_tail tailed feedback
x_tail_zero s = refl

pub x_tail_one : (s : Registers) → x_tail 1 s ≡ s.d1 ⊕ s.d2
unfolding x_tail feedback
x_tail_one s = rw tailed_one

pub x_tail_two : (s : Registers) → x_tail 2 s ≡ s.d1
unfolding x_tail feedback
x_tail_two s = simp (tailed_two, xor_zero_l)

pub z_tail_zero : (s : Registers) → z_tail 0 s ≡ s.d1 ⊕ s.d3
unfolding z_tail tailed parity entering feedback
z_tail_zero s = simp (xor_self, xor_zero_l)

pub z_tail_one : (s : Registers) → z_tail 1 s ≡ s.d2
unfolding z_tail parity entering feedback
z_tail_one s = simp (tailed_one, xor_self, xor_zero_l)

pub z_tail_two : (s : Registers) → z_tail 2 s ≡ s.d1
unfolding z_tail parity entering feedback
z_tail_two s = simp (tailed_two, xor_self, xor_zero_l)

pub ruleset tails = (x_tail_zero, x_tail_one, x_tail_two, z_tail_zero, z_tail_one, z_tail_two)

-- ---- bits from bits

pub record BitRegisters (s : Registers) : Type 0 where
  pub one : s.d1 < 2
  pub two : s.d2 < 2
  pub three : s.d3 < 2

pub start_bits : BitRegisters start
unfolding start
start_bits = record { one = lit< tt; two = lit< tt; three = lit< tt }

feedback_bit : {s : Registers} → BitRegisters s → feedback s < 2
unfolding feedback
feedback_bit {s} h = xor_lt 1 s.d2 s.d3 h.two h.three

entering_bit : {s : Registers} {x : ℕ} → BitRegisters s → x < 2 → entering s x < 2
unfolding entering
entering_bit {s} {x} h b = xor_lt 1 x (feedback s) b (feedback_bit h)

pub parity_bit : {s : Registers} {x : ℕ} → BitRegisters s → x < 2 → parity s x < 2
unfolding parity
parity_bit {s} {x} h b = xor_lt 1 (entering s x ⊕ s.d1) s.d3 (xor_lt 1 (entering s x) s.d1 (entering_bit h b) h.one) h.three

pub next_bits : {s : Registers} {x : ℕ} → BitRegisters s → x < 2 → BitRegisters (next s x)
unfolding next
next_bits h b = record { one = entering_bit h b; two = h.one; three = h.two }

pub parities_bits : {s : Registers} (c : List ℕ) → BitRegisters s → AreBits c → AreBits (parities s c)
unfolding parities
parities_bits [] h b i = b i
parities_bits (x ∷ c) h b zero = parity_bit h (b 0)
parities_bits {s = s} (x ∷ c) h b (suc i) = parities_bits {s = next s (x)} c (next_bits h (b 0)) (λ k. b (suc k)) i

pub after_bits : {s : Registers} (c : List ℕ) → BitRegisters s → AreBits c → BitRegisters (after s c)
unfolding after
after_bits [] h b = h
after_bits {s = s} (x ∷ c) h b = after_bits {s = next s (x)} c (next_bits h (b 0)) (λ k. b (suc k))

pub tailed_bits : {s : Registers} (n : ℕ) → BitRegisters s → BitRegisters (tailed n s)
unfolding tailed
tailed_bits zero h = h
tailed_bits {s = s} (suc n) h = tailed_bits {s = next s (feedback s)} n (next_bits h (feedback_bit h))

pub x_tail_bit : {s : Registers} (n : ℕ) → BitRegisters s → x_tail n s < 2
unfolding x_tail
x_tail_bit n h = feedback_bit (tailed_bits n h)

pub z_tail_bit : {s : Registers} (n : ℕ) → BitRegisters s → z_tail n s < 2
unfolding z_tail
z_tail_bit n h = parity_bit (tailed_bits n h) (feedback_bit (tailed_bits n h))
