-- The constituent encoder has the transfer function of clause 5.1.3.2.1: its output times g0(D) is its input times g1(D). Its tail is what clause 5.1.3.2.2 is for.
-- Assumes nothing.
use mathlib.Core.Path.{◌≡◌, refl, sym, ◌∙◌, ap, ap₂}
use mathlib.Core.List.{List, [], ◌∷◌}
use Prim.Native.Nat.{ℕ, zero, suc, ◌+◌, ◌-◌, ◌≤◌, ◌<◌}
use native.Mathlib.Decide.{dec_lt}
use native.Mathlib.Omega.{arith}
use lib.Bits.{xor_comm, xor_self}
use lib.ListN.{length, get_or}
use borrow.Author.Tests.{le-leb, lt-leb}
use Rattle.laws.specs.Bits.{◌⊕◌}
use Rattle.laws.proofs.Bits.{xor_assoc, xor_cancel, xor_medial}
use Rattle.turbo.specs.declared.Registers.{Registers}
use Rattle.turbo.specs.Encoder.{start, feedback, entering, parity, next, parities, after, tailed, x_tail, z_tail}
use Rattle.demands.specs.Encoder.{delayed, times_g0, times_g1}

-- ---- what enters the register, with what it held at first before it

entered : Registers → List ℕ → List ℕ
entered s [] = []
entered s (c ∷ cs) = entering s c ∷ entered (next s c) cs

abbrev whole : Registers → List ℕ → List ℕ
whole s c = s.d3 ∷ s.d2 ∷ s.d1 ∷ entered s c

-- output k is what entered at k, one before and three before
output_at : (s : Registers) (c : List ℕ) (k : ℕ) → k < length c
    → get_or (parities s c) k 0 ≡ get_or (whole s c) (suc (suc (suc k))) 0 ⊕ get_or (whole s c) (suc (suc k)) 0 ⊕ get_or (whole s c) k 0
unfolding entered parities parity next
output_at s [] k h = absurd (omega arith)
output_at s (c ∷ cs) zero h = refl
output_at s (c ∷ cs) (suc k) h = output_at (next s c) cs k (omega arith)

twice : (c f : ℕ) → c ≡ c ⊕ f ⊕ f
twice c f = sym (xor_comm (c ⊕ f) f ∙ ap (λ (x : ℕ). f ⊕ x) (xor_comm c f) ∙ xor_cancel f c)

-- input k is what entered at k, two before and three before
input_at : (s : Registers) (c : List ℕ) (k : ℕ) → k < length c
    → get_or c k 0 ≡ get_or (whole s c) (suc (suc (suc k))) 0 ⊕ get_or (whole s c) (suc k) 0 ⊕ get_or (whole s c) k 0
unfolding entered entering feedback next
input_at s [] k h = absurd (omega arith)
input_at s (c ∷ cs) zero h = twice c (s.d2 ⊕ s.d3) ∙ sym (xor_assoc (c ⊕ (s.d2 ⊕ s.d3)) s.d2 s.d3)
input_at s (c ∷ cs) (suc k) h = input_at (next s c) cs k (omega arith)

-- ---- delays

late : (n : ℕ) (l : List ℕ) (k : ℕ) → k < n → delayed n l k ≡ 0
unfolding delayed
late n l k h = rw (lt-leb n k h)

early : (n : ℕ) (l : List ℕ) (k : ℕ) → n ≤ k → delayed n l k ≡ get_or l (k - n) 0
unfolding delayed
early n l k h = rw (le-leb n k h)

-- a delay after a delay
delayed_on : (n m : ℕ) (l : List ℕ) (k : ℕ) → n ≤ k → delayed m l (k - n) ≡ delayed (n + m) l k
delayed_on n m l k h = elim (dec_lt k (n + m)) [
  | yes less ↦ late m l (k - n) (omega arith) ∙ sym (late (n + m) l k less)
  | no more ↦
      let same : k - n - m ≡ k - (n + m) = omega arith in
      early m l (k - n) (omega arith) ∙ ap (λ (i : ℕ). get_or l i 0) same ∙ sym (early (n + m) l k (omega arith))
]

-- three zeros before a series
zeros_one : (l : List ℕ) (k : ℕ) → get_or (0 ∷ l) k 0 ≡ delayed 1 l k
zeros_one l zero = sym (late 1 l zero (omega arith))
zeros_one l (suc k) = sym (early 1 l (suc k) (omega arith) ∙ ap (λ (i : ℕ). get_or l i 0) back)
  where
    back : suc k - 1 ≡ k
    back = omega arith

zeros_two : (l : List ℕ) (k : ℕ) → get_or (0 ∷ 0 ∷ l) k 0 ≡ delayed 2 l k
zeros_two l zero = sym (late 2 l zero (omega arith))
zeros_two l (suc k) = zeros_one l k ∙ ap (delayed 1 l) back ∙ delayed_on 1 1 l (suc k) (omega arith)
  where
    back : k ≡ suc k - 1
    back = omega arith

zeros_three : (l : List ℕ) (k : ℕ) → get_or (0 ∷ 0 ∷ 0 ∷ l) k 0 ≡ delayed 3 l k
zeros_three l zero = sym (late 3 l zero (omega arith))
zeros_three l (suc k) = zeros_two l k ∙ ap (delayed 2 l) back ∙ delayed_on 1 2 l (suc k) (omega arith)
  where
    back : k ≡ suc k - 1
    back = omega arith

-- ---- from the start, where the registers hold zeros

module _ (c : List ℕ) where
  abbrev a : List ℕ
  a = entered start c

  none_late : (l : List ℕ) (k : ℕ) → get_or l k 0 ≡ delayed 0 l k
  none_late l k =
      let same : k ≡ k - 0 = omega arith in
      ap (λ (i : ℕ). get_or l i 0) same ∙ sym (early 0 l k (omega arith))

  output_is : (k : ℕ) → k < length c → get_or (parities start c) k 0 ≡ times_g1 a k
  unfolding times_g1 start
  output_is k h =
      output_at start c k h
      ∙ ap₂ ◌⊕◌ (ap₂ ◌⊕◌ (none_late a k) (zeros_one a k)) (zeros_three a k)

  input_is : (k : ℕ) → k < length c → get_or c k 0 ≡ times_g0 a k
  unfolding times_g0 start
  input_is k h =
      input_at start c k h
      ∙ ap₂ ◌⊕◌ (ap₂ ◌⊕◌ (none_late a k) (zeros_two a k)) (zeros_three a k)

  -- a delayed sequence of such sums
  delayed_sum : (l : List ℕ) (p q : ℕ) → ((k : ℕ) → k < length c → get_or l k 0 ≡ delayed 0 a k ⊕ delayed p a k ⊕ delayed q a k)
      → (n k : ℕ) → k < length c → delayed n l k ≡ delayed (n + 0) a k ⊕ delayed (n + p) a k ⊕ delayed (n + q) a k
  delayed_sum l p q is n k h = elim (dec_lt k n) [
    | yes less ↦ late n l k less ∙ sym (ap₂ ◌⊕◌ (ap₂ ◌⊕◌ (late (n + 0) a k (omega arith)) (late (n + p) a k (omega arith))) (late (n + q) a k (omega arith)))
    | no more ↦
        early n l k (omega arith)
        ∙ is (k - n) (omega arith)
        ∙ ap₂ ◌⊕◌ (ap₂ ◌⊕◌ (delayed_on n 0 a k (omega arith)) (delayed_on n p a k (omega arith))) (delayed_on n q a k (omega arith))
  ]

  -- nine terms row by row are the nine terms column by column
  nine : (x1 x2 x3 y1 y2 y3 z1 z2 z3 : ℕ) → (x1 ⊕ x2 ⊕ x3) ⊕ (y1 ⊕ y2 ⊕ y3) ⊕ (z1 ⊕ z2 ⊕ z3) ≡ (x1 ⊕ y1 ⊕ z1) ⊕ (x2 ⊕ y2 ⊕ z2) ⊕ (x3 ⊕ y3 ⊕ z3)
  nine x1 x2 x3 y1 y2 y3 z1 z2 z3 =
      ap (λ (t : ℕ). t ⊕ (z1 ⊕ z2 ⊕ z3)) (three x1 x2 x3 y1 y2 y3) ∙ three (x1 ⊕ y1) (x2 ⊕ y2) (x3 ⊕ y3) z1 z2 z3
    where
      three : (x1 x2 x3 y1 y2 y3 : ℕ) → (x1 ⊕ x2 ⊕ x3) ⊕ (y1 ⊕ y2 ⊕ y3) ≡ (x1 ⊕ y1) ⊕ (x2 ⊕ y2) ⊕ (x3 ⊕ y3)
      three x1 x2 x3 y1 y2 y3 =
          xor_medial (x1 ⊕ x2) x3 (y1 ⊕ y2) y3 ∙ ap (λ (t : ℕ). t ⊕ (x3 ⊕ y3)) (xor_medial x1 x2 y1 y2)

  -- z(D)·g0(D) = c(D)·g1(D)
  pub transfer_function : (k : ℕ) → k < length c → times_g0 (parities start c) k ≡ times_g1 c k
  unfolding times_g0 times_g1
  transfer_function k h =
      let x : ℕ → ℕ = λ (n : ℕ). delayed n a k in
      ap₂ ◌⊕◌ (ap₂ ◌⊕◌ (out 0) (out 2)) (out 3)
      ∙ nine (x 0) (x 1) (x 3) (x 2) (x 3) (x 5) (x 3) (x 4) (x 6)
      ∙ sym (ap₂ ◌⊕◌ (ap₂ ◌⊕◌ (given 0) (given 1)) (given 3))
    where
      out : (n : ℕ) → delayed n (parities start c) k ≡ delayed (n + 0) a k ⊕ delayed (n + 1) a k ⊕ delayed (n + 3) a k
      out n = delayed_sum (parities start c) 1 3 (λ i l. output_is i l) n k h

      given : (n : ℕ) → delayed n c k ≡ delayed (n + 0) a k ⊕ delayed (n + 2) a k ⊕ delayed (n + 3) a k
      given n = delayed_sum c 2 3 (λ i l. input_is i l) n k h

-- ---- trellis termination, clause 5.1.3.2.2

-- The three tail bits x of an encoder, fed to it after the K bits, bring its registers back to zero, and z are its outputs for them.
pub tail_ends : (s : Registers) → after s (x_tail 0 s ∷ x_tail 1 s ∷ x_tail 2 s ∷ []) ≡ start
unfolding after x_tail tailed next entering start
tail_ends s = simp xor_self

pub tail_outputs : (s : Registers) → parities s (x_tail 0 s ∷ x_tail 1 s ∷ x_tail 2 s ∷ []) ≡ z_tail 0 s ∷ z_tail 1 s ∷ z_tail 2 s ∷ []
unfolding parities x_tail z_tail tailed
tail_outputs s = refl
