-- Laws of the least G: a transmission gives every code block the bits that it needs exactly when it has at least so many, and no bits fewer do.
-- Assumes nothing.
use mathlib.Core.Path.{◌≡◌, sym, ◌∙◌, ap}
use mathlib.Core.Logic.{◌↔◌}
use Prim.Native.Nat.{ℕ, zero, suc, ◌+◌, ◌-◌, ◌*◌, ◌/◌, ◌%◌, ◌≤◌, ◌<◌}
use native.Mathlib.Nat.{div-add-mod', mod-lt, le-div_iff_mul-le, div-lt_iff_lt-mul, mul-le-mul_left, mul_comm, le-max_left, le-max_right, max-le}
use native.Mathlib.Decide.{dec_lt}
use native.Mathlib.Omega.{arith}
use lib.Arith.{digits_div}
use Rattle.codeword.specs.Shares.{symbols, share}
use Rattle.codeword.proofs.Shares.{share_is}
use Rattle.planning.specs.Needs.{Gives}
use Rattle.planning.specs.Least.{rounded_up, symbols_for, largest, least_symbols, least_bits}

-- ---- a code block's share in one formula: N·Q·⌊(G' + r) / C⌋

share_floor : (C Q N G r : ℕ) → r < C → share C Q N G r ≡ N * Q * ((symbols Q N G + r) / C)
share_floor C Q N G r h = share_is C Q N G r (omega arith) h ∙ ap (λ (x : ℕ). N * Q * x) (sym floor)
  where
    s : ℕ
    s = symbols Q N G

    floor : (s + r) / C ≡ s / C + (r + 1 - (C - s % C) - (r - (C - s % C)))
    floor =
        let parts : s / C * C + s % C ≡ s = div-add-mod' s C in
        let low : s % C < C = mod-lt s (omega arith) in
        elim (dec_lt (r + s % C) C) [
          | yes l ↦
              let sum : s + r ≡ s / C * C + (s % C + r) = omega arith in
              ap (λ (x : ℕ). x / C) sum ∙ digits_div (s / C) (omega arith) ∙ omega arith
          | no l ↦
              let sum : s + r ≡ (s / C + 1) * C + (s % C + r - C) = omega arith in
              ap (λ (x : ℕ). x / C) sum ∙ digits_div (s / C + 1) (omega arith) ∙ omega arith
        ]

-- ---- the ceiling, and the largest

module _ (step need m : ℕ) (some : 0 < step) where
  enough_units : need ≤ step * m → rounded_up step need ≤ m
  unfolding rounded_up
  enough_units h =
      let l : (need + (step - 1)) / step < m + 1 = (div-lt_iff_lt-mul {k = step} some).1 (omega arith) in
      omega arith

  units_enough : rounded_up step need ≤ m → need ≤ step * m
  unfolding rounded_up
  units_enough h =
      let parts : (need + (step - 1)) / step * step + (need + (step - 1)) % step ≡ need + (step - 1) = div-add-mod' (need + (step - 1)) step in
      let low : (need + (step - 1)) % step < step = mod-lt (need + (step - 1)) some in
      let most : step * ((need + (step - 1)) / step) ≤ step * m = mul-le-mul_left step h in
      omega arith

pub largest_over : (f : ℕ → ℕ) (n r : ℕ) → r < n → f r ≤ largest f n
unfolding largest
largest_over f zero r h = absurd (omega arith)
largest_over f (suc n) r h = elim (dec_lt r n) [
  | yes l ↦ omega (arith, largest_over f n r l, le-max_left (largest f n) (f n))
  | no l ↦
      let e : r ≡ n = omega arith in
      rw e (le-max_right (largest f n) (f n))
]

pub largest_within : (f : ℕ → ℕ) (n m : ℕ) → ((r : ℕ) → r < n → f r ≤ m) → largest f n ≤ m
unfolding largest
largest_within f zero m h = omega arith
largest_within f (suc n) m h = max-le (largest_within f n m (λ r l. h r (omega arith))) (h n (omega arith))

-- ---- the least G

module _ (need : ℕ → ℕ) (C Q N G : ℕ) (some : 0 < N * Q) where
  one_served : (r : ℕ) → r < C → symbols_for need C (N * Q) r ≤ symbols Q N G → need r ≤ share C Q N G r
  unfolding symbols_for
  one_served r h l =
      rw (share_floor C Q N G r h)
      (units_enough (N * Q) (need r) ((symbols Q N G + r) / C) some
      ((le-div_iff_mul-le {k = C} (omega arith)).1 (omega (arith, mul_comm C (rounded_up (N * Q) (need r))))))

  serves_one : (r : ℕ) → r < C → need r ≤ share C Q N G r → symbols_for need C (N * Q) r ≤ symbols Q N G
  unfolding symbols_for
  serves_one r h l =
      let units : rounded_up (N * Q) (need r) ≤ (symbols Q N G + r) / C =
      enough_units (N * Q) (need r) ((symbols Q N G + r) / C) some (rw (share_floor C Q N G r h) at l) in
      omega (arith, (le-div_iff_mul-le {k = C} (omega arith)).0 units)

  -- a transmission of G bits serves every code block exactly when G is at least the least
  pub gives_iff : Gives need C Q N G ↔ (least_bits need C Q N ≤ G)
  unfolding least_bits least_symbols symbols
  gives_iff = (
    λ gives.
        let most : largest (symbols_for need C (N * Q)) C ≤ symbols Q N G = largest_within _ C _ (λ r h. serves_one r h (gives r h)) in
        omega (arith, (le-div_iff_mul-le {k = N * Q} some).0 most, mul_comm (N * Q) (largest (symbols_for need C (N * Q)) C)),
    λ enough r h.
        one_served r h
        (let most : largest (symbols_for need C (N * Q)) C ≤ G / (N * Q) = (le-div_iff_mul-le {k = N * Q} some).1 (omega (arith, mul_comm (N * Q) (largest (symbols_for need C (N * Q)) C))) in
        omega (arith, largest_over (symbols_for need C (N * Q)) C r h)),
  )

  -- so one allocation unit lower some code block has fewer bits than it needs
  pub lower_fails : G + N * Q ≡ least_bits need C Q N → Gives need C Q N G → ⊥
  lower_fails e gives = omega (arith, gives_iff.0 gives)
