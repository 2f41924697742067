-- The shares of clause 5.1.4.1.2 in closed form: where each code block's stretch starts, and that the shares of all code blocks are the G bits.
-- Assumes nothing.
use mathlib.Core.Path.{◌≡◌, refl, sym, ◌∙◌, ap, ap₂}
use mathlib.Core.Bool.{Bool, true, false, cond}
use Prim.Native.Nat.{ℕ, zero, suc, ◌+◌, ◌-◌, ◌*◌, ◌/◌, ◌%◌, ◌≤◌, ◌<◌}
use native.Mathlib.Nat.{div-add-mod', mod-lt, mul-add, mul-zero, zero-add, suc-add}
use native.Mathlib.Omega.{arith}
use lib.Arith.{digits_div}
use lib.Dec.{leb}
use borrow.Author.Tests.{leb-true, leb-false}
use Rattle.codeword.specs.Shares.{symbols, share, shares_before}

-- the ceiling of g / C where C does not divide g
ceiling : (g C : ℕ) → 0 < C → 0 < g % C → (g + (C - 1)) / C ≡ g / C + 1
ceiling g C pos h =
    let parts : g / C * C + g % C ≡ g = div-add-mod' g C in
    let low : g % C < C = mod-lt g pos in
    let whole : g + (C - 1) ≡ (g / C + 1) * C + (g % C - 1) = omega arith in
    ap (λ (x : ℕ). x / C) whole ∙ digits_div (g / C + 1) (omega arith)

-- E of code block r: N·Q symbols' worth of the floor, and one more for the last G' mod C blocks
pub share_is : (C Q N G r : ℕ) → 0 < C → r < C
    → share C Q N G r ≡ N * Q * (symbols Q N G / C + (r + 1 - (C - symbols Q N G % C) - (r - (C - symbols Q N G % C))))
unfolding share
share_is C Q N G r pos h = go (leb (r + symbols Q N G % C + 1) C) refl
  where
    low : symbols Q N G % C < C
    low = mod-lt (symbols Q N G) pos

    go : (t : Bool) → leb (r + symbols Q N G % C + 1) C ≡ t
        → cond t (N * Q * (symbols Q N G / C)) (N * Q * ((symbols Q N G + (C - 1)) / C))
        ≡ N * Q * (symbols Q N G / C + (r + 1 - (C - symbols Q N G % C) - (r - (C - symbols Q N G % C))))
    go true e =
        let f : r + symbols Q N G % C + 1 ≤ C = leb-true _ _ e in
        ap (λ (x : ℕ). N * Q * x) (omega arith)
    go false e =
        let f : C < r + symbols Q N G % C + 1 = leb-false _ _ e in
        ap (λ (x : ℕ). N * Q * x) (ceiling (symbols Q N G) C pos (omega arith) ∙ omega arith)

-- one more share after those of r code blocks
one_more : (s q d r : ℕ)
    → s * (q * r + (r - d)) + s * (q + (r + 1 - d - (r - d))) ≡ s * (q * suc r + (suc r - d))
one_more s q d r =
    let sum : q * r + (r - d) + (q + (r + 1 - d - (r - d))) ≡ q * suc r + (suc r - d) = omega arith in
    sym (mul-add s (q * r + (r - d)) (q + (r + 1 - d - (r - d)))) ∙ ap (λ (x : ℕ). s * x) sum

-- where the stretch of code block r starts
pub before_is : (C Q N G r : ℕ) → 0 < C → r ≤ C
    → shares_before C Q N G r ≡ N * Q * (symbols Q N G / C * r + (r - (C - symbols Q N G % C)))
unfolding shares_before
before_is C Q N G zero pos h =
    let none : symbols Q N G / C * 0 + (0 - (C - symbols Q N G % C)) ≡ 0 = omega arith in
    sym (ap (λ (x : ℕ). N * Q * x) none ∙ mul-zero (N * Q))
before_is C Q N G (suc r) pos h =
    ap₂ (λ (x y : ℕ). x + y) (before_is C Q N G r pos (omega arith)) (share_is C Q N G r pos (omega arith))
    ∙ one_more (N * Q) (symbols Q N G / C) (C - symbols Q N G % C) r

-- all code blocks together send the G bits
pub shares_all : (C Q N G : ℕ) → 0 < C → G % (N * Q) ≡ 0 → shares_before C Q N G C ≡ G
unfolding symbols
shares_all C Q N G pos multiple =
    let low : symbols Q N G % C < C = mod-lt (symbols Q N G) pos in
    let symbols_are : symbols Q N G / C * C + (C - (C - symbols Q N G % C)) ≡ symbols Q N G =
    omega (arith, div-add-mod' (symbols Q N G) C) in
    before_is C Q N G C pos (omega arith)
    ∙ ap (λ (x : ℕ). N * Q * x) symbols_are
    ∙ omega (arith, div-add-mod' G (N * Q))

-- the shares before a later code block are no fewer
before_rises : (C Q N G r n : ℕ) → shares_before C Q N G r ≤ shares_before C Q N G (n + r)
unfolding shares_before
before_rises C Q N G r zero = rw (zero-add r) (omega arith)
before_rises C Q N G r (suc n) = rw (suc-add n r) (omega (arith, before_rises C Q N G r n))

-- the stretch of code block r ends within the G bits
pub stretch_within : (C Q N G r : ℕ) → r < C → G % (N * Q) ≡ 0 → shares_before C Q N G r + share C Q N G r ≤ G
unfolding shares_before
stretch_within C Q N G r h multiple =
    let rest : C - suc r + suc r ≡ C = omega arith in
    let rises : shares_before C Q N G (suc r) ≤ shares_before C Q N G C = rw rest at (before_rises C Q N G (suc r) (C - suc r)) in
    omega (arith, shares_all C Q N G (omega arith) multiple)
