-- What stands in a column of the circle, clauses 5.1.4.1.1 and 5.1.4.1.2: every 32nd entry of its stream from the first row behind dummies and filler on; of
-- streams 1 and 2 that of stream 2 alone, and then of both by turns.
-- Assumes nothing.
use mathlib.Core.Path.{◌≡◌, sym, ◌∙◌, ap, ap₂, subst}
use mathlib.Core.Bool.{cond}
use mathlib.Core.List.{List, ◌++◌, map, map-append}
use Prim.Native.Nat.{ℕ, zero, suc, ◌+◌, ◌-◌, ◌*◌, ◌/◌, ◌%◌, ◌≤◌, ◌<◌}
use native.Mathlib.Nat.{add-zero, mod-eq_of_lt}
use native.Mathlib.Omega.{arith}
use lib.Arith.{digits_lt, digits_div, digits_mod}
use lib.Dec.{eqb}
use lib.ListN.{length, get_or}
use borrow.Author.Tests.{eq-eqb, ne_eqb}
use Rattle.laws.specs.Lists.{tab, tab_from}
use Rattle.laws.proofs.Tab.{tab_from_shift, map_tab_from, tab_ext}
use Rattle.rate_matching.specs.Columns.{column}
use Rattle.rate_matching.specs.SubBlocks.{rows, dummies, padded, read_plain, read_shifted, rows_before}
use Rattle.rate_matching.specs.Circle.{circle}
use Rattle.rate_matching.specs.Walk.{on_circle, itself}
use Rattle.rate_matching.specs.Places.{stream_of}
use Rattle.rate_matching.specs.Shape.{shape, bit_places, second, pair_places, last_place}
use Rattle.rate_matching.proofs.Columns.{column_rule}
use Rattle.rate_matching.proofs.Places.{dummies_add}
use Rattle.rate_matching.proofs.Circle.{padded_bit, circle_at_lem}
use Rattle.rate_matching.proofs.ShapeColumns.{row_before, row_from, first_few, column_places, pair_places_lem}
use Rattle.rate_matching.proofs.Units.{some_dummies}
use Rattle.bit_selection.specs.inner.Bits.{every_row, pair_row}

-- what holds of even and of odd numbers holds of all
by_parity : (P : ℕ → Type 0) → ((q : ℕ) → P (2 * q)) → ((q : ℕ) → P (2 * q + 1)) → (k : ℕ) → P k
by_parity P f g zero = f 0
by_parity P f g (suc zero) = g 0
by_parity P f g (suc (suc k)) = by_parity (λ (n : ℕ). P (suc (suc n))) (λ q. subst P (even q) (f (suc q))) (λ q. subst P (odd q) (g (suc q))) k
  where
    even : (q : ℕ) → 2 * suc q ≡ suc (suc (2 * q))
    even q = omega arith

    odd : (q : ℕ) → 2 * suc q + 1 ≡ suc (suc (2 * q + 1))
    odd q = omega arith

-- ---- what stands at row q of column c

module _ {R q : ℕ} (c : ℕ) (l : q < R) where
  plain_read : read_plain R (c * R + q) ≡ column c + 32 * q
  unfolding read_plain
  plain_read = rw (digits_div c l, digits_mod c l)

  shifted_read : read_shifted R (c * R + q) ≡ (column c + 32 * q + 1) % (32 * R)
  unfolding read_shifted
  shifted_read = rw (digits_div c l, digits_mod c l)

module _ (D : ℕ) (d0 d1 d2 : List ℕ) (l0 : length d0 ≡ D) (l1 : length d1 ≡ D) (l2 : length d2 ≡ D) {c q : ℕ} (h : c < 32) (l : q < rows D) where
  column_y : on_circle (circle d0 d1 d2) (c * rows D + q) ≡ get_or (padded d0) (column c + 32 * q) 0
  unfolding stream_of
  column_y = circle_at_lem D d0 d1 d2 l0 l1 l2 0 (c * rows D + q) (omega arith) (digits_lt h l) ∙ ap (λ (y : ℕ). get_or (padded d0) y 0) (plain_read c l)

  first_y : on_circle (circle d0 d1 d2) (32 * rows D + 2 * (c * rows D + q)) ≡ get_or (padded d1) (column c + 32 * q) 0
  unfolding stream_of
  first_y = circle_at_lem D d0 d1 d2 l0 l1 l2 1 (c * rows D + q) (omega arith) (digits_lt h l) ∙ ap (λ (y : ℕ). get_or (padded d1) y 0) (plain_read c l)

  second_y : on_circle (circle d0 d1 d2) (32 * rows D + (2 * (c * rows D + q) + 1)) ≡ get_or (padded d2) ((column c + 32 * q + 1) % (32 * rows D)) 0
  unfolding stream_of
  second_y = circle_at_lem D d0 d1 d2 l0 l1 l2 2 (c * rows D + q) (omega arith) (digits_lt h l) ∙ ap (λ (y : ℕ). get_or (padded d2) y 0) (shifted_read c l)

-- behind the dummies stands the stream
padded_entry : (D : ℕ) (d : List ℕ) → length d ≡ D → (y : ℕ) → dummies D ≤ y → get_or (padded d) y 0 ≡ get_or d (y - dummies D) 0
padded_entry D d l y h = ap (λ (n : ℕ). get_or (padded d) n 0) sum ∙ padded_bit D d l (y - dummies D)
  where
    sum : y ≡ dummies D + (y - dummies D)
    sum = omega arith

-- ---- the bits of column c

module _ (D F : ℕ) (d0 d1 d2 : List ℕ) (l0 : length d0 ≡ D) (l1 : length d1 ≡ D) (l2 : length d2 ≡ D) (some : D % 8 ≡ 4) (few : F < D)
    (c : ℕ) (h : c < 32) where
  abbrev R : ℕ
  R = rows D

  abbrev p : ℕ
  p = column c

  -- the first row with filler and dummies passed, and that of stream 2
  abbrev f : ℕ
  f = rows_before (dummies D + F) p

  abbrev e : ℕ
  e = rows_before (dummies D) (p + 1)

  p_lt : p < 32
  p_lt = (column_rule c h).0

  f_most : f ≤ R
  f_most = first_few D F (omega arith) c h

  behind : dummies D + F ≤ p + 32 * f
  behind = row_from (dummies D + F) p f (omega arith)

  pub column_bits_lem : map (on_circle (circle d0 d1 d2)) (bit_places (shape D F) (c * R) (c * R + R)) ≡ tab (R - f) (every_row d0 (p + 32 * f - dummies D))
  unfolding every_row tab itself
  column_bits_lem =
      ap (map (on_circle (circle d0 d1 d2))) (column_places D F (omega arith) c h)
      ∙ map_tab_from (c * R + f) (R - f) itself (on_circle (circle d0 d1 d2))
      ∙ ap (λ (i : ℕ). tab_from i (R - f) (on_circle (circle d0 d1 d2))) (sym (add-zero (c * R + f)))
      ∙ tab_from_shift (c * R + f) 0 (R - f) (on_circle (circle d0 d1 d2))
      ∙ tab_ext (R - f) (λ (q : ℕ). on_circle (circle d0 d1 d2) (c * R + f + q)) (every_row d0 (p + 32 * f - dummies D)) entry
    where
      entry : (q : ℕ) → q < R - f → on_circle (circle d0 d1 d2) (c * R + f + q) ≡ get_or d0 (p + 32 * f - dummies D + 32 * q) 0
      entry q l =
          let b : c * R + f + q ≡ c * R + (f + q) = omega arith in
          let i : p + 32 * (f + q) - dummies D ≡ p + 32 * f - dummies D + 32 * q = omega (arith, behind) in
          ap (on_circle (circle d0 d1 d2)) b
          ∙ column_y D d0 d1 d2 l0 l1 l2 h (omega (arith, f_most))
          ∙ padded_entry D d0 l0 (p + 32 * (f + q)) (omega (arith, behind))
          ∙ ap (λ (n : ℕ). get_or d0 n 0) i

  -- ---- streams 1 and 2 by turns

  abbrev j : ℕ
  j = 32 * R + c * (2 * R)

  -- the y place of stream 2 in a row where it stands alone, and in a row of both, before the last of all
  alone_within : (q : ℕ) → q < f → p + 32 * q + 1 < 32 * R
  alone_within q l = omega (arith, dummies_add D, row_before (dummies D + F) p q l)

  pair_within_lem : (q : ℕ) → 2 * q + 1 < 2 * R - p / 31 - 2 * f → p + 32 * (f + q) + 1 < 32 * R
  pair_within_lem q l = omega (arith, p_lt, f_most)

  pub pair_bits_lem : map (on_circle (circle d0 d1 d2)) (bit_places (shape D F) j (j + 2 * R)) ≡ tab (f - e) (every_row d2 (p + 1 + 32 * e - dummies D)) ++ tab (2 * R - p / 31 - 2 * f) (pair_row d1 d2 (p + 32 * f - dummies D))
  unfolding pair_places last_place second every_row pair_row tab itself
  pair_bits_lem =
      ap (map w) (pair_places_lem D F (omega arith) c h few (some_dummies D some))
      ∙ ap (map w) (map-append (λ (k : ℕ). j + k) (tab_from e (f - e) second) (tab_from (2 * f) (2 * R - p / 31 - 2 * f) itself))
      ∙ map-append w (map (λ (k : ℕ). j + k) (tab_from e (f - e) second)) (map (λ (k : ℕ). j + k) (tab_from (2 * f) (2 * R - p / 31 - 2 * f) itself))
      ∙ ap₂ ◌++◌ (mapped e (f - e) second _ alone) (mapped (2 * f) m itself _ both)
    where
      w : ℕ → ℕ
      w = on_circle (circle d0 d1 d2)

      m : ℕ
      m = 2 * R - p / 31 - 2 * f

      -- a stretch of places, entry by entry
      mapped : (i n : ℕ) (g h : ℕ → ℕ) → ((q : ℕ) → q < n → w (j + g (i + q)) ≡ h q) → map w (map (λ (k : ℕ). j + k) (tab_from i n g)) ≡ tab n h
      mapped i n g h z =
          ap (map w) (map_tab_from i n g (λ (k : ℕ). j + k))
          ∙ map_tab_from i n (λ (k : ℕ). j + g k) w
          ∙ ap (λ (a : ℕ). tab_from a n (λ (k : ℕ). w (j + g k))) (sym (add-zero i))
          ∙ tab_from_shift i 0 n (λ (k : ℕ). w (j + g k))
          ∙ tab_ext n (λ (q : ℕ). w (j + g (i + q))) h z

      -- stream 2 in row q
      second_bit_lem : (q : ℕ) → q < R → dummies D ≤ p + 32 * q + 1 → p + 32 * q + 1 < 32 * R
          → w (32 * R + (2 * (c * R + q) + 1)) ≡ get_or d2 (p + 32 * q + 1 - dummies D) 0
      second_bit_lem q l a b =
          second_y D d0 d1 d2 l0 l1 l2 h l
          ∙ ap (λ (y : ℕ). get_or (padded d2) y 0) (mod-eq_of_lt b)
          ∙ padded_entry D d2 l2 (p + 32 * q + 1) a

      alone : (q : ℕ) → q < f - e → w (j + second (e + q)) ≡ get_or d2 (p + 1 + 32 * e - dummies D + 32 * q) 0
      alone q l =
          let a : dummies D ≤ p + 1 + 32 * e = row_from (dummies D) (p + 1) e (omega arith) in
          let i : j + (2 * (e + q) + 1) ≡ 32 * R + (2 * (c * R + (e + q)) + 1) = omega arith in
          let n : p + 32 * (e + q) + 1 - dummies D ≡ p + 1 + 32 * e - dummies D + 32 * q = omega arith in
          ap w i ∙ second_bit_lem (e + q) (omega (arith, f_most)) (omega arith) (alone_within (e + q) (omega arith)) ∙ ap (λ (k : ℕ). get_or d2 k 0) n

      both : (k : ℕ) → k < m → w (j + (2 * f + k)) ≡ cond (eqb (k % 2) 0) (get_or d1 (p + 32 * f - dummies D + 32 * (k / 2)) 0) (get_or d2 (p + 32 * f - dummies D + 1 + 32 * (k / 2)) 0)
      both = by_parity
          (λ (k : ℕ). k < m → w (j + (2 * f + k)) ≡ cond (eqb (k % 2) 0) (get_or d1 (p + 32 * f - dummies D + 32 * (k / 2)) 0) (get_or d2 (p + 32 * f - dummies D + 1 + 32 * (k / 2)) 0))
          even odd
        where
          even : (q : ℕ) → 2 * q < m → w (j + (2 * f + 2 * q))
              ≡ cond (eqb (2 * q % 2) 0) (get_or d1 (p + 32 * f - dummies D + 32 * (2 * q / 2)) 0) (get_or d2 (p + 32 * f - dummies D + 1 + 32 * (2 * q / 2)) 0)
          even q l =
              let i : j + (2 * f + 2 * q) ≡ 32 * R + 2 * (c * R + (f + q)) = omega arith in
              let n : p + 32 * (f + q) - dummies D ≡ p + 32 * f - dummies D + 32 * (2 * q / 2) = omega (arith, behind) in
              simp (eq-eqb (2 * q % 2) 0 (omega arith))
              (ap w i ∙ first_y D d0 d1 d2 l0 l1 l2 h (omega (arith, f_most)) ∙ padded_entry D d1 l1 (p + 32 * (f + q)) (omega (arith, behind)) ∙ ap (λ (k : ℕ). get_or d1 k 0) n)

          odd : (q : ℕ) → 2 * q + 1 < m → w (j + (2 * f + (2 * q + 1)))
              ≡ cond (eqb ((2 * q + 1) % 2) 0) (get_or d1 (p + 32 * f - dummies D + 32 * ((2 * q + 1) / 2)) 0) (get_or d2 (p + 32 * f - dummies D + 1 + 32 * ((2 * q + 1) / 2)) 0)
          odd q l =
              let i : j + (2 * f + (2 * q + 1)) ≡ 32 * R + (2 * (c * R + (f + q)) + 1) = omega arith in
              let n : p + 32 * (f + q) + 1 - dummies D ≡ p + 32 * f - dummies D + 1 + 32 * ((2 * q + 1) / 2) = omega (arith, behind) in
              simp (ne_eqb ((2 * q + 1) % 2) 0 (λ z. omega arith))
              (ap w i ∙ second_bit_lem (f + q) (omega (arith, f_most)) (omega (arith, behind)) (pair_within_lem q l) ∙ ap (λ (k : ℕ). get_or d2 k 0) n)
