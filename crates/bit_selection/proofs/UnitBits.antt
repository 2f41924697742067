-- The bits of a unit of the circle, clauses 5.1.4.1.1 and 5.1.4.1.2: how many they are, that they are read inside the streams, and that they stand at the unit's places.
-- Assumes nothing.
use mathlib.Core.Path.{◌≡◌, refl, sym, ◌∙◌, ap, ap₂}
use mathlib.Core.Bool.{Bool, true, false}
use mathlib.Core.List.{List, ◌++◌, map, map-append}
use Prim.Native.Nat.{ℕ, zero, suc, ◌+◌, ◌-◌, ◌*◌, ◌/◌, ◌%◌, ◌≤◌, ◌<◌}
use native.Mathlib.Nat.{add-zero}
use native.Mathlib.Numerals.{add-one}
use native.Mathlib.Omega.{arith}
use lib.Dec.{ltb}
use lib.ListN.{length}
use borrow.Author.Tests.{ltb-true, ltb-false}
use Rattle.laws.specs.Lists.{tab}
use Rattle.rate_matching.specs.declared.Unit.{Unit}
use Rattle.rate_matching.specs.Columns.{column}
use Rattle.rate_matching.specs.SubBlocks.{rows, dummies, rows_before}
use Rattle.rate_matching.specs.Circle.{circle}
use Rattle.rate_matching.specs.Places.{longest}
use Rattle.rate_matching.specs.Walk.{on_circle}
use Rattle.rate_matching.specs.Shape.{shape, bit_places}
use Rattle.rate_matching.specs.Units.{column_unit, pair_unit, unit_at, alone_count, both_count, unit_start}
use Rattle.rate_matching.proofs.ShapeColumns.{bit_places_split}
use Rattle.rate_matching.proofs.ShapeTurn.{bit_places_none}
use Rattle.rate_matching.proofs.Units.{low_start, low_next, high_start, high_next, starts_rise}
use Rattle.rate_matching.proofs.UnitPlaces.{column_rowed, column_lies, pair_lies, alone_none, alone_count_lem, column_count, pair_count, told_low, told_high, by_kind}
use Rattle.bit_selection.specs.inner.Bits.{every_row, pair_row, bits_of, unit_bits, units_from, Reads}
use Rattle.bit_selection.proofs.ColumnBits.{column_bits_lem, pair_bits_lem}

-- ---- of column c

module _ {D F c : ℕ} (most : D ≤ longest) (few : F < D) (h : c < 32) where
  abbrev R : ℕ
  R = rows D

  abbrev p : ℕ
  p = column c

  abbrev e : ℕ
  e = rows_before (dummies D) (p + 1)

  abbrev f : ℕ
  f = rows_before (dummies D + F) p

  -- there are so many

  column_size : alone_count (column_unit D F c) + both_count (column_unit D F c) ≤ R
  column_size = omega (arith, alone_none most few h, column_count most few h)

  pair_size : alone_count (pair_unit D F c) + both_count (pair_unit D F c) ≤ 2 * R
  pair_size = omega (arith, alone_count_lem most few h, pair_count most few h, (column_rowed most few h).high)

  -- what it reads

  column_reads : Reads D (column_unit D F c)
  unfolding column_unit
  column_reads = record {
    lies = column_lies most few h;
    column = λ z. rw (column_count most few h) (omega (arith, column_rowed most few h));
    alone = λ z. absurd (z refl);
    first = λ z. absurd (z refl);
    second = λ z. absurd (z refl);
  }

  pair_reads : Reads D (pair_unit D F c)
  unfolding pair_unit
  pair_reads = record {
    lies = pair_lies most few h;
    column = λ z. absurd (omega (arith, z));
    alone = λ z. rw (alone_count_lem most few h) (omega (arith, column_rowed most few h));
    first = λ z. rw (pair_count most few h) (omega (arith, column_rowed most few h));
    second = λ z. rw (pair_count most few h) (omega (arith, column_rowed most few h));
  }

-- ---- of unit u

module _ {D F : ℕ} (u : ℕ) (most : D ≤ longest) (few : F < D) {U : Unit} (is : U ≡ unit_at D F u) where
  -- which stream its first place is of
  pub column_stream : u < 32 → U.first.0 ≡ 0
  unfolding column_unit
  column_stream h = ap (λ (x : Unit). x.first.0) (told_low u most few is h)

  pub pair_stream : 32 ≤ u → U.first.0 ≡ 0 → ⊥
  unfolding pair_unit
  pair_stream h z = let one : U.first.0 ≡ 1 = ap (λ (x : Unit). x.first.0) (told_high u most few is h) in omega arith

  -- what it reads lies in the streams
  pub unit_reads : u < 64 → Reads D U
  unit_reads l = by_kind u most few is (Reads D) l (column_reads most few) (pair_reads most few)

  -- it has no more bits than places
  pub unit_few : u < 64 → alone_count U + both_count U ≤ unit_start (rows D) (u + 1) - unit_start (rows D) u
  unit_few l = go (ltb u 32) refl
    where
      go : (a : Bool) → ltb u 32 ≡ a → alone_count U + both_count U ≤ unit_start (rows D) (u + 1) - unit_start (rows D) u
      go true s = let h : u < 32 = ltb-true u 32 s in rw (told_low u most few is h) (omega (arith, low_next (rows D) u h, column_size most few h))
      go false s = let h : 32 ≤ u = ltb-false u 32 s in rw (told_high u most few is h) (let c : u - 32 < 32 = omega arith in omega (arith, high_next (rows D) u h, pair_size most few c))

-- ---- they stand at its places

module _ (D F : ℕ) (d0 d1 d2 : List ℕ) (l0 : length d0 ≡ D) (l1 : length d1 ≡ D) (l2 : length d2 ≡ D) (some : D % 8 ≡ 4) (few : F < D) (most : D ≤ longest) where
  pub unit_bits_lem : (u : ℕ) → u < 64
      → map (on_circle (circle d0 d1 d2)) (bit_places (shape D F) (unit_start (rows D) u) (unit_start (rows D) (u + 1))) ≡ unit_bits D d0 d1 d2 F u
  unfolding unit_bits bits_of column_unit pair_unit
  unit_bits_lem u l = go (ltb u 32) refl
    where
      low : (h : u < 32) → bits_of d0 d1 d2 (column_unit D F u) ≡ tab (rows D - f most few h) (every_row d0 (p most few h + 32 * f most few h - dummies D))
      low h = ap (λ (n : ℕ). tab n (every_row d0 (p most few h + 32 * f most few h - dummies D))) (column_count most few h)

      high : (h : u - 32 < 32) → bits_of d0 d1 d2 (pair_unit D F (u - 32))
          ≡ tab (f most few h - e most few h) (every_row d2 (p most few h + 1 + 32 * e most few h - dummies D))
          ++ tab (2 * rows D - p most few h / 31 - 2 * f most few h) (pair_row d1 d2 (p most few h + 32 * f most few h - dummies D))
      high h =
          ap₂ (λ (a b : ℕ). tab a (every_row d2 (p most few h + 1 + 32 * e most few h - dummies D)) ++ tab b (pair_row d1 d2 (p most few h + 32 * f most few h - dummies D)))
          (alone_count_lem most few h) (pair_count most few h)

      go : (t : Bool) → ltb u 32 ≡ t
          → map (on_circle (circle d0 d1 d2)) (bit_places (shape D F) (unit_start (rows D) u) (unit_start (rows D) (u + 1))) ≡ bits_of d0 d1 d2 (unit_at D F u)
      go true t =
          let h : u < 32 = ltb-true u 32 t in
          rw (low_next (rows D) u h, low_start (rows D) u h) (column_bits_lem D F d0 d1 d2 l0 l1 l2 some few u h)
          ∙ sym (ap (bits_of d0 d1 d2) (told_low u most few refl h) ∙ low h)
      go false t =
          let h : 32 ≤ u = ltb-false u 32 t in
          let c : u - 32 < 32 = omega arith in
          rw (high_next (rows D) u h, high_start (rows D) u h) (pair_bits_lem D F d0 d1 d2 l0 l1 l2 some few (u - 32) c)
          ∙ sym (ap (bits_of d0 d1 d2) (told_high u most few refl h) ∙ high c)

  pub units_are : (n u : ℕ) → u + n ≤ 64
      → units_from D d0 d1 d2 F u n ≡ map (on_circle (circle d0 d1 d2)) (bit_places (shape D F) (unit_start (rows D) u) (unit_start (rows D) (u + n)))
  unfolding units_from
  units_are zero u h = rw (add-zero u, bit_places_none (shape D F) (unit_start (rows D) u) (unit_start (rows D) u) (omega arith))
  units_are (suc n) u h =
      ap₂ ◌++◌ (sym (unit_bits_lem u (omega arith))) (units_are n (suc u) (omega arith))
      ∙ sym (map-append (on_circle (circle d0 d1 d2)) (bit_places (shape D F) (unit_start R u) (unit_start R (u + 1))) (bit_places (shape D F) (unit_start R (suc u)) (unit_start R (suc u + n))))
      ∙ ap (map (on_circle (circle d0 d1 d2)))
      (ap₂ (λ (a b : ℕ). bit_places (shape D F) (unit_start R u) (unit_start R (u + 1)) ++ bit_places (shape D F) (unit_start R a) (unit_start R b)) (sym (add-one u)) ends
      ∙ sym (bit_places_split (shape D F) (unit_start R u) (unit_start R (u + suc n)) (unit_start R (u + 1)) (starts_rise R u (u + 1) (omega arith)) (starts_rise R (u + 1) (u + suc n) (omega arith))))
    where
      R : ℕ
      R = rows D

      ends : suc u + n ≡ u + suc n
      ends = omega arith
