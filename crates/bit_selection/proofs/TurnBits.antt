-- The units of a circle that is cut, from a version's start on round to it, are one turn, clause 5.1.4.1.2: their bits are those at the turn's places.
-- Assumes nothing.
use mathlib.Core.Path.{◌≡◌, sym, ◌∙◌, ap, ap₂}
use mathlib.Core.List.{List, ◌++◌, map, map-append}
use Prim.Native.Nat.{ℕ, ◌+◌, ◌-◌, ◌%◌, ◌≤◌, ◌<◌}
use native.Mathlib.Decide.{dec_lt}
use native.Mathlib.Omega.{arith}
use lib.ListN.{length, take, length-take, length-map}
use lib.Seq.{take_at}
use Rattle.rate_matching.specs.SubBlocks.{rows}
use Rattle.rate_matching.specs.Circle.{circle, Cut, start_in}
use Rattle.rate_matching.specs.Places.{longest}
use Rattle.rate_matching.specs.Walk.{on_circle, turn}
use Rattle.rate_matching.specs.Shape.{shape, bit_places}
use Rattle.rate_matching.specs.Units.{unit_start, start_unit, whole_units}
use Rattle.rate_matching.proofs.Circle.{start_below}
use Rattle.rate_matching.proofs.ShapeTurn.{bit_places_none, length_shape}
use Rattle.rate_matching.proofs.ShapeColumns.{bit_places_split}
use Rattle.rate_matching.proofs.Units.{low_start, high_next, starts_rise}
use Rattle.rate_matching.proofs.Cut.{cut_place, rest_few, whole_least, whole_most, start_head, start_whole, turn_cut, rest_bits, no_rest, none_cut, shortened_count}
use Rattle.bit_selection.specs.inner.Bits.{unit_bits, units_from}
use Rattle.bit_selection.proofs.UnitBits.{unit_bits_lem, units_are}

module _ (D F : ℕ) (d0 d1 d2 : List ℕ) (l0 : length d0 ≡ D) (l1 : length d1 ≡ D) (l2 : length d2 ≡ D) (some : D % 8 ≡ 4) (few : F < D) (most : D ≤ longest) where
  abbrev w : ℕ → ℕ
  w = on_circle (circle d0 d1 d2)

  module _ {Ncb : ℕ} (cut : Cut Ncb (rows D)) where
    abbrev whole : ℕ
    whole = whole_units Ncb (rows D)

    abbrev rest : ℕ
    rest = rest_bits D F some few most cut

    -- the bits of the unit that is cut
    rest_are : take rest (unit_bits D d0 d1 d2 F whole) ≡ map w (bit_places (shape D F) (unit_start (rows D) whole) Ncb)
    rest_are = elim (dec_lt whole 64) [
      | yes l ↦
          ap (take rest) (sym (unit_bits_lem D F d0 d1 d2 l0 l1 l2 some few most whole l) ∙ ap (map w) (split l) ∙ map-append w (xs l) (ys l))
          ∙ take_at (map w (xs l)) (map w (ys l)) rest (length-map (xs l) w ∙ shortened_count D F some few most cut)
      | no l ↦
          ap (λ (n : ℕ). take n (unit_bits D d0 d1 d2 F whole)) (none_cut D F some few most cut (omega arith))
          ∙ ap (map w) (sym (bit_places_none (shape D F) (unit_start (rows D) whole) Ncb (omega (arith, cut_place cut, no_rest D F some few most cut (omega arith)))))
    ]
      where
        xs : whole < 64 → List ℕ
        xs l = bit_places (shape D F) (unit_start (rows D) whole) Ncb

        ys : whole < 64 → List ℕ
        ys l = bit_places (shape D F) Ncb (unit_start (rows D) (whole + 1))

        split : (l : whole < 64) → bit_places (shape D F) (unit_start (rows D) whole) (unit_start (rows D) (whole + 1)) ≡ xs l ++ ys l
        split l = bit_places_split (shape D F) (unit_start (rows D) whole) (unit_start (rows D) (whole + 1)) Ncb (omega (arith, cut_place cut)) (omega (arith, cut_place cut, rest_few cut, high_next (rows D) whole (whole_least cut)))

    -- there are so many
    pub rest_within : rest ≤ length (unit_bits D d0 d1 d2 F whole)
    rest_within = omega (arith, length-take rest (unit_bits D d0 d1 d2 F whole), ap length rest_are, length-map (bit_places (shape D F) (unit_start (rows D) whole) Ncb) w, shortened_count D F some few most cut)

    -- the whole units from a version's start on, the places of the one that is cut, and the units up to the start
    pub units_turn : (v : ℕ) → v ≤ 3 → {s : ℕ} → s ≡ start_unit Ncb (rows D) v
        → (units_from D d0 d1 d2 F s (whole - s) ++ take rest (unit_bits D d0 d1 d2 F whole)) ++ units_from D d0 d1 d2 F 0 (s - 0)
        ≡ map w (turn (take Ncb (shape D F)) (start_in Ncb (rows D) v))
    units_turn v h {s} e =
        ap₂ ◌++◌ (ap₂ ◌++◌ (units_are D F d0 d1 d2 l0 l1 l2 some few most (whole - s) s (omega (arith, below, whole_most cut))) rest_are ∙ sym (map-append w xs ys))
        (units_are D F d0 d1 d2 l0 l1 l2 some few most (s - 0) 0 (omega (arith, below, whole_most cut)))
        ∙ sym (map-append w (xs ++ ys) zs)
        ∙ ap (map w) (ap₂ ◌++◌ front back ∙ sym (turn_cut (shape D F) Ncb k0 fits (omega (arith, start_below cut v h))))
      where
        R : ℕ
        R = rows D

        k0 : ℕ
        k0 = start_in Ncb (rows D) v

        start : unit_start R s ≡ k0
        start = ap (unit_start R) e ∙ start_head cut v

        below : s ≤ whole
        below = rw e (start_whole cut v h)

        xs : List ℕ
        xs = bit_places (shape D F) (unit_start R s) (unit_start R (s + (whole - s)))

        ys : List ℕ
        ys = bit_places (shape D F) (unit_start R whole) Ncb

        zs : List ℕ
        zs = bit_places (shape D F) (unit_start R 0) (unit_start R (0 + (s - 0)))

        fits : Ncb ≤ length (shape D F)
        fits = rw (length_shape D F (omega arith)) cut.most

        front : xs ++ ys ≡ bit_places (shape D F) k0 Ncb
        front =
            let till : s + (whole - s) ≡ whole = omega (arith, below) in
            ap (λ (m : ℕ). bit_places (shape D F) (unit_start R s) (unit_start R m) ++ ys) till
            ∙ sym (bit_places_split (shape D F) (unit_start R s) Ncb (unit_start R whole) (starts_rise R s whole below) (omega (arith, cut_place cut)))
            ∙ ap (λ (m : ℕ). bit_places (shape D F) m Ncb) start

        back : zs ≡ bit_places (shape D F) 0 k0
        back =
            let low : unit_start R 0 ≡ 0 = low_start R 0 (omega arith) ∙ omega arith in
            let same : 0 + (s - 0) ≡ s = omega arith in
            ap₂ (bit_places (shape D F)) low (ap (unit_start R) same ∙ start)
