-- One turn of a circle that is cut, clause 5.1.4.1.2, by its units: what its three numbers are, and which places of the shortened unit lie before the cut.
-- Assumes nothing.
use mathlib.Core.Path.{◌≡◌, ◌∙◌, ap}
use mathlib.Core.Bool.{true, false}
use Prim.Native.Nat.{ℕ, ◌+◌, ◌*◌, ◌%◌, ◌≤◌, ◌<◌}
use native.Mathlib.Omega.{arith}
use lib.ListN.{take}
use lib.Seq.{take_at}
use Rattle.std.specs.declared.option.Option.TheVariants.{Some, None}
use Rattle.rate_matching.specs.SubBlocks.{rows}
use Rattle.rate_matching.specs.Circle.{circle_length, Cut, cut_at}
use Rattle.rate_matching.specs.Places.{longest}
use Rattle.rate_matching.specs.Shape.{shape, bit_places}
use Rattle.rate_matching.specs.Units.{unit_start, unit_of, start_unit, whole_units}
use Rattle.rate_matching.specs.Turns.{matchable, units_of, turn_of}
use Rattle.rate_matching.proofs.Circle.{eighths, eighths_all}
use Rattle.rate_matching.proofs.ShapeColumns.{bit_places_split}
use Rattle.rate_matching.proofs.Units.{high_next}
use Rattle.rate_matching.proofs.Cut.{cut_place, rest_few, whole_least, whole_all, rest_bits, none_cut, shortened_count}

module _ (D F soft v : ℕ) {Ncb : ℕ} (cut : Ncb ≡ cut_at soft (rows D)) where
  pub turn_none : matchable D D D F Ncb v ≡ false → None ≡ turn_of D F soft v
  unfolding turn_of
  turn_none t = rw (rw cut at t)

  pub turn_told : matchable D D D F Ncb v ≡ true → Some (units_of D F Ncb v) ≡ turn_of D F soft v
  unfolding turn_of
  turn_told t = rw (rw cut at t) (ap (λ (n : ℕ). Some (units_of D F n v)) cut)

-- a circle that is not cut: N_cb is 12 times 8·R, and all 64 units lie before it
module _ (D F v : ℕ) (some : D % 8 ≡ 4) (few : F < D) (most : D ≤ longest) {Ncb : ℕ} (cut : Cut Ncb (rows D)) (all : Ncb ≡ circle_length (rows D)) where
  start_uncut : start_unit Ncb (rows D) v ≡ unit_of (12 * v)
  unfolding start_unit
  start_uncut = ap (λ (n : ℕ). unit_of (n * v)) (ap (λ (n : ℕ). eighths n (rows D)) all ∙ eighths_all (rows D) cut.some)

  pub units_uncut : units_of D F Ncb v ≡ record { start = unit_of (12 * v); whole = 64; rest = 0 }
  unfolding units_of
  units_uncut = rw (start_uncut, none_cut D F some few most cut (omega (arith, whole_all cut all)), whole_all cut all)

-- the bits of the shortened unit that lie before the cut
module _ (D F : ℕ) (some : D % 8 ≡ 4) (few : F < D) (most : D ≤ longest) {Ncb : ℕ} (cut : Cut Ncb (rows D)) where
  abbrev whole : ℕ
  whole = whole_units Ncb (rows D)

  pub rest_taken : take (rest_bits D F some few most cut) (bit_places (shape D F) (unit_start (rows D) whole) (unit_start (rows D) (whole + 1))) ≡ bit_places (shape D F) (unit_start (rows D) whole) Ncb
  rest_taken =
      ap (take (rest_bits D F some few most cut))
      (bit_places_split (shape D F) (unit_start (rows D) whole) (unit_start (rows D) (whole + 1)) Ncb (omega (arith, cut_place cut)) (omega (arith, cut_place cut, rest_few cut, high_next (rows D) whole (whole_least cut))))
      ∙ take_at (bit_places (shape D F) (unit_start (rows D) whole) Ncb) (bit_places (shape D F) Ncb (unit_start (rows D) (whole + 1))) (rest_bits D F some few most cut) (shortened_count D F some few most cut)
