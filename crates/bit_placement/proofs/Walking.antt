-- The loops that put bits along a code block's circle, clause 5.1.4.1.2 and 01 'Receive': unit after unit, from a version's start to the cut and round to the start.
-- Assumes nothing.
use mathlib.Core.Path.{◌≡◌, refl, sym, ◌∙◌, ap, ap₂}
use mathlib.Core.List.{List, [], ◌∷◌, ◌++◌, append-nil}
use Prim.Native.Nat.{ℕ, ◌+◌, ◌-◌, ◌*◌, ◌/◌, ◌≤◌, ◌<◌}
use native.Mathlib.Decide.{dec_lt}
use native.Mathlib.Omega.{arith}
use lib.ListN.{length, take}
use Rattle.laws.specs.Lists.{tab, tab_from}
use Rattle.laws.proofs.Tab.{tab_split}
use Rattle.std.specs.declared.option.Option.TheVariants.{Some}
use Rattle.rate_matching.specs.declared.Turn.{Turn}
use Rattle.rate_matching.specs.declared.Unit.{Unit}
use Rattle.rate_matching.specs.SubBlocks.{rows}
use Rattle.rate_matching.specs.Circle.{circle_length, cut_at, start_in}
use Rattle.rate_matching.specs.Walk.{itself}
use Rattle.rate_matching.specs.Shape.{shape, bit_places}
use Rattle.rate_matching.specs.Units.{column_unit, unit_at, alone_place, alone_count, both_count, unit_places, unit_start, start_unit, whole_units, Lies}
use Rattle.rate_matching.specs.Turns.{units_of, turn_of}
use Rattle.rate_matching.proofs.Circle.{start_below}
use Rattle.rate_matching.proofs.ShapeTurn.{bit_places_none, length_shape}
use Rattle.rate_matching.proofs.ShapeColumns.{bit_places_split}
use Rattle.rate_matching.proofs.Units.{low_start, starts_rise}
use Rattle.rate_matching.proofs.UnitPlaces.{unit_low, unit_lies, unit_ends, named_at}
use Rattle.rate_matching.proofs.Cut.{cut_place, whole_most, rest_before, shortened_few, start_head, start_whole, rest_bits, no_rest, none_cut, turn_cut}
use Rattle.rate_matching.proofs.MatchableBlocks.{Matchable, matchable_is}
use Rattle.rate_matching.proofs.Turns.{turn_told, rest_taken}
use Rattle.bit_placement.specs.Placement.{turn_in}
use Rattle.bit_placement.specs.inner.Along.{Put, every_second, Sized, Walked, Sends}
use Rattle.bit_placement.proofs.Along.{left_of, put_append, put_as, put_none}

-- a list that is as long has the circle's places too
pub walked_still : {D F n m : ℕ} → Walked D F n → m ≡ n → Walked D F m
walked_still w e = record { least = w.least; most = w.most; some = w.some; filler = w.filler; fits = omega (arith, w.fits) }

-- so has a code block's
pub walked_of : {D F long : ℕ} → Sized D F → circle_length (rows D) ≤ long → Walked D F long
walked_of w h = record { least = w.least; most = w.most; some = w.some; filler = w.filler; fits = h }

-- what the test of such a code block and version tells
pub sends_matchable : {D F soft v long : ℕ} → Sends D F soft v long → Matchable D D D F (cut_at soft (rows D)) v
sends_matchable w = record {
  fits = record { first = refl; second = refl; some = w.walked.some; most = w.walked.most; filler = w.walked.filler };
  least = w.walked.least;
  cut = w.cut;
  version = w.version;
}

-- ---- every second place

-- k places are put
pub record Alone (from : ℕ) (bits part₀ part : List ℕ) (n k : ℕ) : Type 0 where
  pub put : Put (tab k (every_second from)) bits part₀ part n

module _ {from : ℕ} {bits part₀ : List ℕ} where
  pub alone_start : Alone from bits part₀ part₀ 0 0
  unfolding tab tab_from
  alone_start = record { put = put_none }

  pub alone_next : {part part' : List ℕ} {n k r : ℕ} → Alone from bits part₀ part n k
      → Put (tab_from (from + 2 * k) (from + 2 * k + 1 - (from + 2 * k)) itself) (left_of n bits) part part' r → Alone from bits part₀ part' (n + r) (k + 1)
  unfolding tab tab_from every_second itself
  alone_next {k = k} w p = record { put = put_as more (put_append w.put p) }
    where
      one : from + 2 * k + 1 - (from + 2 * k) ≡ 1
      one = omega arith

      there : from + 2 * k ≡ from + 2 * (k + 0)
      there = omega arith

      more : tab k (every_second from) ++ tab_from (from + 2 * k) (from + 2 * k + 1 - (from + 2 * k)) itself ≡ tab (k + 1) (every_second from)
      more =
          ap (λ (n : ℕ). tab k (every_second from) ++ tab_from (from + 2 * k) n itself) one
          ∙ ap (λ (n : ℕ). tab k (every_second from) ++ (n ∷ [])) there
          ∙ sym (tab_split k 1 (every_second from))

-- ---- a unit

pub unit_put : (U : Unit) {bits part₀ part₁ part₂ : List ℕ} {n r : ℕ}
    → Put (tab ((U.both.0 + 1 - U.alone.0) / 2) (every_second U.alone.0)) bits part₀ part₁ n
    → Put (tab_from U.both.0 (U.end.0 - U.both.0) itself) (left_of n bits) part₁ part₂ r
    → Put (unit_places U) bits part₀ part₂ (n + r)
unfolding unit_places alone_count both_count alone_place every_second
unit_put U p q = put_append p q

-- ---- unit after unit

-- the units from `from` to u are put
pub record Units (D F from to : ℕ) (bits part₀ part : List ℕ) (n u : ℕ) : Type 0 where
  pub passed : (from ≤ u) × (u ≤ to)
  pub put : Put (bit_places (shape D F) (unit_start (rows D) from) (unit_start (rows D) u)) bits part₀ part n

-- a unit lies in a list that has the circle's places
pub unit_within_lem : {D F long : ℕ} → Walked D F long → (u : ℕ) {U : Unit} → u < 64 → U ≡ unit_at D F u → Lies U × (U.end.0 ≤ long)
unit_within_lem w u l is = (unit_lies u w.most w.filler is l, omega (arith, unit_ends u w.most w.filler is l, w.fits))

module _ {D F from to : ℕ} {bits part₀ : List ℕ} (w : Walked D F (length part₀)) (rise : from ≤ to) (few : to ≤ 64) where
  pub units_start : Units D F from to bits part₀ part₀ 0 from
  units_start = record {
    passed = (omega arith, rise);
    put = put_as (sym (bit_places_none (shape D F) (unit_start (rows D) from) (unit_start (rows D) from) (omega arith))) put_none;
  }

  pub units_next : {part part' : List ℕ} {n u r : ℕ} {U : Unit} → u < to → Units D F from to bits part₀ part n u → U ≡ unit_at D F u
      → Put (unit_places U) (left_of n bits) part part' r → Units D F from to bits part₀ part' (n + r) (u + 1)
  units_next {u = u} h s is p = record {
    passed = (omega (arith, s.passed), omega arith);
    put = put_as whole (put_append s.put (put_as (named_at u w.most w.filler is w.some (omega (arith, few))) p));
  }
    where
      whole : bit_places (shape D F) (unit_start (rows D) from) (unit_start (rows D) u) ++ bit_places (shape D F) (unit_start (rows D) u) (unit_start (rows D) (u + 1))
          ≡ bit_places (shape D F) (unit_start (rows D) from) (unit_start (rows D) (u + 1))
      whole = sym (bit_places_split (shape D F) (unit_start (rows D) from) (unit_start (rows D) (u + 1)) (unit_start (rows D) u) (starts_rise (rows D) from u s.passed.0) (starts_rise (rows D) u (u + 1) (omega arith)))

-- a column has no place of stream 2 alone
pub column_put : (D F u : ℕ) {U : Unit} {bits part part' : List ℕ} {r : ℕ} → u < 32 → U ≡ unit_at D F u
    → Put (tab_from U.both.0 (U.end.0 - U.both.0) itself) bits part part' r → Put (unit_places U) bits part part' r
unfolding unit_places alone_count both_count column_unit tab tab_from
column_put D F u {U} low is p = put_as (ap (λ (n : ℕ). tab n (alone_place U) ++ tab_from U.both.0 (U.end.0 - U.both.0) itself) none) p
  where
    same : U.alone.0 ≡ U.both.0
    same = rw (is ∙ unit_low D F low)

    none : 0 ≡ (U.both.0 + 1 - U.alone.0) / 2
    none = omega (arith, same)

-- columns, and then pairs
pub columns_pairs : (D F from to : ℕ) {bits part₀ part₁ part₂ : List ℕ} {n r : ℕ} → from ≤ 32 → 32 ≤ to
    → Put (bit_places (shape D F) (unit_start (rows D) from) (unit_start (rows D) 32)) bits part₀ part₁ n
    → Put (bit_places (shape D F) (unit_start (rows D) 32) (unit_start (rows D) to)) (left_of n bits) part₁ part₂ r
    → Put (bit_places (shape D F) (unit_start (rows D) from) (unit_start (rows D) to)) bits part₀ part₂ (n + r)
columns_pairs D F from to low high p q =
    put_as (sym (bit_places_split (shape D F) (unit_start (rows D) from) (unit_start (rows D) to) (unit_start (rows D) 32) (starts_rise (rows D) from 32 low) (starts_rise (rows D) 32 to high)))
    (put_append p q)

-- ---- once round: from a version's start to the cut, and from the begin to the start

module _ {D F soft v long : ℕ} (ok : Sends D F soft v long) where
  abbrev R : ℕ
  R = rows D

  abbrev Ncb : ℕ
  Ncb = cut_at soft R

  -- its three numbers
  turn_units : {T : Turn} → Some T ≡ turn_of D F soft v → T ≡ units_of D F Ncb v
  turn_units e = let f = e ∙ sym (turn_told D F soft v refl (matchable_is (sends_matchable ok))) in cc

  module _ {T : Turn} (is : Some T ≡ turn_of D F soft v) where
    start_told : T.start ≡ start_unit Ncb R v
    unfolding units_of
    start_told = ap (λ (t : Turn). t.start) (turn_units is)

    whole_told : T.whole ≡ whole_units Ncb R
    unfolding units_of
    whole_told = ap (λ (t : Turn). t.whole) (turn_units is)

    rest_told : T.rest ≡ rest_bits D F ok.walked.some ok.walked.filler ok.walked.most ok.cut
    unfolding units_of
    rest_told = ap (λ (t : Turn). t.rest) (turn_units is)

    -- the start is no later than the cut
    pub whole_in : (T.start ≤ T.whole) × (T.whole ≤ 64)
    whole_in = (omega (arith, whole_told, start_told, start_whole ok.cut v ok.version), omega (arith, whole_told, whole_most ok.cut))

    -- and a unit is cut where some of its bits are before it
    pub cut_there : 0 < T.rest → T.whole < 64
    cut_there some =
        rw whole_told
        (rest_before ok.cut (omega (arith, rest_told, shortened_few D F ok.walked.some ok.walked.filler ok.walked.most ok.cut)))

    -- of the unit that is cut those before the cut
    shortened : {U : Unit} → U ≡ unit_at D F T.whole → take T.rest (unit_places U) ≡ bit_places (shape D F) (unit_start R T.whole) Ncb
    shortened {U} found = elim (dec_lt T.whole 64) [
      | yes l ↦
          ap (take T.rest) (named_at T.whole ok.walked.most ok.walked.filler found ok.walked.some l)
          ∙ rw (rest_told, whole_told) (rest_taken D F ok.walked.some ok.walked.filler ok.walked.most ok.cut)
      | no l ↦
          let all : 64 ≤ whole_units Ncb R = omega (arith, whole_told) in
          ap (λ (n : ℕ). take n (unit_places U)) (rest_told ∙ none_cut D F ok.walked.some ok.walked.filler ok.walked.most ok.cut all)
          ∙ sym (bit_places_none (shape D F) (unit_start R T.whole) Ncb (omega (arith, ap (unit_start R) whole_told, cut_place ok.cut, no_rest D F ok.walked.some ok.walked.filler ok.walked.most ok.cut all)))
    ]

    pub round_is : {U : Unit} → U ≡ unit_at D F T.whole
        → (bit_places (shape D F) (unit_start R T.start) (unit_start R T.whole) ++ take T.rest (unit_places U)) ++ bit_places (shape D F) (unit_start R 0) (unit_start R T.start)
        ≡ turn_in D F soft v
    unfolding turn_in
    round_is {U} found =
        ap (λ (x : List ℕ). (bit_places (shape D F) (unit_start R T.start) (unit_start R T.whole) ++ x) ++ bit_places (shape D F) (unit_start R 0) (unit_start R T.start)) (shortened found)
        ∙ ap (λ (x : List ℕ). x ++ bit_places (shape D F) (unit_start R 0) (unit_start R T.start))
        (sym (bit_places_split (shape D F) (unit_start R T.start) Ncb (unit_start R T.whole) (starts_rise R T.start T.whole whole_in.0) (omega (arith, ap (unit_start R) whole_told, cut_place ok.cut))))
        ∙ ap₂ (λ (a z : ℕ). bit_places (shape D F) a Ncb ++ bit_places (shape D F) z a) head zero
        ∙ sym (turn_cut (shape D F) Ncb (start_in Ncb R v) fits (omega (arith, start_below ok.cut v ok.version)))
      where
        head : unit_start R T.start ≡ start_in Ncb R v
        head = ap (unit_start R) start_told ∙ start_head ok.cut v

        zero : unit_start R 0 ≡ 0
        zero = low_start R 0 (omega arith) ∙ omega arith

        fits : Ncb ≤ length (shape D F)
        fits = rw (length_shape D F (omega (arith, ok.walked.filler))) ok.cut.most

    -- where no unit is cut
    pub round_uncut : T.rest ≡ 0
        → bit_places (shape D F) (unit_start R T.start) (unit_start R T.whole) ++ bit_places (shape D F) (unit_start R 0) (unit_start R T.start) ≡ turn_in D F soft v
    round_uncut z =
        ap (λ (x : List ℕ). x ++ bit_places (shape D F) (unit_start R 0) (unit_start R T.start))
        (sym (append-nil first) ∙ ap (λ (n : ℕ). first ++ take n (unit_places (unit_at D F T.whole))) (sym z))
        ∙ round_is refl
      where
        first : List ℕ
        first = bit_places (shape D F) (unit_start R T.start) (unit_start R T.whole)
