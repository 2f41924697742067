-- Laws of the matcher as a whole: the room for the ring, the stages put together, and that it sends what clause 5.1.4.1.2 selects.
-- Assumes nothing.
use mathlib.Core.Path.{◌≡◌, refl, sym, ◌∙◌, ap, subst}
use mathlib.Core.Bool.{Bool, true, false, cond}
use mathlib.Core.List.{List, [], ◌∷◌, ◌++◌, map}
use Prim.Native.Nat.{ℕ, ◌+◌, ◌-◌, ◌*◌, ◌/◌, ◌≤◌, ◌<◌, min}
use native.Mathlib.Omega.{arith}
use lib.Dec.{ltb}
use lib.ListN.{length, take, length-map}
use borrow.Author.Tests.{ltb-true, ltb-false}
use Rattle.laws.specs.Lists.{tab, tab_from}
use Rattle.std.specs.declared.option.Option.TheVariants.{Some}
use Rattle.rate_matching.specs.declared.Turn.{Turn}
use Rattle.rate_matching.specs.declared.Unit.{Unit}
use Rattle.rate_matching.specs.SubBlocks.{rows}
use Rattle.rate_matching.specs.Circle.{circle, circle_length, Cut, start_in}
use Rattle.rate_matching.specs.Places.{longest}
use Rattle.rate_matching.specs.Walk.{on_circle, turn, turn_after_turn, sent_places, selected}
use Rattle.rate_matching.specs.Shape.{shape}
use Rattle.rate_matching.specs.Units.{unit_at, pair_unit, pair_within, alone_count, both_count, unit_start, start_unit, whole_units, rest_places}
use Rattle.rate_matching.specs.Turns.{matchable, units_of, turn_of}
use Rattle.rate_matching.proofs.SoftBuffer.{cut_share}
use Rattle.rate_matching.proofs.Walk.{sent_map}
use Rattle.rate_matching.proofs.Alike.{Filled, shape_filled, same_cut}
use Rattle.rate_matching.proofs.Units.{low_start, high_next, starts_rise, unit_last}
use Rattle.rate_matching.proofs.UnitPlaces.{pair_there}
use Rattle.rate_matching.proofs.Cut.{cut_place, whole_least, whole_most, rest_before, start_whole, rest_bits, shortened_few, turn_some, sent_whole}
use Rattle.rate_matching.proofs.MatchableBlocks.{Matchable, matchable_told, matchable_is}
use Rattle.rate_matching.proofs.Turns.{turn_told}
use Rattle.bit_selection.specs.Matcher.{sent_of, matched_into}
use Rattle.bit_selection.specs.inner.Bits.{pair_bits, bits_of, unit_bits, units_from, Reads}
use Rattle.bit_selection.specs.inner.Ring.{Holds, ring_length, PutTo, TurnIn}
use Rattle.bit_selection.proofs.UnitBits.{pair_stream, unit_reads, unit_few}
use Rattle.bit_selection.proofs.TurnBits.{rest_within, units_turn}
use Rattle.bit_selection.proofs.Ring.{bits_pair, put_to_join, ring_turn, ring_some}
use Rattle.bit_selection.proofs.Rest.{rest_none, rest_fits}

-- ---- nothing to send, and nothing that can be sent

pub nothing_is : (d0 d1 d2 : List ℕ) (F Ncb v : ℕ) (out : List ℕ) → length out ≡ 0 → out ≡ matched_into d0 d1 d2 F Ncb v out
unfolding matched_into sent_of sent_places tab tab_from
nothing_is d0 d1 d2 F Ncb v [] e = sym (either (matchable (length d0) (length d1) (length d2) F Ncb v))
  where
    either : (b : Bool) → cond {A = List ℕ} b [] [] ≡ []
    either true = refl
    either false = refl
nothing_is d0 d1 d2 F Ncb v (x ∷ out) e = absurd (omega arith)

pub refused_is : (d0 d1 d2 : List ℕ) (F Ncb v : ℕ) (out : List ℕ) → matchable (length d0) (length d1) (length d2) F Ncb v ≡ false → out ≡ matched_into d0 d1 d2 F Ncb v out
unfolding matched_into
refused_is d0 d1 d2 F Ncb v out t = rw t

-- ---- the room for the ring

-- a ring with as many places as `ring_length` tells
pub room_holds : (R E : ℕ) {m : ℕ} → ring_length R E ≤ m → Holds R E (circle_length R) m
unfolding ring_length
room_holds R E {m} h = record { fits = go (ltb (E + 2 * R) (circle_length R)) refl h }
  where
    go : (t : Bool) → ltb (E + 2 * R) (circle_length R) ≡ t → cond t (E + 2 * R) (circle_length R) ≤ m → m < E + 2 * R → circle_length R ≤ m
    go true t a l = absurd (omega arith)
    go false t a l = a

pub ring_least : (R E : ℕ) → min (E + 2 * R) (96 * R) ≡ ring_length R E
unfolding ring_length circle_length
ring_least R E = go (ltb (E + 2 * R) (96 * R)) refl
  where
    go : (t : Bool) → ltb (E + 2 * R) (96 * R) ≡ t → min (E + 2 * R) (96 * R) ≡ cond t (E + 2 * R) (96 * R)
    go true t = omega (arith, ltb-true (E + 2 * R) (96 * R) t)
    go false t = omega (arith, ltb-false (E + 2 * R) (96 * R) t)

-- no more than those of the largest circle
pub ring_most : (D E : ℕ) → D ≤ longest → ring_length (rows D) E ≤ 18528
unfolding rows
ring_most D E h = omega (arith, ring_least ((D + 31) / 32) E)

-- the whole units from the start on, the one that is cut and the units up to the start have room
module _ {Ncb R v s : ℕ} (cut : Cut Ncb R) (h : v ≤ 3) (e : s ≡ start_unit Ncb R v) where
  start_in_lem : s ≤ whole_units Ncb R
  start_in_lem = rw e (start_whole cut v h)

  -- together they are the circle up to N_cb
  parts : unit_start R (whole_units Ncb R) - unit_start R s + rest_places Ncb R + (unit_start R s - unit_start R 0) ≡ Ncb
  parts = omega (arith, cut_place cut, starts_rise R s (whole_units Ncb R) start_in_lem, low_start R 0 (omega arith))

  module _ {most room : ℕ} (l : Holds R most (circle_length R) room) where
    first_room : Holds R most (0 + (unit_start R (whole_units Ncb R) - unit_start R s)) room
    first_room = record { fits = λ g. omega (arith, parts, cut.most, l.fits g) }

    module _ {n : ℕ} (put : n ≤ 0 + (unit_start R (whole_units Ncb R) - unit_start R s)) where
      -- the one that is cut as a whole
      rest_room : {k : ℕ} → k ≡ room → 0 < rest_places Ncb R → n < most → n + 2 * R ≤ k
      rest_room {k} e some =
          let below : whole_units Ncb R + 1 ≤ 64 = omega (arith, rest_before cut some) in
          rest_fits (rw e record { fits = λ g. omega (arith, put, l.fits g, unit_last R, high_next R (whole_units Ncb R) (whole_least cut), starts_rise R (whole_units Ncb R + 1) 64 below) })

      second_room : {m k rest : ℕ} → rest ≤ rest_places Ncb R → m ≤ n + rest → k ≡ room → Holds R most (m + (unit_start R s - unit_start R 0)) k
      second_room few q e = rw e record { fits = λ g. omega (arith, parts, cut.most, put, q, l.fits g, few) }

-- ---- the stages put together

-- streams that pass the test have a turn
pub turn_there : (D D1 D2 F Ncb v : ℕ) → matchable D D1 D2 F Ncb v ≡ true → Some (units_of D F Ncb v) ≡ turn_of D F Ncb v
turn_there D D1 D2 F Ncb v test = turn_told D F Ncb v (sym (cut_share Ncb (rows D) m.cut.most)) (matchable_is one_length)
  where
    m : Matchable D D1 D2 F Ncb v
    m = matchable_told test

    one_length : Matchable D D D F Ncb v
    one_length = record {
      fits = record { first = refl; second = refl; some = m.fits.some; most = m.fits.most; filler = m.fits.filler };
      least = m.least;
      cut = m.cut;
      version = m.version;
    }

-- a turn that was found for streams that pass the test
pub record Turned (d0 d1 d2 : List ℕ) (F Ncb v : ℕ) (T : Turn) : Type 0 where
  pub test : matchable (length d0) (length d1) (length d2) F Ncb v ≡ true
  pub found : Some T ≡ turn_of (length d0) F Ncb v

module _ {d0 d1 d2 : List ℕ} {F Ncb v : ℕ} {T : Turn} (z : Turned d0 d1 d2 F Ncb v T) where
  abbrev m : Matchable (length d0) (length d1) (length d2) F Ncb v
  m = matchable_told z.test

  abbrev R : ℕ
  R = rows (length d0)

  -- the streams are of one length, and no circle is shorter than an N_cb
  turn_units : T ≡ units_of (length d0) F Ncb v
  turn_units = let e = z.found ∙ sym (turn_there _ _ _ _ _ _ z.test) in cc

  -- the turn's three numbers
  start_is : T.start ≡ start_unit Ncb R v
  unfolding units_of
  start_is = ap (λ (x : Turn). x.start) turn_units

  whole_is : T.whole ≡ whole_units Ncb R
  unfolding units_of
  whole_is = ap (λ (x : Turn). x.whole) turn_units

  abbrev rest : ℕ
  rest = rest_bits (length d0) F m.fits.some m.fits.filler m.fits.most m.cut

  rest_is : T.rest ≡ rest
  unfolding units_of
  rest_is = ap (λ (x : Turn). x.rest) turn_units

  below : T.start ≤ T.whole
  below = rw whole_is (start_in_lem m.cut m.version start_is)

  few : T.whole ≤ 64
  few = rw whole_is (whole_most m.cut)

  pub whole_high : 32 ≤ T.whole
  whole_high = rw whole_is (whole_least m.cut)

  -- no more bits of the unit that is cut than places, and one is cut where there are some
  rest_places_lem : T.rest ≤ rest_places Ncb R
  rest_places_lem = rw rest_is (shortened_few (length d0) F m.fits.some m.fits.filler m.fits.most m.cut)

  pub cut_there : 0 < T.rest → T.whole < 64
  cut_there some = rw whole_is (rest_before m.cut (omega (arith, rest_places_lem)))

  -- the unit that is cut is found
  pub cut_found : 0 < T.rest → pair_within (length d0) F (T.whole - 32) ≡ Some (pair_unit (length d0) F (T.whole - 32))
  cut_found some = pair_there m.fits.most m.fits.filler (omega (arith, cut_there some, whole_high))

  module _ {U : Unit} (found : U ≡ unit_at (length d0) F T.whole) where
    cut_pair : U.first.0 ≡ 0 → ⊥
    cut_pair = pair_stream T.whole m.fits.most m.fits.filler found whole_high

    -- its bits
    cut_bits : pair_bits d1 d2 U ≡ unit_bits (length d0) d0 d1 d2 F (whole_units Ncb R)
    unfolding unit_bits
    cut_bits = bits_pair d0 d1 d2 U cut_pair ∙ ap (bits_of d0 d1 d2) (found ∙ ap (unit_at (length d0) F) whole_is)

    rest_inside : T.rest ≤ length (pair_bits d1 d2 U)
    rest_inside = rw (cut_bits, rest_is) (rest_within (length d0) F d0 d1 d2 refl m.fits.first m.fits.second m.fits.some m.fits.filler m.fits.most m.cut)

    rest_are : take T.rest (pair_bits d1 d2 U) ≡ take rest (unit_bits (length d0) d0 d1 d2 F (whole_units Ncb R))
    rest_are = rw (cut_bits, rest_is)

  -- what is asked of the first whole units
  pub first_needs : {E room : ℕ} → Holds R E (circle_length R) room → (T.start ≤ T.whole) × (T.whole ≤ 64) × (0 ≤ room)
      × Holds R E (0 + (unit_start R T.whole - unit_start R T.start)) room
  first_needs h = (below, few, omega arith, rw whole_is (first_room m.cut m.version start_is h))

  -- n bits of them are put into a ring that is as long as it was, `long` places
  module _ {E room long n : ℕ} (h : Holds R E (circle_length R) room) (l : long ≡ room) (p : n ≤ 0 + (unit_start R T.whole - unit_start R T.start)) where
    put_whole : n ≤ 0 + (unit_start R (whole_units Ncb R) - unit_start R T.start)
    put_whole = rw whole_is at p

    -- of the one that is cut
    pub rest_needs : {U : Unit} → 0 < T.rest → n ≤ long → U ≡ unit_at (length d0) F T.whole
        → Reads (length d0) U × (U.first.0 ≡ 0 → ⊥) × (T.rest ≤ length (pair_bits d1 d2 U)) × (n ≤ long)
        × (n < E → n + (alone_count U + both_count U) ≤ long)
    rest_needs {U} some inside found = (unit_reads T.whole m.fits.most m.fits.filler found (cut_there some), cut_pair found, rest_inside found, inside, fills)
      where
        fills : n < E → n + (alone_count U + both_count U) ≤ long
        fills g =
            omega (
              arith,
              rest_room m.cut m.version start_is h put_whole l (omega (arith, rest_places_lem)) g,
              unit_few T.whole m.fits.most m.fits.filler found (cut_there some),
              high_next R T.whole whole_high,
            )

    -- of the units up to the start
    pub last_needs : {k long₂ : ℕ} → k ≤ n + T.rest → k ≤ long₂ → long₂ ≡ long
        → (0 ≤ T.start) × (T.start ≤ 64) × (k ≤ long₂) × Holds R E (k + (unit_start R T.start - unit_start R 0)) long₂
    last_needs q inside g = (omega arith, omega (arith, below, few), inside, second_room m.cut m.version start_is h put_whole rest_places_lem q (g ∙ l))

  some : 0 < length (turn (take Ncb (shape (length d0) F)) (start_in Ncb R v))
  some = turn_some m.least m.fits.filler m.cut m.version

  turned : (units_from (length d0) d0 d1 d2 F T.start (whole_units Ncb R - T.start) ++ take rest (unit_bits (length d0) d0 d1 d2 F (whole_units Ncb R))) ++ units_from (length d0) d0 d1 d2 F 0 (T.start - 0)
      ≡ map (on_circle (circle d0 d1 d2)) (turn (take Ncb (shape (length d0) F)) (start_in Ncb R v))
  turned = units_turn (length d0) F d0 d1 d2 refl m.fits.first m.fits.second m.fits.some m.fits.filler m.fits.most m.cut v m.version start_is

  -- all of them are one turn
  pub turn_in : {E size₁ size₃ : ℕ} {ring₀ ring₁ ring₂ ring₃ : List ℕ} {n k r : ℕ} {U : Unit} → 0 < E → U ≡ unit_at (length d0) F T.whole
      → PutTo E (units_from (length d0) d0 d1 d2 F T.start (T.whole - T.start)) size₁ ring₀ 0 ring₁ n → PutTo E (take T.rest (pair_bits d1 d2 U)) T.rest ring₁ n ring₂ k
      → PutTo E (units_from (length d0) d0 d1 d2 F 0 (T.start - 0)) size₃ ring₂ k ring₃ r → TurnIn d0 d1 d2 F Ncb v E ring₃ r
  unfolding sent_of sent_places
  turn_in {E} {size₁} {ring₀ = ring₀} {ring₁} {ring₂} {n = n} {k} h found p q o = record {
    some = ring_some both o h (rw turned (rw length-map some));
    inside = o.inside;
    told = ring_turn both o
        ∙ ap (λ (l : List ℕ). tab E (turn_after_turn l)) turned
        ∙ sym (sent_map (on_circle (circle d0 d1 d2)) (turn (take Ncb (shape (length d0) F)) (start_in Ncb R v)) E some);
  }
    where
      whole : PutTo E (units_from (length d0) d0 d1 d2 F T.start (whole_units Ncb R - T.start)) size₁ ring₀ 0 ring₁ n
      whole = subst (λ (w : ℕ). PutTo E (units_from (length d0) d0 d1 d2 F T.start (w - T.start)) size₁ ring₀ 0 ring₁ n) whole_is p

      both : PutTo E (units_from (length d0) d0 d1 d2 F T.start (whole_units Ncb R - T.start) ++ take rest (unit_bits (length d0) d0 d1 d2 F (whole_units Ncb R))) (size₁ + T.rest) ring₀ 0 ring₂ k
      both = put_to_join whole (subst (λ (xs : List ℕ). PutTo E xs T.rest ring₁ n ring₂ k) (rest_are found) q)

  -- and where none is cut, those without it
  pub turn_uncut : {E size₁ size₃ : ℕ} {ring₀ ring₁ ring₃ : List ℕ} {n r : ℕ} → 0 < E → T.rest ≡ 0
      → PutTo E (units_from (length d0) d0 d1 d2 F T.start (T.whole - T.start)) size₁ ring₀ 0 ring₁ n
      → PutTo E (units_from (length d0) d0 d1 d2 F 0 (T.start - 0)) size₃ ring₁ n ring₃ r → TurnIn d0 d1 d2 F Ncb v E ring₃ r
  turn_uncut h z p o = turn_in h refl p (rest_none (pair_bits d1 d2 (unit_at (length d0) F T.whole)) p.inside z) o

-- the ring repeated
pub matched_is : (d0 d1 d2 : List ℕ) (F Ncb v : ℕ) (out : List ℕ) → matchable (length d0) (length d1) (length d2) F Ncb v ≡ true
    → {ring : List ℕ} {r : ℕ} → TurnIn d0 d1 d2 F Ncb v (length out) ring r
    → {sent : List ℕ} → sent ≡ tab (length out) (turn_after_turn (take r ring)) → sent ≡ matched_into d0 d1 d2 F Ncb v out
unfolding matched_into
matched_is d0 d1 d2 F Ncb v out t p h = h ∙ p.told ∙ ap (λ (b : Bool). cond b (sent_of d0 d1 d2 F Ncb v (length out)) out) (sym t)

-- ---- of streams that hold bits behind their filler it is the standard's walk

sent_selected : {D F Ncb v : ℕ} {d0 d1 d2 : List ℕ} → Filled D F d0 d1 d2 → Matchable D D D F Ncb v → (E : ℕ)
    → sent_of d0 d1 d2 F Ncb v E ≡ selected (take Ncb (circle d0 d1 d2)) (start_in Ncb (rows D) v) E
unfolding sent_of selected shape
sent_selected {D} {F} {Ncb} {v} {d0} {d1} {d2} w m E =
    rw w.long0
    (sym (sent_whole m.least m.fits.filler m.cut m.version (circle d0 d1 d2) E)
    ∙ ap (map (on_circle (take Ncb (circle d0 d1 d2)))) (sym (same_cut w (shape_filled D F (omega (arith, m.fits.filler))) Ncb (start_in Ncb (rows D) v) E)))

pub matched_selected : {D F Ncb v : ℕ} {d0 d1 d2 : List ℕ} → Filled D F d0 d1 d2 → Matchable D D D F Ncb v → (out : List ℕ)
    → matched_into d0 d1 d2 F Ncb v out ≡ selected (take Ncb (circle d0 d1 d2)) (start_in Ncb (rows D) v) (length out)
unfolding matched_into
matched_selected {D} {F} {v} w m out = rw (w.long0, w.long1, w.long2, matchable_is m) (sent_selected w m (length out))
