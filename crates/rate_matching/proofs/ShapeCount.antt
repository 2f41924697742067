-- The places of a code block's circle that hold a bit, counted: at most 3·D − 2·F, so that as many bits of any version take each of them (clauses 5.1.4.1.1 and 5.1.4.1.2).
-- And what 24·R bits of a version take.
-- Assumes nothing.
use mathlib.Core.Path.{◌≡◌, refl, sym, ◌∙◌, ap, ap₂}
use mathlib.Core.Bool.{true}
use mathlib.Core.List.{List}
use Prim.Native.Nat.{ℕ, zero, suc, ◌+◌, ◌-◌, ◌*◌, ◌≤◌, ◌<◌}
use native.Mathlib.Omega.{arith}
use lib.ListN.{length, get_or}
use borrow.Author.Tests.{leb-true, le-leb}
use Rattle.interleaver.proofs.Pigeonhole.{Into, OneToOne, no_more}
use Rattle.turbo.specs.Streams.{without_filler}
use Rattle.rate_matching.specs.declared.StreamPlace.{StreamPlace}
use Rattle.rate_matching.specs.declared.CirclePlace.{CirclePlace}
use Rattle.rate_matching.specs.SubBlocks.{rows, dummies}
use Rattle.rate_matching.specs.Circle.{circle_length, start_of}
use Rattle.rate_matching.specs.Walk.{is_bit, holds_bit, turn, sent_places, Among}
use Rattle.rate_matching.specs.Places.{Held, Bit, Dummy, held_at, place_number, place_of, stream_of, entry_of, InStreams, circle_place}
use Rattle.rate_matching.specs.Shape.{blank, shape}
use Rattle.rate_matching.proofs.Places.{dummies_add, place_lt, place_on_circle, held_place, place_held}
use Rattle.rate_matching.proofs.Circle.{circle_holds, start_lt}
use Rattle.rate_matching.proofs.Walk.{passed, turn_lt, turn_holds, turn_none_twice}
use Rattle.rate_matching.proofs.Alike.{Filled, shape_filled}
use Rattle.rate_matching.proofs.ShapeTurn.{length_shape}
use Rattle.rate_matching.proofs.Coverage.{passed_sent, turn_sent, quarter_of, into_of, into_lt, quarter_lt, quarter_passes}

-- ---- the stream places that hold a bit, numbered: those of stream 0 past the filler, those of stream 1 past it, those of stream 2

pub record Kept (D F : ℕ) (p : StreamPlace) : Type 0 where
  pub within : InStreams D p
  pub past_filler : p.0 < 2 → F ≤ p.1

number : ℕ → ℕ → ℕ → ℕ → ℕ
number D F zero i = i - F
number D F (suc zero) i = D - F + (i - F)
number D F (suc (suc s)) i = 2 * (D - F) + i

module _ (D F : ℕ) (few : F ≤ D) where
  number_lt : (s i : ℕ) → i < D → (s < 2 → F ≤ i) → number D F s i < 3 * D - 2 * F
  unfolding number
  number_lt zero i l f = omega (arith, f (omega arith))
  number_lt (suc zero) i l f = omega (arith, f (omega arith))
  number_lt (suc (suc s)) i l f = omega arith

  number_apart : (s t i k : ℕ) → s < 3 → t < 3 → i < D → k < D → (s < 2 → F ≤ i) → (t < 2 → F ≤ k) → number D F s i ≡ number D F t k → (s ≡ t) × (i ≡ k)
  unfolding number
  number_apart zero zero i k u v l m f g e = (refl, omega (arith, f (omega arith), g (omega arith)))
  number_apart zero (suc zero) i k u v l m f g e = absurd (omega (arith, f (omega arith)))
  number_apart zero (suc (suc t)) i k u v l m f g e = absurd (omega (arith, f (omega arith)))
  number_apart (suc zero) zero i k u v l m f g e = absurd (omega (arith, g (omega arith)))
  number_apart (suc zero) (suc zero) i k u v l m f g e = (refl, omega (arith, f (omega arith), g (omega arith)))
  number_apart (suc zero) (suc (suc t)) i k u v l m f g e = absurd (omega (arith, f (omega arith)))
  number_apart (suc (suc s)) zero i k u v l m f g e = absurd (omega (arith, g (omega arith)))
  number_apart (suc (suc s)) (suc zero) i k u v l m f g e = absurd (omega (arith, g (omega arith)))
  number_apart (suc (suc s)) (suc (suc t)) i k u v l m f g e = (omega arith, omega arith)

  -- ---- the circle places that hold a bit

  abbrev full : List ℕ
  full = without_filler F (blank D)

  streams : Filled D F full full (blank D)
  streams = shape_filled D F few

  holds_is : (j : ℕ) → j < circle_length (rows D) → holds_bit (shape D F) j ≡ is_bit (entry_of full full (blank D) (held_at D (circle_place j)))
  unfolding holds_bit shape
  holds_is j h = ap is_bit (circle_holds D full full (blank D) streams.long0 streams.long1 streams.long2 j h)

  past : (s i : ℕ) → is_bit (get_or (stream_of full full (blank D) s) i 0) ≡ true → s < 2 → F ≤ i
  unfolding stream_of
  past zero i t u = leb-true F i (sym (streams.bits0 i) ∙ t)
  past (suc zero) i t u = leb-true F i (sym (streams.bits1 i) ∙ t)
  past (suc (suc s)) i t u = absurd (omega arith)

  -- each holds a stream place, at its own circle place
  pub kept : (j : ℕ) → j < circle_length (rows D) → holds_bit (shape D F) j ≡ true → (p : StreamPlace) × Kept D F p × (held_at D (circle_place j) ≡ Bit p) × (place_of D p ≡ circle_place j)
  unfolding entry_of is_bit
  kept j h t = go (held_at D (circle_place j)) refl (sym (holds_is j h) ∙ t)
    where
      go : (x : Held) → held_at D (circle_place j) ≡ x → is_bit (entry_of full full (blank D) x) ≡ true
          → (p : StreamPlace) × Kept D F p × (held_at D (circle_place j) ≡ Bit p) × (place_of D p ≡ circle_place j)
      go Dummy e u = let z : ◌≡◌ {A = ℕ} 0 1 = cc in absurd (omega arith)
      go (Bit p) e u =
          let w = place_held D (circle_place j) p h e in
          (p, record { within = w.0; past_filler = past p.0 p.1 u }, e, w.1)

  -- ---- how many they are

  number_of : Held → ℕ
  number_of (Bit p) = number D F p.0 p.1
  number_of Dummy = 0

  module _ (k0 : ℕ) (h : k0 < length (shape D F)) where
    abbrev places : List ℕ
    places = turn (shape D F) k0

    abbrev place_at : ℕ → ℕ
    place_at i = get_or places i 0

    at_place : (i : ℕ) → i < length places
        → (p : StreamPlace) × Kept D F p × (held_at D (circle_place (place_at i)) ≡ Bit p) × (place_of D p ≡ circle_place (place_at i))
    at_place i l = kept (place_at i) (rw (← length_shape D F few) (turn_lt (shape D F) k0 h i l)) (turn_holds (shape D F) k0 h i l)

    numbered : (i : ℕ) → ℕ
    numbered i = number_of (held_at D (circle_place (place_at i)))

    numbered_is : (i : ℕ) (l : i < length places) → numbered i ≡ number D F (at_place i l).0.0 (at_place i l).0.1
    unfolding numbered number_of
    numbered_is i l = ap number_of (at_place i l).2

    numbered_lt : Into (length places) (3 * D - 2 * F) numbered
    numbered_lt i l =
        let w = at_place i l in
        rw (numbered_is i l) (number_lt w.0.0 w.0.1 w.1.within.place w.1.past_filler)

    numbered_apart : OneToOne (length places) numbered
    numbered_apart i k l m e =
        let v = at_place i l in
        let w = at_place k m in
        let same = number_apart v.0.0 w.0.0 v.0.1 w.0.1 v.1.within.stream w.1.within.stream v.1.within.place w.1.within.place v.1.past_filler w.1.past_filler (sym (numbered_is i l) ∙ e ∙ numbered_is k m) in
        let there : circle_place (place_at i) ≡ circle_place (place_at k) = sym v.3 ∙ ap (place_of D) (ap₂ (λ (s x : ℕ). (s, x)) same.0 same.1) ∙ w.3 in
        turn_none_twice (shape D F) k0 h i k l m (ap (λ (c : CirclePlace). c.0) there)

    -- a turn has at most 3·D − 2·F places
    pub turn_count : length (turn (shape D F) k0) ≤ 3 * D - 2 * F
    turn_count = no_more (length places) (3 * D - 2 * F) numbered numbered_lt numbered_apart

  -- ---- what is sent

  -- a place of stream 0 past the filler lies in the first third of the circle and holds a bit
  module _ (i : ℕ) (l : F ≤ i) (m : i < D) where
    in_first : InStreams D (0, i)
    in_first = record { stream = omega arith; place = m }

    pub data_lt : place_number D 0 i < 32 * rows D
    unfolding place_number
    data_lt = place_lt (rows D) (dummies D + i) (omega (arith, dummies_add D))

    pub data_holds : holds_bit (shape D F) (place_number D 0 i) ≡ true
    unfolding place_of entry_of stream_of
    data_holds =
        holds_is (place_number D 0 i) (place_on_circle D (0, i) in_first)
        ∙ ap (λ (x : Held). is_bit (entry_of full full (blank D) x)) (held_place D (0, i) in_first)
        ∙ streams.bits0 i
        ∙ le-leb F i l

  module _ (pos : 0 < D) (E j : ℕ) (on : j < circle_length (rows D)) (t : holds_bit (shape D F) j ≡ true) where
    some_rows : 0 < rows D
    unfolding rows
    some_rows = omega arith

    starts : (v : ℕ) → v ≤ 3 → start_of (rows D) v < length (shape D F)
    starts v low = rw (length_shape D F few) (start_lt (rows D) v some_rows low)

    -- 24·R bits of one version take a place that holds a bit, of the version in whose quarter it lies
    pub quarter_sent : 24 * rows D ≤ E → Among j (sent_places (shape D F) (start_of (rows D) (quarter_of (rows D) j)) E)
    unfolding circle_length
    quarter_sent enough =
        let v : ℕ = quarter_of (rows D) j in
        let i : ℕ = into_of (rows D) j in
        let near : i < 24 * rows D = into_lt (rows D) some_rows j on in
        let there : passed (length (shape D F)) (start_of (rows D) v) i ≡ j =
        ap (λ (n : ℕ). passed n (start_of (rows D) v) i) (length_shape D F few) ∙ quarter_passes (rows D) some_rows j on in
        rw there at
        (passed_sent (shape D F) (start_of (rows D) v) (starts v (omega (arith, quarter_lt (rows D) some_rows j on))) E i
        (rw (length_shape D F few) (omega arith)) (omega arith) (rw there t))

    -- 3·D − 2·F bits of any version take it
    pub whole_sent : (v : ℕ) → v ≤ 3 → 3 * D - 2 * F ≤ E → Among j (sent_places (shape D F) (start_of (rows D) v) E)
    whole_sent v low enough =
        turn_sent (shape D F) (start_of (rows D) v) (starts v low) E
        (omega (arith, turn_count (start_of (rows D) v) (starts v low))) j (rw (length_shape D F few) on) t
