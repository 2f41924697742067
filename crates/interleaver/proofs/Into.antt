-- What interleaving writes where all fits, entry by entry, and that the walk by counters, and that by fours, writes the same.
-- Assumes nothing.
use mathlib.Core.Path.{◌≡◌, refl, ◌∙◌, sym, ap}
use mathlib.Core.Bool.{Bool, true, false, ◌&&◌, and-eq-true_iff}
use mathlib.Core.List.{List}
use Prim.Native.Nat.{ℕ, ◌<◌}
use native.Mathlib.Omega.{arith}
use lib.Dec.{eqb, ltb}
use lib.ListN.{length, get_or}
use borrow.Author.Tests.{lt-ltb, ltb-true, eq-eqb, ne_eqb, eqb-true}
use Rattle.laws.specs.Bits.{AreBits}
use Rattle.laws.proofs.Tab.{length_tab, get_or_tab}
use Rattle.interleaver.specs.Table.{row_count, size_at, f1_at, f2_at, has_size}
use Rattle.interleaver.specs.Place.{second_place, second_bit, interleaved}
use Rattle.interleaver.specs.Into.{fits_row, interleaved_into, bit_by, bits_by, Walkable}
use Rattle.interleaver.specs.inner.Quarters.{Quartered, Countable}
use Rattle.interleaver.proofs.Rows.{row_keeps}

pub length_interleaved : (row : ℕ) (c : List ℕ) → length (interleaved row c) ≡ size_at row
unfolding interleaved
length_interleaved row c = length_tab (size_at row) (second_bit row c)

pub get_or_interleaved : (row : ℕ) (c : List ℕ) (i : ℕ) → i < size_at row → get_or (interleaved row c) i 0 ≡ get_or c (second_place row i) 0
unfolding interleaved second_bit
get_or_interleaved row c i h = get_or_tab (size_at row) (second_bit row c) i 0 h

-- out becomes c' where all fits
pub into_fits : (row : ℕ) (c out : List ℕ) → row < row_count → length c ≡ size_at row → length out ≡ size_at row → interleaved_into row c out ≡ interleaved row c
unfolding interleaved_into fits_row
into_fits row c out h hc ho = simp (lt-ltb _ _ h, eq-eqb _ _ hc, eq-eqb _ _ ho)

-- the test of the size, and then that of the room
fits_is : (row : ℕ) (c out : List ℕ) → fits_row row c out ≡ (has_size row (length c) && eqb (length out) (size_at row))
unfolding fits_row has_size
fits_is row c out = go (ltb row row_count)
  where
    go : (t : Bool) → (t && (eqb (length c) (size_at row) && eqb (length out) (size_at row))) ≡ ((t && eqb (length c) (size_at row)) && eqb (length out) (size_at row))
    go true = refl
    go false = refl

-- what the test of the size says
pub sized : {row K : ℕ} → has_size row K ≡ true → (row < row_count) × (K ≡ size_at row)
unfolding has_size
sized {row} {K} e = let both = (and-eq-true_iff _ _).0 e in (ltb-true row row_count both.0, eqb-true K (size_at row) both.1)

pub has_size_lem : {row K : ℕ} → row < row_count → K ≡ size_at row → has_size row K ≡ true
unfolding has_size
has_size_lem {row} {K} h e = simp (lt-ltb row row_count h, eq-eqb K (size_at row) e)

-- out stays as it was where the size is another one, or the room
pub into_unsized : (row : ℕ) (c out : List ℕ) → has_size row (length c) ≡ false → interleaved_into row c out ≡ out
unfolding interleaved_into
into_unsized row c out e = rw (fits_is row c out, e)

pub into_no_room : (row : ℕ) (c out : List ℕ) → has_size row (length c) ≡ true → (length out ≡ length c → ⊥) → interleaved_into row c out ≡ out
unfolding interleaved_into
into_no_room row c out e other = rw (fits_is row c out, e, ne_eqb (length out) (size_at row) (λ f. other (f ∙ sym (sized e).1)))

-- K, f1 and f2 are those of a row of the table, and both lists have K entries
pub record OfRow (row K f1 f2 : ℕ) (c out : List ℕ) : Type 0 where
  pub below : row < row_count
  pub size : K ≡ size_at row
  pub first : f1 ≡ f1_at row
  pub second : f2 ≡ f2_at row
  pub long : length c ≡ K
  pub room : length out ≡ K

module _ {row K f1 f2 : ℕ} {c out : List ℕ} (r : OfRow row K f1 f2 c out) where
  pub walkable : Walkable K f1 f2 c out
  walkable = record {
    f1_below = rw (r.size, r.first) (row_keeps row r.below).f1_below;
    f2_below = rw (r.size, r.second) (row_keeps row r.below).f2_below;
    most = rw r.size (row_keeps row r.below).most;
    long = r.long;
    room = r.room;
  }

  pub quartered : AreBits c → Quartered c out
  quartered b = record {
    bits = b;
    eights = rw (r.long, r.size) (row_keeps row r.below).bytes;
    some = rw (r.long, r.size) (omega (arith, (row_keeps row r.below).least));
    most = rw (r.long, r.size) (row_keeps row r.below).most;
    room = r.room ∙ sym r.long;
  }

  pub countable : Countable (length c) f1 f2
  countable = record {
    f1_below = rw r.long walkable.f1_below;
    f2_below = rw r.long walkable.f2_below;
    f2_even = rw r.second (row_keeps row r.below).f2_even;
    most = rw r.long walkable.most;
  }

  -- what the walk writes is what interleaving writes
  pub writes : bits_by K f1 f2 c ≡ interleaved_into row c out
  unfolding bits_by bit_by interleaved second_bit second_place
  writes = rw (into_fits row c out r.below (r.long ∙ r.size) (r.room ∙ r.size), r.size, r.first, r.second)

  pub writes_bits : bits_by (length c) f1 f2 c ≡ interleaved_into row c out
  writes_bits = ap (λ (K : ℕ). bits_by K f1 f2 c) r.long ∙ writes
