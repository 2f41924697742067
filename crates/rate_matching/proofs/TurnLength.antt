-- How many bits one turn of a code block has, clauses 5.1.4.1.1 and 5.1.4.1.2: D − F in the columns of stream 0, those of each unit before the cut, 3·D − 2·F on a
-- circle that is not cut; and as many from whichever version's start.
-- Assumes nothing.
use mathlib.Core.Path.{◌≡◌, refl, sym, ◌∙◌, ap, ap₂}
use mathlib.Core.Bool.{Bool, true, false, cond}
use Prim.Native.Nat.{ℕ, zero, suc, ◌+◌, ◌-◌, ◌*◌, ◌/◌, ◌%◌, ◌≤◌, ◌<◌, min}
use native.Mathlib.Numerals.{add-one}
use native.Mathlib.Omega.{arith}
use lib.Dec.{ltb}
use lib.ListN.{length, take, length-append}
use borrow.Author.Tests.{ltb-false}
use Rattle.laws.specs.Bits.{bits_of}
use Rattle.laws.specs.Lists.{tab, tab_from}
use Rattle.laws.proofs.Tab.{length_tab, length_tab_from}
use Rattle.laws.proofs.Keep.{length_keep}
use Rattle.rate_matching.specs.declared.Unit.{Unit}
use Rattle.rate_matching.specs.Columns.{number_of, turned_round, column}
use Rattle.rate_matching.specs.SubBlocks.{rows, dummies, rows_before}
use Rattle.rate_matching.specs.Circle.{circle_length, Cut, cut_at, start_in}
use Rattle.rate_matching.specs.Places.{longest}
use Rattle.rate_matching.specs.Shape.{shape, bit_places}
use Rattle.rate_matching.specs.Walk.{holds_bit, itself, turn}
use Rattle.rate_matching.specs.Units.{unit_at, pair_unit, alone_place, alone_count, both_count, unit_places, bits_before, unit_start, whole_units, Lies}
use Rattle.rate_matching.specs.Turns.{matchable, turn_length}
use Rattle.rate_matching.proofs.Places.{dummies_add}
use Rattle.rate_matching.proofs.Circle.{start_below}
use Rattle.rate_matching.proofs.ShapeTurn.{bit_places_none, length_shape}
use Rattle.rate_matching.proofs.ShapeColumns.{bit_places_split}
use Rattle.rate_matching.proofs.Units.{some_dummies, low_start, starts_rise, unit_last}
use Rattle.rate_matching.proofs.UnitPlaces.{column_rowed, alone_none, alone_count_lem, column_count, pair_count, told_low, told_high, named_at}
use Rattle.rate_matching.proofs.Cut.{cut_place, rest_bits, shortened_count, turn_cut}
use Rattle.rate_matching.proofs.MatchableBlocks.{Matchable, matchable_is}

-- ---- sums over the 32 columns

-- f 0 + .. + f (n − 1)
total : (ℕ → ℕ) → ℕ → ℕ
total f zero = 0
total f (suc n) = total f n + f n

total_add : (f g : ℕ → ℕ) (n : ℕ) → total (λ (i : ℕ). f i + g i) n ≡ total f n + total g n
unfolding total
total_add f g zero = refl
total_add f g (suc n) = omega (arith, total_add f g n)

-- each column of the matrix is one of the circle's
all_columns : (f : ℕ → ℕ) → total (λ (c : ℕ). f (column c)) 32 ≡ total f 32
unfolding total number_of bits_of turned_round column
all_columns f = omega arith

-- of the places before place x each lies in one column
one_row : (x n : ℕ) → n < 32 → n * (x / 32) + min n (x % 32) + (x - n + 31) / 32 ≡ suc n * (x / 32) + min (suc n) (x % 32)
one_row x n h = omega arith

rows_to : (x n : ℕ) → n ≤ 32 → total (rows_before x) n ≡ n * (x / 32) + min n (x % 32)
unfolding total rows_before
rows_to x zero h = omega arith
rows_to x (suc n) h = ap (λ (m : ℕ). m + (x - n + 31) / 32) (rows_to x n (omega arith)) ∙ one_row x n (omega arith)

all_rows : (x : ℕ) → total (rows_before x) 32 ≡ x
all_rows x = rows_to x 32 (omega arith) ∙ omega arith

-- the same of stream 2, which is read one further: one place less
next_to : (x n : ℕ) → 0 < x → x < 32 → total (λ (p : ℕ). rows_before x (p + 1)) n ≡ min n (x - 1)
unfolding total rows_before
next_to x zero h l = omega arith
next_to x (suc n) h l = ap (λ (m : ℕ). m + (x - (n + 1) + 31) / 32) (next_to x n h l) ∙ omega arith

last_one : total (λ (p : ℕ). p / 31) 32 ≡ 1
unfolding total
last_one = refl

-- ---- the bits of unit after unit

-- all of a unit's bits lie before its end
pub before_end : {U : Unit} → Lies U → bits_before U U.end ≡ alone_count U + both_count U
unfolding bits_before alone_count both_count
before_end {U} w = go (ltb U.both.0 U.end.0) refl
  where
    go : (t : Bool) → ltb U.both.0 U.end.0 ≡ t
        → cond t ((U.both.0 + 1 - U.alone.0) / 2 + (min U.end.0 U.end.0 - U.both.0)) ((U.end.0 + 1 - U.alone.0) / 2)
        ≡ (U.both.0 + 1 - U.alone.0) / 2 + (U.end.0 - U.both.0)
    go true t = omega arith
    go false t =
        let same : U.end.0 ≡ U.both.0 = omega (arith, ltb-false U.both.0 U.end.0 t, w.both) in
        rw same (omega arith)

unit_long : (U : Unit) → length (unit_places U) ≡ alone_count U + both_count U
unfolding unit_places
unit_long U =
    length-append (tab (alone_count U) (alone_place U)) (tab_from U.both.0 (both_count U) itself)
    ∙ ap₂ ◌+◌ (length_tab (alone_count U) (alone_place U)) (length_tab_from U.both.0 (both_count U) itself)

module _ {D F : ℕ} (most : D ≤ longest) (few : F < D) (some : D % 8 ≡ 4) where
  abbrev R : ℕ
  R = rows D

  -- how many bits lie before a place, and before unit u
  abbrev bits_to : ℕ → ℕ
  bits_to n = length (bit_places (shape D F) 0 n)

  abbrev units_to : ℕ → ℕ
  units_to u = bits_to (unit_start R u)

  pub bits_few : (n : ℕ) → bits_to n ≤ n
  unfolding bit_places
  bits_few n = omega (arith, length_keep (holds_bit (shape D F)) (tab_from 0 (n - 0) itself), length_tab_from 0 (n - 0) itself)

  -- a stretch more
  more : (m n : ℕ) → m ≤ n → bits_to n ≡ bits_to m + length (bit_places (shape D F) m n)
  more m n h =
      ap length (bit_places_split (shape D F) 0 n m (omega arith) h) ∙ length-append (bit_places (shape D F) 0 m) (bit_places (shape D F) m n)

  -- a unit more
  pub one_unit : (u : ℕ) {U : Unit} → U ≡ unit_at D F u → u < 64 → units_to (u + 1) ≡ units_to u + (alone_count U + both_count U)
  one_unit u {U} is l =
      more (unit_start R u) (unit_start R (u + 1)) (starts_rise R u (u + 1) (omega arith))
      ∙ ap (λ (n : ℕ). units_to u + n) (ap length (sym (named_at u most few is some l)) ∙ unit_long U)

  -- ---- of stream 0, and of all

  abbrev first : ℕ → ℕ
  first p = rows_before (dummies D + F) p

  abbrev early : ℕ → ℕ
  early p = rows_before (dummies D) (p + 1)

  columns_to : (n : ℕ) → n ≤ 32 → units_to n + total (λ (c : ℕ). first (column c)) n ≡ n * R
  unfolding total
  columns_to zero h = omega (arith, ap length (bit_places_none (shape D F) 0 (unit_start R 0) (omega (arith, low_start R 0 (omega arith)))))
  columns_to (suc n) h = rw (← add-one n) (omega (
    arith,
    columns_to n (omega arith),
    one_unit n refl (omega arith),
    counted,
    (column_rowed most few low).high,
  ))
    where
      low : n < 32
      low = omega arith

      counted : alone_count (unit_at D F n) + both_count (unit_at D F n) ≡ R - first (column n)
      counted = rw (told_low n most few refl low) (omega (arith, alone_none most few low, column_count most few low))

  pub stream_0 : units_to 32 ≡ D - F
  stream_0 = omega (arith, columns_to 32 (omega arith), all_columns first, all_rows (dummies D + F), dummies_add D)

  -- what a column of streams 1 and 2 lacks
  abbrev absent : ℕ → ℕ
  absent p = first p + (early p + p / 31)

  pairs_to : (n : ℕ) → n ≤ 32 → units_to (32 + n) + total (λ (c : ℕ). absent (column c)) n ≡ units_to 32 + n * (2 * R)
  unfolding total
  pairs_to zero h = omega arith
  pairs_to (suc n) h = omega (
    arith,
    pairs_to n (omega arith),
    one_unit (32 + n) refl (omega arith),
    ap units_to next,
    counted,
  )
    where
      low : n < 32
      low = omega arith

      next : 32 + suc n ≡ 32 + n + 1
      next = omega arith

      back : 32 + n - 32 ≡ n
      back = omega arith

      is : unit_at D F (32 + n) ≡ pair_unit D F n
      is = told_high (32 + n) most few refl (omega arith) ∙ ap (pair_unit D F) back

      counted : alone_count (unit_at D F (32 + n)) + both_count (unit_at D F (32 + n)) + absent (column n) ≡ 2 * R
      counted = rw is (omega (arith, alone_count_lem most few low, pair_count most few low, column_rowed most few low))

  few_dummies : dummies D < 32
  unfolding dummies rows
  few_dummies = omega arith

  all_absent : total absent 32 ≡ 2 * dummies D + F
  all_absent = omega (
    arith,
    total_add first (λ (p : ℕ). early p + p / 31) 32,
    total_add early (λ (p : ℕ). p / 31) 32,
    all_rows (dummies D + F),
    next_to (dummies D) 32 (some_dummies D some) few_dummies,
    last_one,
    few_dummies,
    some_dummies D some,
  )

  pub whole_circle : bits_to (circle_length R) ≡ 3 * D - 2 * F
  whole_circle = ap bits_to (sym (unit_last R)) ∙ omega (arith, pairs_to 32 (omega arith), stream_0, all_columns absent, all_absent, dummies_add D)

  -- ---- before the cut

  module _ {Ncb : ℕ} (cut : Cut Ncb R) where
    -- the units before it, and those bits of the one that it shortens
    pub cut_circle_lem : units_to (whole_units Ncb R) + rest_bits D F some few most cut ≡ bits_to Ncb
    cut_circle_lem =
        ap (λ (n : ℕ). units_to (whole_units Ncb R) + n) (sym (shortened_count D F some few most cut))
        ∙ sym (more (unit_start R (whole_units Ncb R)) Ncb (omega (arith, cut_place cut)))

    -- as many from any place on, round to it
    turn_bits_lem : (k0 : ℕ) → k0 ≤ Ncb → length (turn (take Ncb (shape D F)) k0) ≡ bits_to Ncb
    turn_bits_lem k0 h =
        ap length (turn_cut (shape D F) Ncb k0 (rw (length_shape D F (omega arith)) cut.most) h)
        ∙ length-append (bit_places (shape D F) k0 Ncb) (bit_places (shape D F) 0 k0)
        ∙ omega (arith, more k0 Ncb h)

-- ---- as it is told

module _ (D F soft : ℕ) {Ncb : ℕ} (cut : Ncb ≡ cut_at soft (rows D)) where
  pub length_none : matchable D D D F Ncb 0 ≡ false → 0 ≡ turn_length D F soft
  unfolding turn_length
  length_none t = rw (rw cut at t)

  pub length_told : matchable D D D F Ncb 0 ≡ true → {n : ℕ} → n ≡ length (bit_places (shape D F) 0 Ncb) → n ≡ turn_length D F soft
  unfolding turn_length
  length_told t e = rw (rw cut at t) (e ∙ ap (λ (m : ℕ). length (bit_places (shape D F) 0 m)) cut)

-- the turn of a version that can be sent: it has no more bits than there are places before the cut
module _ (soft : ℕ) {D F v : ℕ} (m : Matchable D D D F (cut_at soft (rows D)) v) where
  of_turn : length (turn (take (cut_at soft (rows D)) (shape D F)) (start_in (cut_at soft (rows D)) (rows D) v)) ≡ length (bit_places (shape D F) 0 (cut_at soft (rows D)))
  of_turn = turn_bits_lem m.fits.most m.fits.filler m.fits.some m.cut (start_in (cut_at soft (rows D)) (rows D) v) (omega (arith, start_below m.cut v m.version))

  pub turn_long : length (turn (take (cut_at soft (rows D)) (shape D F)) (start_in (cut_at soft (rows D)) (rows D) v)) ≡ turn_length D F soft
  turn_long = length_told D F soft refl (matchable_is (record { fits = m.fits; least = m.least; cut = m.cut; version = omega arith })) of_turn

  pub turn_most : length (turn (take (cut_at soft (rows D)) (shape D F)) (start_in (cut_at soft (rows D)) (rows D) v)) ≤ cut_at soft (rows D)
  turn_most = omega (arith, of_turn, bits_few m.fits.most m.fits.filler m.fits.some (cut_at soft (rows D)))
