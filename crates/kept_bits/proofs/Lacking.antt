-- The count of the data places that lack a bit, 01 'Slots': of a circle, all of stream 0 less what is no data place; and of a copy of the data places.
-- Assumes nothing.
use mathlib.Core.Path.{◌≡◌, refl, sym, ◌∙◌, ap, ap₂}
use mathlib.Core.Bool.{true, ◌&&◌, and-eq-true_iff}
use mathlib.Core.List.{List, ◌++◌}
use Prim.Native.Nat.{ℕ, ◌+◌, ◌-◌, ◌*◌, ◌/◌, ◌%◌, ◌≤◌, ◌<◌}
use native.Mathlib.Nat.{add-zero, zero-add}
use native.Mathlib.Omega.{arith}
use lib.Dec.{eqb, leb}
use lib.ListN.{length, get_or, take, length-append, get_or-append}
use lib.Seq.{get_or-take, get_or-append-add, length-take-le}
use borrow.Author.Tests.{eqb-true, leb-true, eq-eqb, le-leb}
use Rattle.laws.specs.Bits.{bits_of}
use Rattle.laws.proofs.Tab.{length_tab_from, get_or_tab_from}
use Rattle.std.specs.declared.option.Option.TheVariants.{Some}
use Rattle.rate_matching.specs.declared.CirclePlace.{CirclePlace}
use Rattle.rate_matching.specs.declared.MatrixPlace.{MatrixPlace}
use Rattle.rate_matching.specs.Columns.{number_of, turned_round, column}
use Rattle.rate_matching.specs.SubBlocks.{rows, dummies, rows_before}
use Rattle.rate_matching.specs.Circle.{circle_length}
use Rattle.rate_matching.specs.Places.{plain_place, place_number, longest}
use Rattle.rate_matching.specs.Matrix.{head_by, matrix_within}
use Rattle.rate_matching.proofs.Columns.{column_rule}
use Rattle.rate_matching.proofs.Places.{dummies_add, place_lt}
use Rattle.rate_matching.proofs.Matrix.{first_head, written_is, head_at}
use Rattle.slots.specs.Circle.{kept_on, missing, missing_on, sum_from, lacking_on, heard_on}
use Rattle.slots.proofs.Sums.{sum_from_ext, sum_from_shift, sum_from_most}
use Rattle.kept_bits.specs.Circle.{missing_at, countable, reach_of}
use Rattle.kept_bits.specs.inner.Rows.{place_by, kept_below, kept_by, missing_below, missing_by, AlongRow, Along, Streams, Stretch}
use Rattle.kept_bits.proofs.Rows.{heads, matrix_there, reach_last}
use Rattle.kept_bits.proofs.Gathering.{place_of_row, row_along}
use Rattle.kept_bits.proofs.Sums.{sum_from_split, sum_from_last, sum_from_runs}
use Rattle.kept_bits.proofs.ColumnSums.{in_column, by_columns}
use Rattle.kept_bits.proofs.Bytes.{missing_le}

-- ---- bytes by parts

missing_few : (bytes : List ℕ) (i n : ℕ) → sum_from (missing_at bytes) i n ≤ n
unfolding missing_at
missing_few bytes i n = sum_from_most (missing_at bytes) i n (λ k. missing_le (get_or bytes k 0))

-- the count of bytes, and of two runs of them
abbrev pub count_of : List ℕ → ℕ
count_of bytes = sum_from (missing_at bytes) 0 (length bytes)

pub count_few : (bytes : List ℕ) → count_of bytes ≤ length bytes
count_few bytes = missing_few bytes 0 (length bytes)

pub count_append : (xs ys : List ℕ) → count_of (xs ++ ys) ≡ count_of xs + count_of ys
unfolding missing_at
count_append xs ys =
    ap (sum_from (missing_at (xs ++ ys)) 0) (length-append xs ys)
    ∙ sum_from_split (missing_at (xs ++ ys)) 0 (length xs) (length ys)
    ∙ ap₂ ◌+◌ (sum_from_ext (missing_at (xs ++ ys)) (missing_at xs) 0 (length xs) (λ k a b. ap missing (get_or-append xs ys 0 k (omega arith)))) behind
  where
    behind : sum_from (missing_at (xs ++ ys)) (0 + length xs) (length ys) ≡ count_of ys
    behind =
        ap (λ (i : ℕ). sum_from (missing_at (xs ++ ys)) i (length ys)) (omega arith)
        ∙ sum_from_shift (length xs) 0 (length ys) (missing_at (xs ++ ys))
        ∙ sum_from_ext (λ (k : ℕ). missing_at (xs ++ ys) (length xs + k)) (missing_at ys) 0 (length ys) (λ k a b. ap missing (get_or-append-add xs ys k 0))

-- the bytes before those that are left are counted
pub record Counted (bytes : List ℕ) (n : ℕ) (left : List ℕ) : Type 0 where
  pub told : n + count_of left ≡ count_of bytes

module _ {bytes : List ℕ} {n : ℕ} {left : List ℕ} (w : Counted bytes n left) (part rest : List ℕ) (e : left ≡ part ++ rest) {x : ℕ} (s : x ≡ count_of part) where
  pub counted_next : Counted bytes (n + x) rest
  counted_next = record { told = omega (arith, w.told, ap count_of e, count_append part rest, s) }

  pub counted_few : n + x ≤ length bytes
  counted_few = omega (arith, counted_next.told, count_few bytes)

-- ---- the data places of a circle

-- the count of a list of what was heard
count_heard : (circle : List ℕ) (K F : ℕ) → sum_from (missing_at (heard_on circle K F (K - F))) 0 (K - F) ≡ lacking_on circle K F
unfolding missing_at missing_on lacking_on heard_on
count_heard circle K F =
    sum_from_ext (missing_at (heard_on circle K F (K - F))) (λ (k : ℕ). missing_on circle (K + 4) (F + k)) 0 (K - F)
    (λ k a b. ap missing (get_or_tab_from F (K - F) (kept_on circle (K + 4) 0) k 0 (omega arith)))
    ∙ sym (sum_from_shift F 0 (K - F) (missing_on circle (K + 4)))
    ∙ ap (λ (i : ℕ). sum_from (missing_on circle (K + 4)) i (K - F)) (add-zero F)

pub length_heard : (circle : List ℕ) (K F n : ℕ) → length (heard_on circle K F n) ≡ n
unfolding heard_on
length_heard circle K F n = length_tab_from F n (kept_on circle (K + 4) 0)

-- a list that is what was heard of a code block
pub counted : (circle : List ℕ) (K F : ℕ) {count : ℕ} {lent : List ℕ} → lent ≡ heard_on circle K F (K - F) → count ≡ sum_from (missing_at lent) 0 (length lent)
    → count ≡ lacking_on circle K F
counted circle K F e t = t ∙ rw (e, length_heard circle K F (K - F)) (count_heard circle K F)

-- ---- all of stream 0's columns, less what is no data place

-- 1 where y place y of stream 0 lacks a bit
missing_y : List ℕ → ℕ → ℕ → ℕ
missing_y circle R y = missing (get_or circle (plain_place R y) 0)

-- each column of the matrix is one of the circle's
all_columns : (g : ℕ → ℕ) → sum_from (λ (c : ℕ). g (column c)) 0 32 ≡ sum_from g 0 32
unfolding sum_from number_of bits_of turned_round column
all_columns g = omega arith

-- row t of column c lies t places from the column's begin
row_is : (R c t : ℕ) → c < 32 → plain_place R (column c + 32 * t) ≡ c * R + t
unfolding plain_place
row_is R c t h = rw (same, further, (column_rule c h).1) refl
  where
    same : (column c + 32 * t) % 32 ≡ column c
    same = omega (arith, (column_rule c h).0)

    further : (column c + 32 * t) / 32 ≡ t
    further = omega (arith, (column_rule c h).0)

module _ (circle : List ℕ) (R : ℕ) where
  -- the whole of column c
  column_is : (c : ℕ) → c < 32 → in_column (missing_y circle R) 0 (0 + 32 * R) (column c) ≡ sum_from (missing_at circle) (c * R) R
  unfolding rows_before missing_y missing_at
  column_is c h =
      ap₂ (sum_from (λ (t : ℕ). missing_y circle R (column c + 32 * t))) none all
      ∙ sum_from_ext (λ (t : ℕ). missing_y circle R (column c + 32 * t)) (λ (t : ℕ). missing_at circle (c * R + t)) 0 R
      (λ t low high. ap (λ (i : ℕ). missing (get_or circle i 0)) (row_is R c t h))
      ∙ sym (sum_from_shift (c * R) 0 R (missing_at circle))
      ∙ ap (λ (i : ℕ). sum_from (missing_at circle) i R) (add-zero (c * R))
    where
      none : (0 - column c + 31) / 32 ≡ 0
      none = omega arith

      all : (0 + 32 * R - column c + 31) / 32 - (0 - column c + 31) / 32 ≡ R
      all = omega (arith, (column_rule c h).0)

  -- the columns lie side by side
  columns_sum : sum_from (missing_y circle R) 0 (32 * R) ≡ sum_from (missing_at circle) 0 (32 * R)
  columns_sum =
      sym (by_columns (missing_y circle R) 0 (32 * R))
      ∙ sym (all_columns (in_column (missing_y circle R) 0 (0 + 32 * R)))
      ∙ sum_from_ext (λ (c : ℕ). in_column (missing_y circle R) 0 (0 + 32 * R) (column c)) (λ (c : ℕ). sum_from (missing_at circle) (c * R) R) 0 32 (λ c a b. column_is c (omega arith))
      ∙ sum_from_runs (missing_at circle) R 32

-- the data places lie between the dummies and the filler, and the tail bits
lacking_between : (circle : List ℕ) (k f : ℕ) → f ≤ k
    → sum_from (missing_at circle) 0 (32 * rows (k + 4))
    ≡ sum_from (missing_y circle (rows (k + 4))) 0 (dummies (k + 4) + f) + (lacking_on circle k f + sum_from (missing_y circle (rows (k + 4))) (dummies (k + 4) + k) 4)
unfolding missing_y lacking_on missing_on kept_on place_number
lacking_between circle k f h =
    sym (columns_sum circle R)
    ∙ ap (sum_from (missing_y circle R) 0) whole
    ∙ sum_from_split (missing_y circle R) 0 (dummies (k + 4) + f) (k - f + 4)
    ∙ ap (λ (x : ℕ). sum_from (missing_y circle R) 0 (dummies (k + 4) + f) + x)
    (sum_from_split (missing_y circle R) (0 + (dummies (k + 4) + f)) (k - f) 4
    ∙ ap₂ (λ (i j : ℕ). sum_from (missing_y circle R) i (k - f) + sum_from (missing_y circle R) j 4) (zero-add (dummies (k + 4) + f)) tail
    ∙ ap (λ (x : ℕ). x + sum_from (missing_y circle R) (dummies (k + 4) + k) 4) (sum_from_shift (dummies (k + 4)) f (k - f) (missing_y circle R)))
  where
    R : ℕ
    R = rows (k + 4)

    whole : 32 * R ≡ dummies (k + 4) + f + (k - f + 4)
    whole = omega (arith, dummies_add (k + 4))

    tail : 0 + (dummies (k + 4) + f) + (k - f) ≡ dummies (k + 4) + k
    tail = omega arith

-- ---- entries of the matrix, row by row

-- entry y of stream 0's matrix is y place y
y_place : (D y : ℕ) → place_by (heads D 0) 1 y ≡ plain_place (rows D) y
unfolding place_by plain_place head_by
y_place D y = rw (head_at (rows D) 0 (y % 32) (omega arith), first_head (rows D) (column (y % 32))) (omega arith)

-- and lies on the circle
pub matrix_along : {D long : ℕ} (y n : ℕ) → D ≤ longest → 32 * rows D ≤ long → y + n ≤ 32 * rows D → Along long (heads D 0) 1 y n
unfolding rows
matrix_along {D} y n most fits h = record {
  most = omega arith;
  places = λ k a b. rw (y_place D k) (omega (arith, place_lt (rows D) k (omega arith)));
}

module _ (circle : List ℕ) (D : ℕ) where
  by_y : (y : ℕ) → missing_by circle (heads D 0) y ≡ missing_y circle (rows D) y
  unfolding missing_by missing_y kept_by
  by_y y = ap (λ (i : ℕ). missing (get_or circle i 0)) (y_place D y)

  entries_y : (y n : ℕ) → sum_from (missing_by circle (heads D 0)) y n ≡ sum_from (missing_y circle (rows D)) y n
  entries_y y n = sum_from_ext (missing_by circle (heads D 0)) (missing_y circle (rows D)) y n (λ k a b. by_y k)

-- all of stream 0, less the entries before the data places and behind them
pub lacking_entries : (circle : List ℕ) (k f : ℕ) → f ≤ k
    → sum_from (missing_at circle) 0 (32 * rows (k + 4))
    ≡ sum_from (missing_by circle (heads (k + 4) 0)) 0 (dummies (k + 4) + f) + (lacking_on circle k f + sum_from (missing_by circle (heads (k + 4) 0)) (dummies (k + 4) + k) 4)
lacking_entries circle k f h =
    lacking_between circle k f h
    ∙ ap₂ (λ (x y : ℕ). x + (lacking_on circle k f + y)) (sym (entries_y circle (k + 4) 0 (dummies (k + 4) + f))) (sym (entries_y circle (k + 4) (dummies (k + 4) + k) 4))

-- a row by its columns
pub row_entries : (circle : List ℕ) (hs : List CirclePlace) (row c n : ℕ) → c + n ≤ 32
    → sum_from (missing_below circle hs row) c n ≡ sum_from (missing_by circle hs) (32 * row + c) n
unfolding missing_below missing_by kept_below kept_by
row_entries circle hs row c n h =
    sum_from_ext (missing_below circle hs row) (λ (k : ℕ). missing_by circle hs (32 * row + k)) c n
    (λ k a b. ap (λ (i : ℕ). missing (get_or circle i 0)) (sym (place_of_row hs 1 row k (omega arith) ∙ omega arith)))
    ∙ sym (sum_from_shift (32 * row) c n (missing_by circle hs))

pub row_few : (circle : List ℕ) (hs : List CirclePlace) (row c n : ℕ) → sum_from (missing_below circle hs row) c n ≤ n
unfolding missing_below
row_few circle hs row c n = sum_from_most (missing_below circle hs row) c n (λ p. missing_le (kept_below circle hs row p))

-- the columns from `from` to p of a row are counted
pub record InRow (circle : List ℕ) (hs : List CirclePlace) (row from to n p : ℕ) : Type 0 where
  pub passed : (from ≤ p) × (p ≤ to)
  pub told : n ≡ sum_from (missing_below circle hs row) from (p - from)

module _ {circle : List ℕ} {hs : List CirclePlace} {row from to : ℕ} where
  pub in_row_start : from ≤ to → InRow circle hs row from to 0 from
  unfolding sum_from
  in_row_start h = record { passed = (omega arith, h); told = ap (sum_from (missing_below circle hs row) from) none }
    where
      none : 0 ≡ from - from
      none = omega arith

  pub in_row_few : {n p : ℕ} → InRow circle hs row from to n p → n ≤ p - from
  in_row_few {n} {p} w = rw w.told (row_few circle hs row from (p - from))

  pub in_row_next : {n p x : ℕ} → p < to → x ≡ missing_below circle hs row p → InRow circle hs row from to n p → InRow circle hs row from to (n + x) (p + 1)
  in_row_next {n} {p} {x} h e w = record {
    passed = (omega (arith, w.passed), omega arith);
    told = ap₂ ◌+◌ w.told (e ∙ ap (missing_below circle hs row) here) ∙ sym (sum_from_last (missing_below circle hs row) from (p - from)) ∙ ap (sum_from (missing_below circle hs row) from) more;
  }
    where
      here : p ≡ from + (p - from)
      here = omega (arith, w.passed)

      more : p - from + 1 ≡ p + 1 - from
      more = omega (arith, w.passed)

  pub in_row_finish : {n p : ℕ} → to ≤ p → InRow circle hs row from to n p → n ≡ sum_from (missing_below circle hs row) from (to - from)
  in_row_finish {n} {p} h w = w.told ∙ ap (λ (q : ℕ). sum_from (missing_below circle hs row) from (q - from)) all
    where
      all : p ≡ to
      all = omega (arith, w.passed)

-- the rows before `row` are counted
pub record Before (circle : List ℕ) (hs : List CirclePlace) (n row : ℕ) : Type 0 where
  pub few : n ≤ 32 * row
  pub told : n ≡ sum_from (missing_by circle hs) 0 (32 * row)

module _ {circle : List ℕ} {hs : List CirclePlace} where
  pub before_start : Before circle hs 0 0
  unfolding sum_from
  before_start = record { few = omega arith; told = refl }

  module _ {n row : ℕ} (w : Before circle hs n row) where
    -- and so many columns of the next row
    pub before_part : {x : ℕ} (c : ℕ) → c ≤ 32 → x ≡ sum_from (missing_below circle hs row) 0 c → (n + x ≡ sum_from (missing_by circle hs) 0 (32 * row + c)) × (x ≤ c)
    before_part {x} c h e = (
      ap₂ ◌+◌ w.told (e ∙ row_entries circle hs row 0 c (omega arith) ∙ ap (λ (i : ℕ). sum_from (missing_by circle hs) i c) here) ∙ sym (sum_from_split (missing_by circle hs) 0 (32 * row) c),
      rw e (row_few circle hs row 0 c),
    )
      where
        here : 32 * row + 0 ≡ 0 + 32 * row
        here = omega arith

    pub before_next : {x : ℕ} → x ≡ sum_from (missing_below circle hs row) 0 (32 - 0) → Before circle hs (n + x) (row + 1)
    before_next {x} e = record { few = omega (arith, w.few, part.1); told = part.0 ∙ ap (sum_from (missing_by circle hs) 0) more }
      where
        part : (n + x ≡ sum_from (missing_by circle hs) 0 (32 * row + 32)) × (x ≤ 32)
        part = before_part 32 (omega arith) e

        more : 32 * row + 32 ≡ 32 * (row + 1)
        more = omega arith

-- the count of the front of a list
pub front_counted : (bytes : List ℕ) (n : ℕ) → n ≤ length bytes → sum_from (missing_at (take n bytes)) 0 (length (take n bytes)) ≡ sum_from (missing_at bytes) 0 n
unfolding missing_at
front_counted bytes n h =
    ap (sum_from (missing_at (take n bytes)) 0) (length-take-le n bytes h)
    ∙ sum_from_ext (missing_at (take n bytes)) (missing_at bytes) 0 n (λ k a b. ap missing (get_or-take n bytes k 0 (omega arith)))

-- ---- the count of a circle

module _ (circle : List ℕ) {k f : ℕ} (low : f ≤ k) (w : Stretch (length circle) (k + 4) 0 f (k - f)) where
  abbrev D : ℕ
  D = k + 4

  pub stream_fits : (32 * rows D ≤ length circle) × (32 * rows D ≤ 6176)
  unfolding reach_of rows
  stream_fits = (w.room, omega (arith, w.sized.most))

  -- where the tail bits begin in the matrix: they end its last row
  module _ {tail : MatrixPlace} (t : Some tail ≡ matrix_within (k + 4) (0, k)) where
    pub tail_last : (tail.column ≡ 28) × (32 * (tail.row + 1) ≡ 32 * rows D) × (32 * tail.row + 28 ≡ dummies D + k)
    tail_last =
        let m = matrix_there w.sized 0 k (omega arith) (omega arith) t in
        let y : 32 * tail.row + tail.column ≡ dummies D + k = omega (arith, m.1, written_is D 0 k) in
        let all = dummies_add D in
        (omega (arith, m.0, y, all), omega (arith, m.0, y, all), omega (arith, m.0, y, all))

    pub back_needs : AlongRow (length circle) (heads D 0) tail.row tail.column (32 - tail.column)
    back_needs =
        rw (one, tail_last.0)
        (row_along (heads D 0) 1 tail.row 28 4 (omega arith) (omega arith) (omega arith) (matrix_along (32 * tail.row + 28) 4 w.sized.most stream_fits.0 (omega (arith, tail_last.1))))
      where
        one : tail.row ≡ 1 * tail.row
        one = omega arith

  -- and where the data places do
  module _ {bits : MatrixPlace} (d : Some bits ≡ matrix_within (k + 4) (0, f)) where
    pub bits_first : (bits.column < 32) × (32 * bits.row + bits.column ≡ dummies D + f)
    bits_first = let m = matrix_there w.sized 0 f (omega arith) (omega arith) d in (m.0, omega (arith, m.1, written_is D 0 f))

    pub front_needs : Along (length circle) (heads D 0) 1 0 (32 * bits.row + bits.column)
    front_needs = matrix_along 0 _ w.sized.most stream_fits.0 (omega (arith, bits_first.1, dummies_add D))

  module _ {tail bits : MatrixPlace} (t : Some tail ≡ matrix_within (k + 4) (0, k)) (d : Some bits ≡ matrix_within (k + 4) (0, f)) {end all front back : ℕ} (e : end ≡ 32 * rows D) (a : all ≡ sum_from (missing_at (take end circle)) 0 (length (take end circle)))
      (b : front ≡ sum_from (missing_by circle (heads D 0)) 0 (32 * bits.row + bits.column))
      (c : back ≡ sum_from (missing_below circle (heads D 0) tail.row) tail.column (32 - tail.column)) where
    pub all_parts : all ≡ front + (lacking_on circle k f + back)
    all_parts =
        a
        ∙ front_counted circle end (omega (arith, e, stream_fits))
        ∙ ap (sum_from (missing_at circle) 0) e
        ∙ lacking_entries circle k f low
        ∙ ap₂ (λ (x y : ℕ). x + (lacking_on circle k f + y))
        (ap (sum_from (missing_by circle (heads D 0)) 0) (sym (bits_first d).1) ∙ sym b)
        (ap (λ (y : ℕ). sum_from (missing_by circle (heads D 0)) y 4) (sym (tail_last t).2)
        ∙ sym (row_entries circle (heads D 0) tail.row 28 4 (omega arith))
        ∙ sym (rw (tail_last t).0 at c))

-- ---- a circle by itself

pub countable_told : (long K F : ℕ) → countable long K F ≡ true → (F ≤ K) × Stretch long (K + 4) 0 F (K - F)
unfolding countable
countable_told long K F t =
    let a = (and-eq-true_iff (leb K 6144 && leb 40 K && eqb (K % 8) 0 && leb F K) (leb (circle_length (rows (K + 4))) long)).0 t in
    let b = (and-eq-true_iff (leb K 6144 && leb 40 K && eqb (K % 8) 0) (leb F K)).0 a.0 in
    let c = (and-eq-true_iff (leb K 6144 && leb 40 K) (eqb (K % 8) 0)).0 b.0 in
    let d = (and-eq-true_iff (leb K 6144) (leb 40 K)).0 c.0 in
    let low = leb-true F K b.1 in
    let least = leb-true 40 K d.1 in
    let most = leb-true K 6144 d.0 in
    let bytes = eqb-true (K % 8) 0 c.1 in
    (low, record { sized = record { least = omega (arith, least); most = omega (arith, most); bytes = omega (arith, bytes) }; stream = omega arith; begin = omega (arith, low); within = omega (arith, low); room = omega (arith, reach_last (K + 4) 0, leb-true (circle_length (rows (K + 4))) long a.1) })

pub countable_is : {long K F : ℕ} → F ≤ K → Streams (K + 4) → circle_length (rows (K + 4)) ≤ long → countable long K F ≡ true
unfolding countable
countable_is {long} {K} {F} low w h =
    let least : 40 ≤ K = omega (arith, w.least) in
    let most : K ≤ 6144 = omega (arith, w.most) in
    let bytes : K % 8 ≡ 0 = omega (arith, w.bytes) in
    simp (le-leb K 6144 most, le-leb 40 K least, eq-eqb (K % 8) 0 bytes, le-leb F K low, le-leb (circle_length (rows (K + 4))) long h)
