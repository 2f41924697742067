-- The circle cut at N_cb, clause 5.1.4.1.2: for every accepted N_cb the start is the head of a unit before it, the cut shortens one unit and nothing else, and the units from the start on, round to it, are one turn.
-- Assumes nothing.
use mathlib.Core.Path.{◌≡◌, refl, sym, ◌∙◌, ap, ap₂}
use mathlib.Core.Bool.{Bool, true, false, cond}
use mathlib.Core.List.{List, ◌++◌, map}
use Prim.Native.Nat.{ℕ, ◌+◌, ◌-◌, ◌*◌, ◌/◌, ◌%◌, ◌≤◌, ◌<◌, min}
use native.Mathlib.Nat.{mod-lt, div-add-mod'}
use native.Mathlib.Decide.{dec_lt}
use native.Mathlib.Omega.{arith}
use lib.Dec.{ltb}
use borrow.Author.Tests.{ltb-true, ltb-false}
use lib.ListN.{length, get_or, take, length-append, length-map, get_or-replicate, get_or-append}
use lib.Seq.{length-take-le, get_or-append-add, get_or-take}
use Rattle.laws.specs.Lists.{tab_from}
use Rattle.laws.proofs.Tab.{length_tab_from, get_or_tab_from, map_tab, tab_ext}
use Rattle.laws.proofs.Keep.{keep_ext, length_keep}
use Rattle.rate_matching.proofs.Kept.{keep_from}
use Rattle.rate_matching.specs.declared.Unit.{Unit}
use Rattle.rate_matching.specs.Columns.{column}
use Rattle.rate_matching.specs.SubBlocks.{rows, dummies, rows_before}
use Rattle.rate_matching.specs.Circle.{circle_length, Cut, start_in}
use Rattle.turbo.specs.Streams.{without_filler}
use Rattle.turbo.proofs.Streams.{past_filler}
use Rattle.rate_matching.specs.Places.{longest, circle_place, place_number, place_of, stream_of, entry_of, InStreams}
use Rattle.rate_matching.specs.Walk.{on_circle, holds_bit, is_bit, itself, turn, turn_after_turn, sent_places}
use Rattle.rate_matching.specs.Shape.{blank, shape, bit_places, second, pair_places, last_place}
use Rattle.rate_matching.specs.Units.{unit_start, start_unit, whole_units, rest_places, unit_at, pair_unit, alone_count, bits_before}
use Rattle.rate_matching.proofs.Columns.{column_rule}
use Rattle.rate_matching.proofs.Places.{dummies_add, place_lt, held_place}
use Rattle.rate_matching.proofs.Matrix.{pair_head}
use Rattle.rate_matching.proofs.Walk.{get_or_map, turn_pos, turn_lt}
use Rattle.rate_matching.proofs.Circle.{circle_holds, eighths, start_below}
use Rattle.rate_matching.proofs.ShapeTurn.{bit_places_none, turn_parts, blanks, stream, length_shape}
use Rattle.rate_matching.proofs.ShapeColumns.{bit_places_split, pair_places_lem}
use Rattle.rate_matching.proofs.UnitPlaces.{unit_high}
use Rattle.rate_matching.proofs.Units.{some_dummies, high_start, high_next, starts_rise, unit_last, unit_of_lem}

-- ---- where the cut lies

module _ {Ncb R : ℕ} (cut : Cut Ncb R) where
  -- the places from the first of d(1) and d(2) on, as whole units and rest
  parted : (Ncb - 32 * R) / (2 * R) * (2 * R) + rest_places Ncb R ≡ Ncb - 32 * R
  unfolding rest_places
  parted = div-add-mod' (Ncb - 32 * R) (2 * R)

  -- N_cb lies in the first places of the unit after the whole ones
  pub cut_place : unit_start R (whole_units Ncb R) + rest_places Ncb R ≡ Ncb
  unfolding whole_units
  cut_place =
      let k : ℕ = (Ncb - 32 * R) / (2 * R) in
      let back : 32 + k - 32 ≡ k = omega arith in
      rw (high_start R (32 + k) (omega arith), back) (omega (arith, parted, cut.least))

  pub rest_few : rest_places Ncb R < 2 * R
  unfolding rest_places
  rest_few = mod-lt (Ncb - 32 * R) (omega (arith, cut.some))

  pub whole_least : 32 ≤ whole_units Ncb R
  unfolding whole_units
  whole_least = omega arith

  next_start : unit_start R (whole_units Ncb R + 1) ≡ unit_start R (whole_units Ncb R) + 2 * R
  next_start = high_next R (whole_units Ncb R) whole_least

  -- at most all units lie before it, and then none is cut
  pub whole_most : whole_units Ncb R ≤ 64
  whole_most = elim (dec_lt 64 (whole_units Ncb R)) [
    | yes l ↦ absurd (omega (arith, cut_place, cut.some, cut.most, unit_last R, high_next R 64 (omega arith), starts_rise R 65 (whole_units Ncb R) (omega arith)))
    | no l ↦ omega arith
  ]

  pub rest_before : 0 < rest_places Ncb R → whole_units Ncb R < 64
  rest_before h = elim (dec_lt (whole_units Ncb R) 64) [
    | yes l ↦ l
    | no l ↦ absurd (omega (arith, cut_place, cut.most, unit_last R, starts_rise R 64 (whole_units Ncb R) (omega arith)))
  ]

  -- and all do where the circle is not cut
  pub whole_all : Ncb ≡ circle_length R → whole_units Ncb R ≡ 64
  whole_all e = elim (dec_lt (whole_units Ncb R) 64) [
    | yes l ↦ absurd (omega (arith, cut_place, rest_few, next_start, unit_last R, starts_rise R (whole_units Ncb R + 1) 64 (omega arith)))
    | no l ↦ omega (arith, whole_most)
  ]

  -- and one is left where it is
  pub whole_left : (Ncb ≡ circle_length R → ⊥) → whole_units Ncb R < 64
  whole_left h = elim (dec_lt (whole_units Ncb R) 64) [
    | yes l ↦ l
    | no l ↦ absurd (h (omega (arith, cut_place, cut.most, unit_last R, starts_rise R 64 (whole_units Ncb R) (omega arith))))
  ]

  -- k0 is the head of a unit
  pub start_head : (v : ℕ) → unit_start R (start_unit Ncb R v) ≡ start_in Ncb R v
  unfolding start_unit start_in
  start_head v = unit_of_lem R (eighths Ncb R * v) ∙ omega arith

  -- which is a whole one, or the one that is cut
  pub start_whole : (v : ℕ) → v ≤ 3 → start_unit Ncb R v ≤ whole_units Ncb R
  start_whole v h = elim (dec_lt (whole_units Ncb R) (start_unit Ncb R v)) [
    | yes l ↦ absurd (omega (arith, cut_place, rest_few, next_start, start_head v, start_below cut v h, starts_rise R (whole_units Ncb R + 1) (start_unit Ncb R v) (omega arith)))
    | no l ↦ omega arith
  ]

-- ---- how many places of a unit hold a bit

-- of a list in two parts, the first below m and the second not, as many entries are in the first as are below m
count_below_lem : (m n : ℕ) (xs ys l : List ℕ) → l ≡ xs ++ ys → ((i : ℕ) → i < length xs → get_or xs i 0 < m) → ((i : ℕ) → i < length ys → m ≤ get_or ys i 0)
    → n ≤ length l → ((i : ℕ) → i < n → get_or l i 0 < m) → ((i : ℕ) → n ≤ i → i < length l → m ≤ get_or l i 0) → length xs ≡ n
count_below_lem m n xs ys l e low high within below from = elim (dec_lt (length xs) n) [
  | yes h ↦ absurd (
      let there : get_or l (length xs) 0 ≡ get_or ys 0 0 = ap (λ (z : List ℕ). get_or z (length xs) 0) e ∙ ap (λ (k : ℕ). get_or (xs ++ ys) k 0) (omega arith) ∙ get_or-append-add xs ys 0 0 in
      omega (arith, there, below (length xs) h, high 0 (omega (arith, sizes))))
  | no g ↦ elim (dec_lt n (length xs)) [
    | yes h ↦ absurd (
        let there : get_or l n 0 ≡ get_or xs n 0 = ap (λ (z : List ℕ). get_or z n 0) e ∙ get_or-append xs ys 0 n h in
        omega (arith, there, low n h, from n (omega arith) (omega (arith, sizes))))
    | no h ↦ omega arith
  ]
]
  where
    sizes : length l ≡ length xs + length ys
    sizes = ap length e ∙ length-append xs ys

-- the places of a stretch lie in it
module _ (w : List ℕ) (j end i : ℕ) (h : i < length (bit_places w j end)) where
  within_stretch : (j ≤ get_or (bit_places w j end) i 0) × (get_or (bit_places w j end) i 0 < end)
  unfolding bit_places itself
  within_stretch =
      let f = keep_from (holds_bit w) (tab_from j (end - j) itself) i h in
      let few : f.0 < end - j = omega (arith, f.1, length_tab_from j (end - j) itself) in
      let is : get_or (tab_from j (end - j) itself) f.0 0 ≡ j + f.0 = get_or_tab_from j (end - j) itself f.0 0 few in
      (omega (arith, f.2, is), omega (arith, f.2, is))

past_rows : (a b q i : ℕ) → a + (q - b) ≤ i → q ≤ b + (i - a)
past_rows a b q i h = omega arith

-- the entries of a column of streams 1 and 2
module _ (e f last : ℕ) (alone : e ≤ f) (after : 2 * f ≤ last) where
  long : length (pair_places e f last) ≡ f - e + (last - 2 * f)
  unfolding pair_places
  long = length-append (tab_from e (f - e) second) (tab_from (2 * f) (last - 2 * f) itself)
      ∙ ap₂ ◌+◌ (length_tab_from e (f - e) second) (length_tab_from (2 * f) (last - 2 * f) itself)

  front : (i : ℕ) → i < f - e → get_or (pair_places e f last) i 0 ≡ 2 * (e + i) + 1
  unfolding pair_places second
  front i h =
      get_or-append (tab_from e (f - e) second) (tab_from (2 * f) (last - 2 * f) itself) 0 i (rw (length_tab_from e (f - e) second) h)
      ∙ get_or_tab_from e (f - e) second i 0 h

  back : (i : ℕ) → f - e ≤ i → i < f - e + (last - 2 * f) → get_or (pair_places e f last) i 0 ≡ 2 * f + (i - (f - e))
  unfolding pair_places itself
  back i h l =
      let k : i ≡ length (tab_from e (f - e) second) + (i - (f - e)) = omega (arith, length_tab_from e (f - e) second) in
      ap (λ (n : ℕ). get_or (pair_places e f last) n 0) k
      ∙ get_or-append-add (tab_from e (f - e) second) (tab_from (2 * f) (last - 2 * f) itself) (i - (f - e)) 0
      ∙ get_or_tab_from (2 * f) (last - 2 * f) itself (i - (f - e)) 0 (omega arith)

  -- of its entries those are below q that are counted
  abbrev counted : ℕ → ℕ
  counted q = min f (q / 2) - e + (min last q - 2 * f)

  few_counted : (q : ℕ) → counted q ≤ f - e + (last - 2 * f)
  few_counted q = omega arith

  first_below : (q i : ℕ) → i < counted q → get_or (pair_places e f last) i 0 < q
  first_below q i h = elim (dec_lt i (f - e)) [
    | yes l ↦ rw (front i l) (omega arith)
    | no l ↦ rw (back i (omega arith) (omega arith)) (omega arith)
  ]

  rows_past : (q : ℕ) → 2 * f < q → min f (q / 2) ≡ f
  rows_past q z = omega arith

  places_past : (q : ℕ) → q ≤ last → min last q ≡ q
  places_past q m = omega arith

  next_from : (q i : ℕ) → counted q ≤ i → i < f - e + (last - 2 * f) → q ≤ last → q ≤ get_or (pair_places e f last) i 0
  next_from q i h l m = elim (dec_lt i (f - e)) [
    | yes g ↦ rw (front i g) (omega arith)
    | no g ↦ rw (back i (omega arith) l) (elim (dec_lt (2 * f) q) [
      | yes z ↦ past_rows (f - e) (2 * f) q i (rw (rows_past q z, places_past q m) at h)
      | no z ↦ omega arith
    ])
  ]

-- ---- the unit that is cut

-- of the unit behind the last none lies before a cut
none_before : (D F n : ℕ) → n ≤ circle_length (rows D) → bits_before (pair_unit D F 32) (circle_place n) ≡ 0
unfolding bits_before pair_unit alone_count second circle_length
none_before D F n h = rw (pair_head (rows D) 32) (go _ refl)
  where
    e : ℕ
    e = rows_before (dummies D) (column 32 + 1)

    b : ℕ
    b = 32 * rows D + 32 * (2 * rows D) + 2 * rows_before (dummies D + F) (column 32)

    go : (t : Bool) → ltb b n ≡ t
        → cond {A = ℕ} t ((b + 1 - (32 * rows D + 32 * (2 * rows D) + (2 * e + 1))) / 2 + (min (32 * rows D + 32 * (2 * rows D) + last_place (rows D) (column 32)) n - b))
        ((n + 1 - (32 * rows D + 32 * (2 * rows D) + (2 * e + 1))) / 2)
        ≡ 0
    go true z = absurd (omega (arith, ltb-true b n z))
    go false z = omega arith

further : (j a b n : ℕ) → min (j + a) (j + b) - (j + n) ≡ min a b - n
further j a b n = omega arith

module _ (D F : ℕ) (some : D % 8 ≡ 4) (few : F < D) (c : ℕ) (h : c < 32) where
  abbrev R : ℕ
  R = rows D

  abbrev p : ℕ
  p = column c

  abbrev e : ℕ
  e = rows_before (dummies D) (p + 1)

  abbrev f : ℕ
  f = rows_before (dummies D + F) p

  abbrev last : ℕ
  last = last_place R p

  abbrev j : ℕ
  j = 32 * R + c * (2 * R)

  -- the rows lie in order
  record Ordered : Type 0 where
    pub alone : e ≤ f
    pub after : 2 * f ≤ last
    pub most : last ≤ 2 * R
    pub less : (q : ℕ) → q < 2 * R → q ≤ last

  ordered : Ordered
  unfolding last_place rows_before
  ordered =
      let small = (column_rule c h).0 in
      let sum = dummies_add D in
      record { alone = omega arith; after = omega (arith, small, sum); most = omega arith; less = λ q l. omega (arith, small) }

  -- how many bits its first q places have
  counted_is : (q : ℕ) → counted e f last ordered.alone ordered.after q ≡ bits_before (pair_unit D F c) (circle_place (j + q))
  unfolding bits_before pair_unit alone_count second
  counted_is q = rw (pair_head R c) (go (ltb (j + 2 * f) (j + q)) refl)
    where
      alone : e ≤ f
      alone = ordered.alone

      go : (t : Bool) → ltb (j + 2 * f) (j + q) ≡ t
          → min f (q / 2) - e + (min last q - 2 * f)
          ≡ cond t ((j + 2 * f + 1 - (j + (2 * e + 1))) / 2 + (min (j + last) (j + q) - (j + 2 * f))) ((j + q + 1 - (j + (2 * e + 1))) / 2)
      go true t =
          let past : 2 * f < q = omega (arith, ltb-true (j + 2 * f) (j + q) t) in
          let rows_past : min f (q / 2) ≡ f = omega arith in
          let count : (j + 2 * f + 1 - (j + (2 * e + 1))) / 2 ≡ f - e = omega arith in
          let both : min (j + last) (j + q) - (j + 2 * f) ≡ min last q - 2 * f = further j last q (2 * f) in
          rw (rows_past, count, both)
      go false t =
          let before : q ≤ 2 * f = omega (arith, ltb-false (j + 2 * f) (j + q) t) in
          let rows_past : min f (q / 2) ≡ q / 2 = omega arith in
          let none : min last q - 2 * f ≡ 0 = omega arith in
          rw (rows_past, none) (omega arith)

  pub rest_count : (q : ℕ) → q < 2 * R → length (bit_places (shape D F) j (j + q)) ≡ bits_before (pair_unit D F c) (circle_place (j + q))
  rest_count q l =
      count_below_lem (j + q) (counted e f last ordered.alone ordered.after q) xs ys all told
      (λ i g. (within_stretch (shape D F) j (j + q) i g).1)
      (λ i g. (within_stretch (shape D F) (j + q) (j + 2 * R) i g).0)
      (rw size (few_counted e f last ordered.alone ordered.after q))
      (λ i g. rw (entry i (omega (arith, few_counted e f last ordered.alone ordered.after q, size))) (omega (arith, first_below e f last ordered.alone ordered.after q i g)))
      (λ i g k. rw (entry i k) (omega (arith, next_from e f last ordered.alone ordered.after q i g (rw size at k) (ordered.less q l))))
      ∙ counted_is q
    where
      xs : List ℕ
      xs = bit_places (shape D F) j (j + q)

      ys : List ℕ
      ys = bit_places (shape D F) (j + q) (j + 2 * R)

      all : List ℕ
      all = map (λ (k : ℕ). j + k) (pair_places e f last)

      told : all ≡ xs ++ ys
      told = sym (pair_places_lem D F (omega arith) c h few (some_dummies D some)) ∙ bit_places_split (shape D F) j (j + 2 * R) (j + q) (omega arith) (omega arith)

      size : length all ≡ f - e + (last - 2 * f)
      size = length-map (pair_places e f last) (λ (k : ℕ). j + k) ∙ long e f last ordered.alone ordered.after

      entry : (i : ℕ) → i < length all → get_or all i 0 ≡ j + get_or (pair_places e f last) i 0
      entry i g = get_or_map (λ (k : ℕ). j + k) (pair_places e f last) i (omega (arith, length-map (pair_places e f last) (λ (k : ℕ). j + k)))

-- ---- the turn of a circle that is cut

-- before the cut a place holds what it held
pub holds_cut : (w : List ℕ) (n j : ℕ) → j < n → holds_bit (take n w) j ≡ holds_bit w j
unfolding holds_bit on_circle
holds_cut w n j h = ap is_bit (get_or-take n w j 0 h)

pub bit_places_cut : (w : List ℕ) (n j end : ℕ) → end ≤ n → bit_places (take n w) j end ≡ bit_places w j end
unfolding bit_places itself
bit_places_cut w n j end h = keep_ext (holds_bit (take n w)) (holds_bit w) (tab_from j (end - j) itself) (λ i l.
    let few : i < end - j = omega (arith, length_tab_from j (end - j) itself) in
    rw (get_or_tab_from j (end - j) itself i 0 few) (holds_cut w n (j + i) (omega arith)))

pub turn_cut : (w : List ℕ) (n k0 : ℕ) → n ≤ length w → k0 ≤ n → turn (take n w) k0 ≡ bit_places w k0 n ++ bit_places w 0 k0
turn_cut w n k0 h l =
    turn_parts (take n w) k0
    ∙ ap₂ ◌++◌ (ap (bit_places (take n w) k0) (length-take-le n w h) ∙ bit_places_cut w n k0 n (omega arith)) (bit_places_cut w n 0 k0 l)

-- the unit that is cut, and how many of its bits lie before the cut
module _ (D F : ℕ) (some : D % 8 ≡ 4) (few : F < D) (most : D ≤ longest) {Ncb : ℕ} (cut : Cut Ncb (rows D)) where
  abbrev pub rest_bits : ℕ
  rest_bits = bits_before (unit_at D F (whole_units Ncb (rows D))) (circle_place Ncb)

  abbrev shortened : List ℕ
  shortened = bit_places (shape D F) (unit_start (rows D) (whole_units Ncb (rows D))) Ncb

  module _ (l : whole_units Ncb (rows D) < 64) where
    abbrev c : ℕ
    c = whole_units Ncb (rows D) - 32

    start : unit_start (rows D) (whole_units Ncb (rows D)) ≡ 32 * rows D + c * (2 * rows D)
    start = high_start (rows D) (whole_units Ncb (rows D)) (whole_least cut)

    here : 32 * rows D + c * (2 * rows D) + rest_places Ncb (rows D) ≡ Ncb
    here = ap (λ (n : ℕ). n + rest_places Ncb (rows D)) (sym start) ∙ cut_place cut

    pub cut_unit : unit_at D F (whole_units Ncb (rows D)) ≡ pair_unit D F c
    cut_unit = unit_high D F (whole_least cut)

    counts : bits_before (pair_unit D F c) (circle_place (32 * rows D + c * (2 * rows D) + rest_places Ncb (rows D))) ≡ rest_bits
    counts = ap₂ (λ (U : Unit) (n : ℕ). bits_before U (circle_place n)) (sym cut_unit) here

  pub no_rest : 64 ≤ whole_units Ncb (rows D) → rest_places Ncb (rows D) ≡ 0
  no_rest l = elim (dec_lt 0 (rest_places Ncb (rows D))) [ yes h ↦ absurd (omega (arith, rest_before cut h)) | no h ↦ omega arith ]

  pub none_cut : 64 ≤ whole_units Ncb (rows D) → rest_bits ≡ 0
  none_cut l =
      let last : whole_units Ncb (rows D) - 32 ≡ 32 = omega (arith, whole_most cut) in
      ap (λ (U : Unit). bits_before U (circle_place Ncb)) (unit_high D F (whole_least cut) ∙ ap (pair_unit D F) last) ∙ none_before D F Ncb cut.most

  pub shortened_count : length shortened ≡ rest_bits
  shortened_count = elim (dec_lt (whole_units Ncb (rows D)) 64) [
    | yes l ↦
        ap length (ap₂ (bit_places (shape D F)) (start l) (sym (here l)))
        ∙ rest_count D F some few (c l) (omega (arith, whole_least cut)) (rest_places Ncb (rows D)) (rest_few cut)
        ∙ counts l
    | no l ↦
        ap length (bit_places_none (shape D F) (unit_start (rows D) (whole_units Ncb (rows D))) Ncb (omega (arith, cut_place cut, no_rest (omega arith))))
        ∙ sym (none_cut (omega arith))
  ]

  -- no more than the places
  pub shortened_few : rest_bits ≤ rest_places Ncb (rows D)
  unfolding bit_places
  shortened_few =
      omega (
        arith,
        sym shortened_count,
        cut_place cut,
        length_keep (holds_bit (shape D F)) (tab_from (unit_start (rows D) (whole_units Ncb (rows D))) (Ncb - unit_start (rows D) (whole_units Ncb (rows D))) itself),
        length_tab_from (unit_start (rows D) (whole_units Ncb (rows D))) (Ncb - unit_start (rows D) (whole_units Ncb (rows D))) itself,
      )

-- ---- a turn has places

module _ {D F Ncb v : ℕ} (least : 44 ≤ D) (few : F < D) (cut : Cut Ncb (rows D)) (low : v ≤ 3) where
  abbrev cut_shape : List ℕ
  cut_shape = take Ncb (shape D F)

  pub length_cut : length cut_shape ≡ Ncb
  length_cut = length-take-le Ncb (shape D F) (rw (length_shape D F (omega arith)) cut.most)

  starts : start_in Ncb (rows D) v < length cut_shape
  starts = rw length_cut (start_below cut v low)

  -- the last place of stream 0 lies before every cut
  abbrev last_place0 : ℕ
  last_place0 = place_number D 0 (D - 1)

  there : InStreams D (0, D - 1)
  there = record { stream = omega arith; place = omega arith }

  lies : last_place0 < 32 * rows D
  unfolding place_number
  lies = place_lt (rows D) (dummies D + (D - 1)) (omega (arith, dummies_add D))

  last_holds : holds_bit (shape D F) last_place0 ≡ true
  unfolding holds_bit is_bit shape entry_of stream_of place_of blank
  last_holds =
      ap is_bit
      (circle_holds D (without_filler F (blank D)) (without_filler F (blank D)) (blank D) (stream D F (omega arith)) (stream D F (omega arith)) (blanks D F (omega arith)) last_place0 (omega (arith, lies, cut.least, cut.most))
      ∙ ap (entry_of (without_filler F (blank D)) (without_filler F (blank D)) (blank D)) (held_place D (0, D - 1) there)
      ∙ past_filler F (blank D) (D - 1) (omega arith)
      ∙ get_or-replicate {A = ℕ} D (D - 1) 0 0 (omega arith))

  pub turn_some : 0 < length (turn cut_shape (start_in Ncb (rows D) v))
  turn_some =
      turn_pos cut_shape (start_in Ncb (rows D) v) starts last_place0 (omega (arith, length_cut, lies, cut.least))
      (holds_cut (shape D F) Ncb last_place0 (omega (arith, lies, cut.least)) ∙ last_holds)

  -- what is sent lies before the cut
  pub sent_before : (k : ℕ) → turn_after_turn (turn cut_shape (start_in Ncb (rows D) v)) k < Ncb
  unfolding turn_after_turn
  sent_before k = rw length_cut at (turn_lt cut_shape (start_in Ncb (rows D) v) starts (k % length (turn cut_shape (start_in Ncb (rows D) v))) (mod-lt k turn_some))

  -- so that a circle sends what it sent before it was cut
  pub sent_whole : (w : List ℕ) (E : ℕ) → map (on_circle (take Ncb w)) (sent_places cut_shape (start_in Ncb (rows D) v) E) ≡ map (on_circle w) (sent_places cut_shape (start_in Ncb (rows D) v) E)
  unfolding sent_places on_circle
  sent_whole w E =
      let places : ℕ → ℕ = turn_after_turn (turn cut_shape (start_in Ncb (rows D) v)) in
      map_tab E places (on_circle (take Ncb w))
      ∙ tab_ext E (λ (k : ℕ). on_circle (take Ncb w) (places k)) (λ (k : ℕ). on_circle w (places k)) (λ k l. get_or-take Ncb w (places k) 0 (sent_before k))
      ∙ sym (map_tab E places (on_circle w))
