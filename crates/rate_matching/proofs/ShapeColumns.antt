-- Which places of a column of a code block's circle hold a bit, clauses 5.1.4.1.1 and 5.1.4.1.2: those below the dummies and the filler, so that they lie side by side.
-- Assumes nothing.
use mathlib.Core.Path.{◌≡◌, refl, sym, ◌∙◌, ap, ap₂, subst}
use mathlib.Core.Bool.{Bool, true, false}
use mathlib.Core.List.{List, [], ◌∷◌, ◌++◌, append-nil, map, map-append}
use Prim.Native.Nat.{ℕ, zero, suc, ◌+◌, ◌-◌, ◌*◌, ◌/◌, ◌%◌, ◌≤◌, ◌<◌}
use native.Mathlib.Nat.{add_assoc, mod-eq_of_lt, mod_self}
use native.Mathlib.Omega.{arith}
use lib.Arith.{digits_lt, digits_div, digits_mod}
use lib.Dec.{eqb, ltb}
use lib.ListN.{length, get_or, drop, replicate, length-replicate, get_or-replicate, get_or-append}
use lib.Seq.{get_or-append-add, get_or-drop}
use borrow.Author.Tests.{ltb-true, ltb-false, eqb-true, eqb-false}
use Rattle.laws.specs.Lists.{tab_from, keep}
use Rattle.laws.proofs.Tab.{length_tab_from, get_or_tab_from, tab_from_split, tab_from_shift, map_tab_from}
use Rattle.laws.proofs.Keep.{keep_append, keep_all, keep_none}
use Rattle.turbo.specs.Streams.{NULL, without_filler}
use Rattle.rate_matching.specs.Columns.{column}
use Rattle.rate_matching.specs.SubBlocks.{rows, dummies, read_plain, read_shifted, rows_before}
use Rattle.rate_matching.specs.Places.{held_y, stream_of, entry_of}
use Rattle.rate_matching.specs.Walk.{on_circle, is_bit, holds_bit, itself}
use Rattle.rate_matching.specs.Shape.{blank, shape, bit_places, second, pair_places, last_place}
use Rattle.rate_matching.proofs.Columns.{column_rule}
use Rattle.rate_matching.proofs.Places.{dummies_add, read_lt, read_by, read_by_lt, at, at_lt, held_at_lem, held_y_dummy, held_y_bit}
use Rattle.rate_matching.proofs.Circle.{circle_holds}
use Rattle.rate_matching.proofs.ShapeTurn.{bit_places_more, bit_places_less, bit_places_none, blanks, stream}

-- ---- the rows of a column before a place

module _ (i u q : ℕ) where
  pub row_before : q < rows_before i u → u + 32 * q < i
  unfolding rows_before
  row_before h = omega arith

  pub row_from : rows_before i u ≤ q → i ≤ u + 32 * q
  unfolding rows_before
  row_from h = omega arith

-- what holds of both places of a row holds of each place of a column of streams 1 and 2
by_rows : (P : ℕ → Type 0) (i : ℕ) → (i ≡ 2 * (i / 2) → P (2 * (i / 2))) → (i ≡ second (i / 2) → P (second (i / 2))) → P i
unfolding second
by_rows P i f g = go (eqb (i % 2) 0) refl
  where
    go : (b : Bool) → eqb (i % 2) 0 ≡ b → P i
    go true t = let e : i ≡ 2 * (i / 2) = omega (arith, eqb-true (i % 2) 0 t) in subst P (sym e) (f e)
    go false t = let e : i ≡ 2 * (i / 2) + 1 = omega (arith, eqb-false (i % 2) 0 t) in subst P (sym e) (g e)

-- ---- the places that hold a bit, stretch by stretch

module _ (w : List ℕ) (j end : ℕ) where
  -- a stretch and the one after it
  pub bit_places_split : (m : ℕ) → j ≤ m → m ≤ end → bit_places w j end ≡ bit_places w j m ++ bit_places w m end
  unfolding bit_places
  bit_places_split m h k =
      ap (λ (n : ℕ). keep (holds_bit w) (tab_from j n itself)) whole
      ∙ ap (keep (holds_bit w)) (tab_from_split j (m - j) (end - m) itself)
      ∙ keep_append (holds_bit w) (tab_from j (m - j) itself) (tab_from (j + (m - j)) (end - m) itself)
      ∙ ap (λ (n : ℕ). keep (holds_bit w) (tab_from j (m - j) itself) ++ keep (holds_bit w) (tab_from n (end - m) itself)) there
    where
      whole : end - j ≡ m - j + (end - m)
      whole = omega arith

      there : j + (m - j) ≡ m
      there = omega arith

  itself_at : (i : ℕ) → i < length (tab_from j (end - j) itself) → get_or (tab_from j (end - j) itself) i 0 ≡ j + i
  unfolding itself
  itself_at i h = get_or_tab_from j (end - j) itself i 0 (rw length_tab_from at h)

  pub bit_places_all : ((i : ℕ) → i < end - j → holds_bit w (j + i) ≡ true) → bit_places w j end ≡ tab_from j (end - j) itself
  unfolding bit_places
  bit_places_all f = keep_all (holds_bit w) (tab_from j (end - j) itself) (λ i h. ap (holds_bit w) (itself_at i h) ∙ f i (rw length_tab_from at h))

  pub bit_places_empty : ((i : ℕ) → i < end - j → holds_bit w (j + i) ≡ false) → bit_places w j end ≡ []
  unfolding bit_places
  bit_places_empty f = keep_none (holds_bit w) (tab_from j (end - j) itself) (λ i h. ap (holds_bit w) (itself_at i h) ∙ f i (rw length_tab_from at h))

-- ---- what the shape holds, by the y place that comes there

module _ (D F : ℕ) (few : F ≤ D) where
  -- the entry of stream s at its place i
  filler_entry : (i : ℕ) → i < F → get_or (without_filler F (blank D)) i 0 ≡ NULL
  unfolding without_filler
  filler_entry i h =
      get_or-append (replicate F NULL) (drop F (blank D)) 0 i (rw (length-replicate {A = ℕ} F NULL) h) ∙ get_or-replicate {A = ℕ} F i NULL 0 h

  blank_entry : (i : ℕ) → i < D → get_or (blank D) i 0 ≡ 0
  unfolding blank
  blank_entry i h = get_or-replicate {A = ℕ} D i 0 0 h

  data_entry : (i : ℕ) → F ≤ i → i < D → get_or (without_filler F (blank D)) i 0 ≡ 0
  unfolding without_filler
  data_entry i h l =
      ap (λ (n : ℕ). get_or (replicate F NULL ++ drop F (blank D)) n 0) (omega (arith, length-replicate {A = ℕ} F NULL))
      ∙ get_or-append-add (replicate F NULL) (drop F (blank D)) (i - F) 0
      ∙ get_or-drop F (blank D) (i - F) 0
      ∙ ap (λ (n : ℕ). get_or (blank D) n 0) back
      ∙ blank_entry i l
    where
      back : F + (i - F) ≡ i
      back = omega arith

  -- the entry at stream s's place x after the interleaver
  shown : (s x : ℕ) → s < 3 → x < 32 * rows D
      → on_circle (shape D F) (at (rows D) s x) ≡ entry_of (without_filler F (blank D)) (without_filler F (blank D)) (blank D) (held_y D s (read_by (eqb s 2) (rows D) x))
  unfolding shape
  shown s x u h =
      circle_holds D (without_filler F (blank D)) (without_filler F (blank D)) (blank D) (stream D F few) (stream D F few) (blanks D F few) (at (rows D) s x) (at_lt (rows D) s x u h)
      ∙ ap (entry_of (without_filler F (blank D)) (without_filler F (blank D)) (blank D)) (held_at_lem D s x u h)

  module _ (s x : ℕ) (u : s < 3) (h : x < 32 * rows D) where
    abbrev y : ℕ
    y = read_by (eqb s 2) (rows D) x

    -- a dummy, whatever the stream
    dummy : y < dummies D → on_circle (shape D F) (at (rows D) s x) ≡ NULL
    unfolding entry_of
    dummy l = shown s x u h ∙ ap (entry_of (without_filler F (blank D)) (without_filler F (blank D)) (blank D)) (held_y_dummy D s y l)

    -- the stream's place i
    place : (i : ℕ) → y ≡ dummies D + i → on_circle (shape D F) (at (rows D) s x) ≡ get_or (stream_of (without_filler F (blank D)) (without_filler F (blank D)) (blank D) s) i 0
    unfolding entry_of
    place i e =
        shown s x u h ∙ ap (entry_of (without_filler F (blank D)) (without_filler F (blank D)) (blank D)) (ap (held_y D s) e ∙ held_y_bit D s i)

  -- streams 0 and 1: dummies and filler hold no bit, all else does
  module _ (x : ℕ) (h : x < 32 * rows D) where
    pub plain_none : (s : ℕ) → s < 2 → read_plain (rows D) x < dummies D + F → holds_bit (shape D F) (at (rows D) s x) ≡ false
    unfolding holds_bit is_bit stream_of
    plain_none s u l = ap is_bit (go (ltb (read_plain (rows D) x) (dummies D)) refl s u)
      where
        is : ltb (read_plain (rows D) x) (dummies D) ≡ false → read_plain (rows D) x ≡ dummies D + (read_plain (rows D) x - dummies D)
        is t = omega (arith, ltb-false (read_plain (rows D) x) (dummies D) t)

        filler_there : ltb (read_plain (rows D) x) (dummies D) ≡ false → get_or (without_filler F (blank D)) (read_plain (rows D) x - dummies D) 0 ≡ NULL
        filler_there t = filler_entry (read_plain (rows D) x - dummies D) (omega (arith, ltb-false (read_plain (rows D) x) (dummies D) t))

        go : (b : Bool) → ltb (read_plain (rows D) x) (dummies D) ≡ b → (s : ℕ) → s < 2 → on_circle (shape D F) (at (rows D) s x) ≡ NULL
        go true t zero u = dummy 0 x (omega arith) h (ltb-true _ _ t)
        go true t (suc zero) u = dummy 1 x (omega arith) h (ltb-true _ _ t)
        go true t (suc (suc s)) u = absurd (omega arith)
        go false t zero u = place 0 x (omega arith) h _ (is t) ∙ filler_there t
        go false t (suc zero) u = place 1 x (omega arith) h _ (is t) ∙ filler_there t
        go false t (suc (suc s)) u = absurd (omega arith)

    pub plain_bit : (s : ℕ) → s < 2 → dummies D + F ≤ read_plain (rows D) x → holds_bit (shape D F) (at (rows D) s x) ≡ true
    unfolding holds_bit is_bit stream_of
    plain_bit s u l = ap is_bit (go s u)
      where
        is : read_plain (rows D) x ≡ dummies D + (read_plain (rows D) x - dummies D)
        is = omega arith

        zero_there : get_or (without_filler F (blank D)) (read_plain (rows D) x - dummies D) 0 ≡ 0
        zero_there = data_entry _ (omega arith) (omega (arith, read_lt (rows D) x h, dummies_add D))

        go : (s : ℕ) → s < 2 → on_circle (shape D F) (at (rows D) s x) ≡ 0
        go zero u = place 0 x (omega arith) h _ is ∙ zero_there
        go (suc zero) u = place 1 x (omega arith) h _ is ∙ zero_there
        go (suc (suc s)) u = absurd (omega arith)

    -- stream 2: dummies hold no bit, all else does
    pub shifted_none : read_shifted (rows D) x < dummies D → holds_bit (shape D F) (at (rows D) 2 x) ≡ false
    unfolding holds_bit is_bit
    shifted_none l = ap is_bit (dummy 2 x (omega arith) h l)

    pub shifted_bit : dummies D ≤ read_shifted (rows D) x → holds_bit (shape D F) (at (rows D) 2 x) ≡ true
    unfolding holds_bit is_bit stream_of
    shifted_bit l =
        ap is_bit
        (place 2 x (omega arith) h (read_shifted (rows D) x - dummies D) (omega arith)
        ∙ blank_entry _ (omega (arith, read_by_lt (rows D) true x h, dummies_add D)))

  -- ---- one column

  -- the row of a column where its bits begin
  abbrev pub first_of : ℕ → ℕ
  first_of c = rows_before (dummies D + F) (column c)

  module _ (c : ℕ) (below : c < 32) where
    -- row q of the column
    in_column_lem : (q : ℕ) → q < rows D → c * rows D + q < 32 * rows D
    in_column_lem q h = digits_lt below h

    read_row_lem : (q : ℕ) → q < rows D → read_plain (rows D) (c * rows D + q) ≡ column c + 32 * q
    unfolding read_plain
    read_row_lem q h = rw (digits_div c h, digits_mod c h)

    pub first_few : first_of c ≤ rows D
    unfolding rows_before
    first_few = omega (arith, dummies_add D)

    -- column c of stream 0
    pub column_places : bit_places (shape D F) (c * rows D) (c * rows D + rows D) ≡ tab_from (c * rows D + first_of c) (rows D - first_of c) itself
    column_places =
        bit_places_split (shape D F) (c * rows D) (c * rows D + rows D) (c * rows D + first_of c) (omega arith) (omega (arith, first_few))
        ∙ ap₂ ◌++◌ (bit_places_empty (shape D F) (c * rows D) (c * rows D + first_of c) above) (bit_places_all (shape D F) (c * rows D + first_of c) (c * rows D + rows D) under)
        ∙ ap (λ (n : ℕ). tab_from (c * rows D + first_of c) n itself) rest
      where
        above : (i : ℕ) → i < c * rows D + first_of c - c * rows D → holds_bit (shape D F) (c * rows D + i) ≡ false
        above i h =
            let q : i < first_of c = omega arith in
            let r : i < rows D = omega (arith, first_few) in
            plain_none (c * rows D + i) (in_column_lem i r) 0 (omega arith) (rw (read_row_lem i r) (row_before (dummies D + F) (column c) i q))

        under : (i : ℕ) → i < c * rows D + rows D - (c * rows D + first_of c) → holds_bit (shape D F) (c * rows D + first_of c + i) ≡ true
        under i h =
            let r : first_of c + i < rows D = omega arith in
            rw (add_assoc (c * rows D) (first_of c) i)
            (plain_bit (c * rows D + (first_of c + i)) (in_column_lem (first_of c + i) r) 0 (omega arith)
            (rw (read_row_lem (first_of c + i) r) (row_from (dummies D + F) (column c) (first_of c + i) (omega arith))))

        rest : c * rows D + rows D - (c * rows D + first_of c) ≡ rows D - first_of c
        rest = omega arith

    -- ---- streams 1 and 2 by turns, from place `base` on

    abbrev pub pairs_from : ℕ
    pairs_from = 32 * rows D + c * (2 * rows D)

    -- the row where stream 2 begins
    abbrev pub alone_of : ℕ
    alone_of = rows_before (dummies D) (column c + 1)

    alone_few : alone_of ≤ first_of c
    unfolding rows_before
    alone_few = omega arith

    even_place : (q : ℕ) → pairs_from + 2 * q ≡ at (rows D) 1 (c * rows D + q)
    even_place q = omega arith

    odd_place : (q : ℕ) → pairs_from + second q ≡ at (rows D) 2 (c * rows D + q)
    unfolding second
    odd_place q = omega arith

    even_none : (q : ℕ) → q < first_of c → holds_bit (shape D F) (pairs_from + 2 * q) ≡ false
    even_none q h =
        let r : q < rows D = omega (arith, first_few) in
        rw (even_place q) (plain_none (c * rows D + q) (in_column_lem q r) 1 (omega arith) (rw (read_row_lem q r) (row_before (dummies D + F) (column c) q h)))

    even_bit : (q : ℕ) → first_of c ≤ q → q < rows D → holds_bit (shape D F) (pairs_from + 2 * q) ≡ true
    even_bit q h r = rw (even_place q) (plain_bit (c * rows D + q) (in_column_lem q r) 1 (omega arith) (rw (read_row_lem q r) (row_from (dummies D + F) (column c) q h)))

    read_next : (q : ℕ) → q < rows D → read_shifted (rows D) (c * rows D + q) ≡ (column c + 32 * q + 1) % (32 * rows D)
    unfolding read_shifted
    read_next q h = rw (digits_div c h, digits_mod c h)

    -- one further than row q of the column
    module _ (q : ℕ) (r : q < rows D) (within : column c + 32 * q + 1 < 32 * rows D) where
      read_further : read_shifted (rows D) (c * rows D + q) ≡ column c + 32 * q + 1
      read_further = read_next q r ∙ mod-eq_of_lt within

      odd_none : q < alone_of → holds_bit (shape D F) (pairs_from + second q) ≡ false
      odd_none h = rw (odd_place q) (shifted_none (c * rows D + q) (in_column_lem q r) (rw read_further (omega (arith, row_before (dummies D) (column c + 1) q h))))

      odd_bit : alone_of ≤ q → holds_bit (shape D F) (pairs_from + second q) ≡ true
      odd_bit h = rw (odd_place q) (shifted_bit (c * rows D + q) (in_column_lem q r) (rw read_further (omega (arith, row_from (dummies D) (column c + 1) q h))))

    -- the place that the wrap brings
    odd_wrap : (q : ℕ) → q < rows D → column c + 32 * q + 1 ≡ 32 * rows D → 0 < dummies D → holds_bit (shape D F) (pairs_from + second q) ≡ false
    odd_wrap q r e some = rw (odd_place q) (shifted_none (c * rows D + q) (in_column_lem q r) (rw (read_next q r, e, mod_self (32 * rows D)) some))

    -- n rows from row a on where stream 2 alone has a bit
    singles : (a n : ℕ) → ((q : ℕ) → a ≤ q → q < a + n → (holds_bit (shape D F) (pairs_from + 2 * q) ≡ false) × (holds_bit (shape D F) (pairs_from + second q) ≡ true))
        → bit_places (shape D F) (pairs_from + 2 * a) (pairs_from + 2 * (a + n)) ≡ map (λ (j : ℕ). pairs_from + j) (tab_from a n second)
    unfolding tab_from second
    singles a zero f = bit_places_none (shape D F) (pairs_from + 2 * a) (pairs_from + 2 * (a + 0)) (omega arith)
    singles a (suc n) f =
        let here = f a (omega arith) (omega arith) in
        bit_places_less (shape D F) (pairs_from + 2 * a) (pairs_from + 2 * (a + suc n)) (omega arith) here.0
        ∙ bit_places_more (shape D F) (pairs_from + 2 * a + 1) (pairs_from + 2 * (a + suc n)) (omega arith) (ap (holds_bit (shape D F)) (add_assoc pairs_from (2 * a) 1) ∙ here.1)
        ∙ ap₂ ◌∷◌ (add_assoc pairs_from (2 * a) 1) (ap₂ (bit_places (shape D F)) next end ∙ singles (suc a) n (λ q h g. f q (omega arith) (omega arith)))
      where
        next : pairs_from + 2 * a + 1 + 1 ≡ pairs_from + 2 * suc a
        next = omega arith

        end : pairs_from + 2 * (a + suc n) ≡ pairs_from + 2 * (suc a + n)
        end = omega arith

    -- the column as it is put: stream 2 alone, then both
    module _ (less : F < D) (some : 0 < dummies D) where
      last : ℕ
      last = last_place (rows D) (column c)

      column_small : column c < 32
      column_small = (column_rule c below).0

      -- where the bits end
      record Ends : Type 0 where
        all : last ≤ 2 * rows D
        after : 2 * first_of c ≤ last
        whole : (q : ℕ) → last ≤ 2 * q → rows D ≤ q
        within : (q : ℕ) → second q < last → column c + 32 * q + 1 < 32 * rows D
        behind : (q : ℕ) → last ≤ second q → q < rows D → column c + 32 * q + 1 ≡ 32 * rows D

      ends : Ends
      unfolding last last_place rows_before second
      ends = record {
        all = omega arith;
        after = omega (arith, dummies_add D, column_small);
        whole = λ q h. omega (arith, column_small);
        within = λ q h. omega (arith, column_small);
        behind = λ q h r. omega (arith, column_small);
      }

      none_above : (i : ℕ) → i < pairs_from + 2 * alone_of - pairs_from → holds_bit (shape D F) (pairs_from + i) ≡ false
      unfolding second
      none_above i h =
          let short : i < 2 * alone_of = omega arith in
          by_rows (λ (k : ℕ). holds_bit (shape D F) (pairs_from + k) ≡ false) i
          (λ e. even_none (i / 2) (omega (arith, alone_few)))
          (λ e. odd_none (i / 2) (omega (arith, alone_few, first_few)) (omega (arith, row_before (dummies D) (column c + 1) (i / 2) (omega arith), dummies_add D)) (omega arith))

      both_under : (i : ℕ) → i < pairs_from + last - (pairs_from + 2 * first_of c) → holds_bit (shape D F) (pairs_from + 2 * first_of c + i) ≡ true
      unfolding second
      both_under i h =
          let short : 2 * first_of c + i < last = omega arith in
          rw (add_assoc pairs_from (2 * first_of c) i)
          (by_rows (λ (k : ℕ). holds_bit (shape D F) (pairs_from + k) ≡ true) (2 * first_of c + i)
          (λ e. even_bit ((2 * first_of c + i) / 2) (omega arith) (omega (arith, ends.all)))
          (λ e. odd_bit ((2 * first_of c + i) / 2) (omega (arith, ends.all)) (ends.within ((2 * first_of c + i) / 2) (omega arith)) (omega (arith, alone_few))))

      none_behind : (i : ℕ) → i < pairs_from + 2 * rows D - (pairs_from + last) → holds_bit (shape D F) (pairs_from + last + i) ≡ false
      unfolding second
      none_behind i h =
          let short : last + i < 2 * rows D = omega arith in
          rw (add_assoc pairs_from last i)
          (by_rows (λ (k : ℕ). holds_bit (shape D F) (pairs_from + k) ≡ false) (last + i)
          (λ e. absurd (omega (arith, ends.whole ((last + i) / 2) (omega arith))))
          (λ e. let r : (last + i) / 2 < rows D = omega arith in odd_wrap ((last + i) / 2) r (ends.behind ((last + i) / 2) (omega arith) r) some))

      single_before : (q : ℕ) → q < first_of c → second q < last
      unfolding second
      single_before q h = omega (arith, ends.after)

      pub pair_places_lem : bit_places (shape D F) pairs_from (pairs_from + 2 * rows D) ≡ map (λ (j : ℕ). pairs_from + j) (pair_places alone_of (first_of c) (last_place (rows D) (column c)))
      unfolding pair_places last itself
      pair_places_lem =
          bit_places_split (shape D F) pairs_from (pairs_from + 2 * rows D) (pairs_from + 2 * alone_of) (omega arith) (omega (arith, alone_few, first_few))
          ∙ ap₂ ◌++◌ (bit_places_empty (shape D F) pairs_from (pairs_from + 2 * alone_of) none_above)
          (bit_places_split (shape D F) (pairs_from + 2 * alone_of) (pairs_from + 2 * rows D) (pairs_from + 2 * first_of c) (omega (arith, alone_few)) (omega (arith, first_few))
          ∙ ap₂ ◌++◌ alone both)
          ∙ sym (map-append (λ (j : ℕ). pairs_from + j) (tab_from alone_of (first_of c - alone_of) second) (tab_from (2 * first_of c) (last - 2 * first_of c) itself))
        where
          till : pairs_from + 2 * first_of c ≡ pairs_from + 2 * (alone_of + (first_of c - alone_of))
          till = omega (arith, alone_few)

          alone : bit_places (shape D F) (pairs_from + 2 * alone_of) (pairs_from + 2 * first_of c) ≡ map (λ (j : ℕ). pairs_from + j) (tab_from alone_of (first_of c - alone_of) second)
          alone =
              ap (bit_places (shape D F) (pairs_from + 2 * alone_of)) till
              ∙ singles alone_of (first_of c - alone_of)
              (λ q h g.
              let f : q < first_of c = omega arith in
              let r : q < rows D = omega (arith, first_few) in
              (even_none q f, odd_bit q r (ends.within q (single_before q f)) h))

          count : pairs_from + last - (pairs_from + 2 * first_of c) ≡ last - 2 * first_of c
          count = omega arith

          both : bit_places (shape D F) (pairs_from + 2 * first_of c) (pairs_from + 2 * rows D) ≡ map (λ (j : ℕ). pairs_from + j) (tab_from (2 * first_of c) (last - 2 * first_of c) itself)
          both =
              bit_places_split (shape D F) (pairs_from + 2 * first_of c) (pairs_from + 2 * rows D) (pairs_from + last) (omega (arith, ends.after)) (omega (arith, ends.all))
              ∙ ap₂ ◌++◌ (bit_places_all (shape D F) (pairs_from + 2 * first_of c) (pairs_from + last) both_under) (bit_places_empty (shape D F) (pairs_from + last) (pairs_from + 2 * rows D) none_behind)
              ∙ append-nil (tab_from (pairs_from + 2 * first_of c) (pairs_from + last - (pairs_from + 2 * first_of c)) itself)
              ∙ ap (λ (n : ℕ). tab_from (pairs_from + 2 * first_of c) n itself) count
              ∙ tab_from_shift pairs_from (2 * first_of c) (last - 2 * first_of c) itself
              ∙ sym (map_tab_from (2 * first_of c) (last - 2 * first_of c) itself (λ (j : ℕ). pairs_from + j))
