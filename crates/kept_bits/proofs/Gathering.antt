-- The loops that gather what a circle keeps for the places of a stream: column by column in a row, and row by row.
-- Assumes nothing.
use mathlib.Core.Path.{◌≡◌, refl, sym, ◌∙◌, ap, ap₂}
use mathlib.Core.List.{List, [], ◌++◌, append-nil}
use Prim.Native.Nat.{ℕ, suc, ◌+◌, ◌-◌, ◌*◌, ◌/◌, ◌%◌, ◌≤◌, ◌<◌}
use native.Mathlib.Nat.{add-zero, sub-zero, add_assoc, add-sub_cancel_left}
use native.Mathlib.Omega.{arith}
use lib.ListN.{length, get_or, set}
use borrow.Rule.Slice.PartMut.{mid_of, put_mid}
use Rattle.laws.specs.Lists.{tab_from}
use Rattle.laws.proofs.Parts.{length_mid, length_put}
use Rattle.laws.proofs.Tab.{length_tab_from, tab_from_split, tab_from_shift, tab_from_ext}
use Rattle.laws.proofs.Writing.{Writing, start, same, push, push_part, finish_all}
use Rattle.rate_matching.specs.declared.CirclePlace.{CirclePlace}
use Rattle.rate_matching.specs.Places.{circle_place}
use Rattle.kept_bits.specs.inner.Rows.{place_by, kept_below, kept_by, AlongRow, Along}

-- ---- a row

-- k bytes are gathered by the rule f from column `from` on
pub record Gathering (f : ℕ → ℕ) (from : ℕ) (out₀ out : List ℕ) (k : ℕ) : Type 0 where
  pub passed : k ≤ length out₀
  pub wrote : Writing out₀ out k (tab_from (from + k) (length out₀ - k) f) (tab_from from (length out₀) f)

module _ {f : ℕ → ℕ} {from : ℕ} {out₀ : List ℕ} where
  pub gathering_start : Gathering f from out₀ out₀ 0
  gathering_start = record { passed = omega arith; wrote = same (rw (add-zero from, sub-zero (length out₀))) start }

  pub gathering_next : {out : List ℕ} {k x : ℕ} → k < length out → x ≡ f (from + k) → Gathering f from out₀ out k → Gathering f from out₀ (set out k x) (k + 1)
  unfolding tab_from
  gathering_next {out} {k} {x} h e w = record {
    passed = omega (arith, w.wrote.long);
    wrote = push h (same (ap (λ (n : ℕ). tab_from (from + k) n f) one ∙ rw (e, next)) w.wrote);
  }
    where
      one : length out₀ - k ≡ suc (length out₀ - (k + 1))
      one = omega (arith, w.wrote.long)

      next : from + (k + 1) ≡ suc (from + k)
      next = omega arith

  pub gathering_finish : {out : List ℕ} {k : ℕ} → length out ≤ k → Gathering f from out₀ out k → out ≡ tab_from from (length out₀) f
  unfolding tab_from
  gathering_finish {out} {k} h w = finish_all h (ap (λ (n : ℕ). tab_from (from + k) n f) none) w.wrote
    where
      none : length out₀ - k ≡ 0
      none = omega (arith, w.wrote.long)

-- ---- the places of a row, by their columns

module _ (heads : List CirclePlace) (step r : ℕ) where
  pub place_of_row : (c : ℕ) → c < 32 → place_by heads step (32 * r + c) ≡ (get_or heads c (circle_place 0)).0 + step * r
  unfolding place_by
  place_of_row c h = rw (column, row)
    where
      column : (32 * r + c) % 32 ≡ c
      column = omega arith

      row : (32 * r + c) / 32 ≡ r
      row = omega arith

  -- what is gathered of a row
  pub row_kept : (circle : List ℕ) (c n : ℕ) → c + n ≤ 32 → tab_from c n (kept_below circle heads (step * r)) ≡ tab_from (32 * r + c) n (kept_by circle heads step)
  unfolding kept_below kept_by
  row_kept circle c n h =
      tab_from_ext c n _ _ (λ k a b. sym (ap (λ (j : ℕ). get_or circle j 0) (place_of_row k (omega arith))))
      ∙ sym (tab_from_shift (32 * r) c n (kept_by circle heads step))

  -- and where it lies
  pub row_along : {long i n : ℕ} (c m : ℕ) → i ≤ 32 * r + c → 32 * r + c + m ≤ i + n → c + m ≤ 32 → Along long heads step i n → AlongRow long heads (step * r) c m
  row_along c m low high few w = record {
    most = few;
    places = λ k a b. rw (← (place_of_row k (omega arith))) (w.places (32 * r + k) (omega arith) (omega arith));
  }

-- ---- row by row

-- so many rows from row `row` on are gathered
pub record Rowing (circle : List ℕ) (heads : List CirclePlace) (step row : ℕ) (out₀ out : List ℕ) (r : ℕ) : Type 0 where
  pub wrote : Writing out₀ out (32 * r) (tab_from (32 * row + 32 * r) (length out₀ - 32 * r) (kept_by circle heads step)) (tab_from (32 * row) (length out₀) (kept_by circle heads step))

-- a row further down
pub row_further : (step row r : ℕ) {below : ℕ} → below ≡ step * (row + r) → below + step ≡ step * (row + (r + 1))
row_further step row r e = omega (arith, e)

module _ {circle : List ℕ} {heads : List CirclePlace} {step row : ℕ} {out₀ : List ℕ} where
  pub rowing_start : Rowing circle heads step row out₀ out₀ 0
  rowing_start = record { wrote = same (rw (add-zero (32 * row), sub-zero (length out₀))) start }

  module _ {out : List ℕ} {r : ℕ} (w : Rowing circle heads step row out₀ out r) where
    abbrev at : ℕ
    at = 32 * r

    -- the place of the next row
    here : 32 * (row + r) + 0 ≡ 32 * row + 32 * r
    here = omega arith

    -- m places of it, as they are gathered
    next_kept : (m : ℕ) → m ≤ 32 → tab_from 0 m (kept_below circle heads (step * (row + r))) ≡ tab_from (32 * row + at) m (kept_by circle heads step)
    next_kept m h = row_kept heads step (row + r) circle 0 m (omega arith) ∙ ap (λ (i : ℕ). tab_from i m (kept_by circle heads step)) here

    pub next_along : {long : ℕ} (m : ℕ) → m ≤ 32 → at + m ≤ length out₀ → Along long heads step (32 * row) (length out₀) → AlongRow long heads (step * (row + r)) 0 m
    next_along {long} m h l a = row_along heads step (row + r) 0 m (omega arith) (omega arith) (omega arith) a

    -- the parts that are lent
    pub row_lent : at + 32 ≤ length out → length (mid_of at (at + 32 - at) out) ≡ 32
    row_lent h = length_mid at (at + 32) out h ∙ add-sub_cancel_left at 32

    pub last_lent : at ≤ length out → length (mid_of at (length out - at) out) ≡ length out₀ - at
    last_lent h = length_mid at (length out) out (omega arith) ∙ omega (arith, w.wrote.long)

    pub rowing_next : {part : List ℕ} → at + 32 ≤ length out → part ≡ tab_from 0 (length (mid_of at (at + 32 - at) out)) (kept_below circle heads (step * (row + r)))
        → Rowing circle heads step row out₀ (put_mid at (at + 32 - at) out part) (r + 1)
    rowing_next {part} h e = record {
      wrote = rw more (push_part said (omega arith) h (ap length said ∙ length_tab_from (32 * row + at) 32 (kept_by circle heads step) ∙ sym (add-sub_cancel_left at 32)) (same future w.wrote));
    }
      where
        more : 32 * (r + 1) ≡ at + 32
        more = omega arith

        said : part ≡ tab_from (32 * row + at) 32 (kept_by circle heads step)
        said = e ∙ ap (λ (m : ℕ). tab_from 0 m (kept_below circle heads (step * (row + r)))) (row_lent h) ∙ next_kept 32 (omega arith)

        turns : length out₀ - at ≡ 32 + (length out₀ - (at + 32))
        turns = omega (arith, w.wrote.long)

        future : tab_from (32 * row + at) (length out₀ - at) (kept_by circle heads step)
            ≡ tab_from (32 * row + at) 32 (kept_by circle heads step) ++ tab_from (32 * row + (at + 32)) (length out₀ - (at + 32)) (kept_by circle heads step)
        future =
            ap (λ (m : ℕ). tab_from (32 * row + at) m (kept_by circle heads step)) turns
            ∙ tab_from_split (32 * row + at) 32 (length out₀ - (at + 32)) (kept_by circle heads step)
            ∙ ap (λ (i : ℕ). tab_from (32 * row + at) 32 (kept_by circle heads step) ++ tab_from i (length out₀ - (at + 32)) (kept_by circle heads step)) (add_assoc (32 * row) at 32)

    -- the last row came back
    pub rowing_last : {part : List ℕ} → at ≤ length out → length out - at < 32 → part ≡ tab_from 0 (length (mid_of at (length out - at) out)) (kept_below circle heads (step * (row + r)))
        → put_mid at (length out - at) out part ≡ tab_from (32 * row) (length out₀) (kept_by circle heads step)
    rowing_last {part} h few e = finish_all (omega (arith, as_long)) refl (push_part said h (omega arith) part_long (same future w.wrote))
      where
        said : part ≡ tab_from (32 * row + at) (length out₀ - at) (kept_by circle heads step)
        said = e ∙ ap (λ (m : ℕ). tab_from 0 m (kept_below circle heads (step * (row + r)))) (last_lent h) ∙ next_kept (length out₀ - at) (omega (arith, w.wrote.long))

        part_long : length part ≡ length out - at
        part_long = ap length said ∙ length_tab_from (32 * row + at) (length out₀ - at) (kept_by circle heads step) ∙ omega (arith, w.wrote.long)

        as_long : length (put_mid at (length out - at) out part) ≡ length out
        as_long = length_put at (length out) out part (omega arith) part_long

        future : tab_from (32 * row + at) (length out₀ - at) (kept_by circle heads step) ≡ tab_from (32 * row + at) (length out₀ - at) (kept_by circle heads step) ++ []
        future = sym (append-nil (tab_from (32 * row + at) (length out₀ - at) (kept_by circle heads step)))

-- ---- from any entry on: the rest of its row, and the rows after it

module _ (circle : List ℕ) (heads : List CirclePlace) (step row column : ℕ) (low : column < 32) where
  pub front_kept : (m : ℕ) → m ≤ 32 - column → tab_from column m (kept_below circle heads (step * row)) ≡ tab_from (32 * row + column) m (kept_by circle heads step)
  front_kept m h = row_kept heads step row circle column m (omega arith)

  pub front_along : {long n : ℕ} (m : ℕ) → m ≤ 32 - column → m ≤ n → Along long heads step (32 * row + column) n → AlongRow long heads (step * row) column m
  front_along m h l w = row_along heads step row column m (omega arith) (omega arith) (omega arith) w

  pub rest_along : {long n : ℕ} → 32 - column ≤ n → Along long heads step (32 * row + column) n → Along long heads step (32 * (row + 1)) (n - (32 - column))
  rest_along h w = record { most = omega (arith, w.most); places = λ k a b. w.places k (omega arith) (omega arith) }

  pub both_kept : (n : ℕ) {front rest : List ℕ} → 32 - column ≤ n → front ≡ tab_from column (32 - column) (kept_below circle heads (step * row))
      → rest ≡ tab_from (32 * (row + 1)) (n - (32 - column)) (kept_by circle heads step) → front ++ rest ≡ tab_from (32 * row + column) n (kept_by circle heads step)
  both_kept n {front} {rest} h e f =
      ap₂ ◌++◌ (e ∙ front_kept (32 - column) (omega arith)) (f ∙ ap (λ (i : ℕ). tab_from i (n - (32 - column)) (kept_by circle heads step)) next)
      ∙ sym (tab_from_split (32 * row + column) (32 - column) (n - (32 - column)) (kept_by circle heads step))
      ∙ ap (λ (m : ℕ). tab_from (32 * row + column) m (kept_by circle heads step)) whole
    where
      next : 32 * (row + 1) ≡ 32 * row + column + (32 - column)
      next = omega arith

      whole : 32 - column + (n - (32 - column)) ≡ n
      whole = omega arith
