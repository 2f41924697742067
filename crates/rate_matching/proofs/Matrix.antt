-- Where the columns of a stream's matrix lie on the circle, clauses 5.1.4.1.1 and 5.1.4.1.2: a stream place lies as many rows below its column's first place as its row says;
-- and the loop that finds the columns' first places.
-- Assumes nothing.
use mathlib.Core.Path.{◌≡◌, refl, sym, ◌∙◌, ap}
use mathlib.Core.List.{List, map}
use Prim.Native.Nat.{ℕ, zero, suc, ◌+◌, ◌-◌, ◌*◌, ◌/◌, ◌%◌, ◌≤◌, ◌<◌}
use native.Mathlib.Omega.{arith}
use lib.Dec.{eqb-suc-zero}
use lib.ListN.{length, get_or, set, get_or-map}
use borrow.Author.Tests.{ne_eqb}
use Rattle.laws.specs.Lists.{tab, tab_from}
use Rattle.laws.proofs.Tab.{get_or_tab, tab_rest, rest_more, rest_none}
use Rattle.laws.proofs.Writing.{Writing, start, same, push, finish_all}
use Rattle.rate_matching.specs.declared.CirclePlace.{CirclePlace}
use Rattle.rate_matching.specs.SubBlocks.{rows, dummies}
use Rattle.rate_matching.specs.Places.{plain_place, shifted_place, place_number, circle_place}
use Rattle.rate_matching.specs.Matrix.{head_begin, head_width, column_head, head_by, heads_of, row_step, written_at}
use Rattle.rate_matching.proofs.Places.{dummies_add, once_round}

-- ---- where a column begins

-- one of stream 0, and one of stream 1, with which stream 2 stands by turns
pub first_head : (R c : ℕ) → column_head R 0 c ≡ c * R
unfolding column_head head_begin head_width
first_head R c = omega arith

pub pair_head : (R c : ℕ) → column_head R 1 c ≡ 32 * R + c * (2 * R)
unfolding column_head head_begin head_width
pair_head R c = omega arith

-- streams 1 and 2 stand by turns, stream 1 first
pub by_turns_lem : (R s c : ℕ) → (s ≡ 0 → ⊥) → column_head R 1 c + (s - 1) ≡ column_head R s c
unfolding column_head head_begin head_width
by_turns_lem R s c h = rw (ne_eqb s 0 h) (omega arith)

-- the columns of a stream lie side by side, each as wide as the first
pub heads_rise : (R s : ℕ) → column_head R s 0 ≤ column_head R s 1
unfolding column_head
heads_rise R s = omega arith

pub first_wide : (R s : ℕ) → column_head R s 1 - column_head R s 0 ≡ head_width R s
unfolding column_head
first_wide R s = omega arith

pub side_by_side : (R s c : ℕ) → column_head R s 0 + c * (column_head R s 1 - column_head R s 0) ≡ column_head R s c
unfolding column_head
side_by_side R s c = rw (first_wide R s) (omega arith)

-- on a circle of at most 193 rows
pub first_few : (R s : ℕ) → R ≤ 193 → s ≤ 2 → (column_head R s 0 ≤ 6177) × (head_width R s ≤ 386)
unfolding column_head head_begin head_width
first_few R zero h u = (omega arith, omega arith)
first_few R (suc s) h u = rw (eqb-suc-zero s) (omega arith, omega arith)

-- ---- where a stream place lies

-- a row is never whole: there is a dummy
pub dummies_some : (D : ℕ) → (D % 32 ≡ 0 → ⊥) → 0 < dummies D
unfolding dummies rows
dummies_some D h = omega arith

-- where the shifted rule reads a y place behind the first: where the plain rule reads the one before it
shifted_plain : (R y : ℕ) → 0 < y → y < 32 * R → shifted_place R y ≡ plain_place R (y - 1)
unfolding shifted_place
shifted_plain R y low h = ap (plain_place R) (once_round (32 * R) (y - 1) (y + (32 * R - 1)) (omega arith) (omega arith))

pub written_is : (D s i : ℕ) → written_at D (s, i) ≡ dummies D + i - s / 2
unfolding written_at
written_is D s i = refl

-- by the y place y that is its own
by_column : (D s i y : ℕ) → (D % 32 ≡ 0 → ⊥) → s < 3 → i < D → y ≡ dummies D + i - s / 2
    → place_number D s i ≡ head_by (rows D) s (y % 32) + row_step s * (y / 32)
unfolding place_number plain_place head_begin head_width column_head head_by row_step
by_column D zero i y some u h e = let is : dummies D + i ≡ y = omega arith in rw is (omega arith)
by_column D (suc zero) i y some u h e = let is : dummies D + i ≡ y = omega arith in rw is (omega arith)
by_column D (suc (suc zero)) i y some u h e =
    let is : dummies D + i - 1 ≡ y = omega arith in
    rw (shifted_plain (rows D) (dummies D + i) (omega (arith, dummies_some D some)) (omega (arith, dummies_add D)), is) (omega arith)
by_column D (suc (suc (suc s))) i y some u h e = absurd (omega arith)

pub place_by_lem : (D s i : ℕ) → (D % 32 ≡ 0 → ⊥) → s < 3 → i < D
    → place_number D s i ≡ head_by (rows D) s (written_at D (s, i) % 32) + row_step s * (written_at D (s, i) / 32)
place_by_lem D s i some u h = by_column D s i (written_at D (s, i)) some u h (written_is D s i)

-- ---- the loop over the columns

pub head_at : (R s p : ℕ) → p < 32 → get_or (heads_of R s) p (circle_place 0) ≡ circle_place (head_by R s p)
unfolding heads_of
head_at R s p h = get_or-map circle_place (tab 32 (head_by R s)) p 0 ∙ ap circle_place (get_or_tab 32 (head_by R s) p 0 h)

-- those of the columns before p are found
pub record Finding (R s : ℕ) (heads₀ heads : List CirclePlace) (p : ℕ) : Type 0 where
  pub passed : p ≤ 32
  pub long : length heads ≡ 32
  pub wrote : Writing heads₀ heads p (map circle_place (tab_from p (32 - p) (head_by R s))) (heads_of R s)

module _ {R s : ℕ} where
  pub finding_start : {heads : List CirclePlace} → length heads ≡ 32 → Finding R s heads heads 0
  unfolding heads_of
  finding_start e = record { passed = omega arith; long = e; wrote = same (ap (map circle_place) (sym (tab_rest 32 (head_by R s)))) start }

  pub finding_next : {heads₀ heads : List CirclePlace} {p : ℕ} {at : CirclePlace} → p < 32 → at ≡ circle_place (head_by R s p)
      → Finding R s heads₀ heads p → Finding R s heads₀ (set heads p at) (p + 1)
  finding_next {heads₀} {heads} {p} {at} h e w = record { passed = omega arith; long = wrote'.long ∙ sym w.wrote.long ∙ w.long; wrote = wrote' }
    where
      wrote' : Writing heads₀ (set heads p at) (p + 1) (map circle_place (tab_from (p + 1) (32 - (p + 1)) (head_by R s))) (heads_of R s)
      wrote' = push (omega (arith, w.long)) (same (ap (map circle_place) (rest_more p 32 (head_by R s) h) ∙ rw e refl) w.wrote)

  pub finding_finish : {heads₀ heads : List CirclePlace} {p : ℕ} → 32 ≤ p → Finding R s heads₀ heads p → heads ≡ heads_of R s
  finding_finish {p = p} h w = finish_all (omega (arith, w.long)) (ap (map circle_place) (rest_none p 32 (head_by R s) h)) w.wrote
