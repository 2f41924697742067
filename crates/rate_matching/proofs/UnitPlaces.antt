-- What the mapping says of a unit of the circle, clauses 5.1.4.1.1 and 5.1.4.1.2: its places lie in order, and those that it names are the ones that hold a bit.
-- Assumes nothing.
use mathlib.Core.Path.{◌≡◌, refl, sym, ◌∙◌, ap, ap₂, subst}
use mathlib.Core.Bool.{Bool, true, false, cond, ◌&&◌}
use mathlib.Core.List.{List, ◌++◌, map, map-append}
use Prim.Native.Nat.{ℕ, ◌+◌, ◌-◌, ◌*◌, ◌/◌, ◌%◌, ◌≤◌, ◌<◌}
use native.Mathlib.Nat.{add-zero, mul-le-mul_right}
use native.Mathlib.Omega.{arith}
use lib.Dec.{leb, ltb}
use lib.ListN.{get_or}
use borrow.Author.Tests.{ltb-true, ltb-false, le-leb, lt-ltb, le-ltb}
use Rattle.laws.specs.Lists.{tab, tab_from}
use Rattle.laws.proofs.Tab.{tab_from_shift, map_tab_from, tab_ext}
use Rattle.std.specs.declared.option.Option.{Option}
use Rattle.std.specs.declared.option.Option.TheVariants.{Some, None}
use Rattle.rate_matching.specs.declared.CirclePlace.{CirclePlace}
use Rattle.rate_matching.specs.declared.Unit.{Unit}
use Rattle.rate_matching.specs.Columns.{column}
use Rattle.rate_matching.specs.SubBlocks.{rows, dummies, rows_before}
use Rattle.rate_matching.specs.Circle.{circle_length}
use Rattle.rate_matching.specs.Places.{circle_place, longest}
use Rattle.rate_matching.specs.Walk.{itself}
use Rattle.rate_matching.specs.Shape.{shape, bit_places, second, pair_places, last_place}
use Rattle.rate_matching.specs.Matrix.{column_head, head_by, heads_of, heads_within}
use Rattle.rate_matching.specs.Units.{column_unit, pair_unit, unit_at, unit_within, column_within, pair_within, alone_place, alone_count, both_count, unit_places, unit_start, Lies}
use Rattle.rate_matching.proofs.Columns.{column_rule}
use Rattle.rate_matching.proofs.Matrix.{first_head, pair_head, head_at}
use Rattle.rate_matching.proofs.ShapeColumns.{column_places, pair_places_lem}
use Rattle.rate_matching.proofs.Units.{some_dummies, low_start, low_next, high_start, high_next}

-- ---- which unit it is

-- the unit that was found is the one that is there
some_is : (b : Bool) {U V : Unit} → Some U ≡ cond b (Some V) None → U ≡ V
some_is true e = cc
some_is false e = cc

pub unit_there : {D F u : ℕ} → D ≤ longest → F < D → u < 64 → unit_within D F u ≡ Some (unit_at D F u)
unfolding unit_within
unit_there {D} {F} {u} most few low = simp (le-leb D longest most, lt-ltb F D few, lt-ltb u 64 low)

pub unit_low : (D F : ℕ) {u : ℕ} → u < 32 → unit_at D F u ≡ column_unit D F u
unfolding unit_at
unit_low D F {u} h = rw (lt-ltb u 32 h)

pub unit_high : (D F : ℕ) {u : ℕ} → 32 ≤ u → unit_at D F u ≡ pair_unit D F (u - 32)
unfolding unit_at
unit_high D F {u} h = rw (le-ltb u 32 h)

-- unit u is column u of stream 0, or column u - 32 of streams 1 and 2
pub column_is : (D F : ℕ) {u : ℕ} → u < 32 → column_within D F u ≡ unit_within D F u
unfolding column_within unit_within unit_at
column_is D F {u} low = let high : u < 64 = omega arith in rw (lt-ltb u 32 low, lt-ltb u 64 high)

pub pair_is : (D F : ℕ) {u : ℕ} → 32 ≤ u → pair_within D F (u - 32) ≡ unit_within D F u
unfolding pair_within unit_within unit_at
pair_is D F {u} high = go (ltb u 64) refl
  where
    past : (b : Bool) (x y : Option Unit) → cond (b && false) x None ≡ cond (b && false) y None
    past true x y = refl
    past false x y = refl

    go : (t : Bool) → ltb u 64 ≡ t → cond (leb D longest && ltb F D && ltb (u - 32) 32) (Some (pair_unit D F (u - 32))) None
        ≡ cond (leb D longest && ltb F D && ltb u 64) (Some (cond (ltb u 32) (column_unit D F u) (pair_unit D F (u - 32)))) None
    go true t =
        let low = ltb-true u 64 t in
        let few : u - 32 < 32 = omega arith in
        rw (lt-ltb (u - 32) 32 few, lt-ltb u 64 low, le-ltb u 32 high)
    go false t =
        let low = ltb-false u 64 t in
        let many : 32 ≤ u - 32 = omega arith in
        rw (le-ltb (u - 32) 32 many, le-ltb u 64 low) (past (leb D longest && ltb F D) _ _)

-- a column of a block that is there
module _ {D F c : ℕ} (most : D ≤ longest) (few : F < D) (low : c < 32) where
  pub column_there : column_within D F c ≡ Some (column_unit D F c)
  unfolding column_within
  column_there = simp (le-leb D longest most, lt-ltb F D few, lt-ltb c 32 low)

  pub pair_there : pair_within D F c ≡ Some (pair_unit D F c)
  unfolding pair_within
  pair_there = simp (le-leb D longest most, lt-ltb F D few, lt-ltb c 32 low)

-- what a call gave where it gave a unit: it is one of the 64, and this one
pub unit_found : (D F u : ℕ) {U : Unit} {o : Option Unit} → o ≡ unit_within D F u → o ≡ Some U → U ≡ unit_at D F u
unfolding unit_within
unit_found D F u told is = some_is _ (sym is ∙ told)

pub column_found : (D F : ℕ) {u : ℕ} {U : Unit} {o : Option Unit} → o ≡ column_within D F u → o ≡ Some U → u < 32 → U ≡ unit_at D F u
unfolding column_within
column_found D F {u} told is low = some_is _ (sym is ∙ told) ∙ sym (unit_low D F low)

pub pair_found : (D F : ℕ) {u : ℕ} {U : Unit} {o : Option Unit} → o ≡ pair_within D F (u - 32) → o ≡ Some U → 32 ≤ u → U ≡ unit_at D F u
unfolding pair_within
pair_found D F {u} told is high = some_is _ (sym is ∙ told) ∙ sym (unit_high D F high)

-- ---- where stream 0's units begin and end

-- a unit begins where its column's first place is
pub unit_first : (D p : ℕ) → p < 32 → (column_unit D 0 (column p)).begin ≡ get_or (heads_of (rows D) 0) p (circle_place 0)
unfolding column_unit head_by
unit_first D p h = sym (head_at (rows D) 0 p h)

-- and the last one ends where stream 0 does
pub unit_last : (D : ℕ) → (column_unit D 0 31).end.0 ≡ 32 * rows D
unfolding column_unit
unit_last D = omega (arith, first_head (rows D) 31)

-- where a unit begins, and head p, if there is one
abbrev pub begin_in : Option Unit → Option CirclePlace
begin_in o = elim o [ None ↦ None | Some U ↦ Some U.begin ]

abbrev pub head_in : ℕ → Option (List CirclePlace) → Option CirclePlace
head_in p o = elim o [ None ↦ None | Some heads ↦ Some (get_or heads p (circle_place 0)) ]

-- the same of what the mapping gives, which has the units of stream 0 where it has the heads
pub column_first : (D p : ℕ) → p < 32 → begin_in (column_within D 0 (column p)) ≡ head_in p (heads_within D 0)
unfolding column_within heads_within
column_first D p h = rw (lt-ltb (column p) 32 (column_rule p h).0) (go (leb D longest && ltb 0 D))
  where
    go : (t : Bool) → begin_in (cond (t && true) (Some (column_unit D 0 (column p))) None) ≡ head_in p (cond (t && true) (Some (heads_of (rows D) 0)) None)
    go true = ap (λ (x : CirclePlace). Some x) (unit_first D p h)
    go false = refl

pub stream_ends : {D : ℕ} → D ≤ longest → 0 < D → {U : Unit} → Some U ≡ column_within D 0 31 → U.end.0 ≡ 32 * rows D
unfolding column_within
stream_ends {D} most some is = ap (λ (x : Unit). x.end.0) (some_is _ is) ∙ unit_last D

-- ---- the rows of a column

-- e is the first row of stream 2, f that of a stream with filler
pub record Rowed (D F p R dm e f : ℕ) : Type 0 where
  pub sum : dm + D ≡ 32 * R
  pub few : R ≤ 193
  pub alone : e ≤ f
  pub high : f ≤ R
  pub last : p / 31 + f ≤ R
  pub early : dm ≤ p + 1 + 32 * e
  pub behind : dm ≤ p + 32 * f
  pub near : p + 32 * f ≤ dm + F + 31
  pub filler : F < D
  pub column : p < 32

pub rowed : {D F p R dm e f : ℕ} → D ≤ longest → F < D → p < 32 → R ≡ rows D → dm ≡ 32 * R - D → e ≡ rows_before dm (p + 1) → f ≡ rows_before (dm + F) p
    → Rowed D F p R dm e f
unfolding rows_before rows
rowed {D} {F} {p} {R} {dm} {e} {f} most few low is-R is-dm is-e is_f = record {
  sum = sum;
  few = omega arith;
  alone = omega arith;
  high = omega arith;
  last = omega arith;
  early = omega arith;
  behind = omega arith;
  near = omega arith;
  filler = few;
  column = low;
}
  where
    sum : dm + D ≡ 32 * R
    sum = omega arith

module _ {D F c : ℕ} (most : D ≤ longest) (few : F < D) (h : c < 32) where
  abbrev R : ℕ
  R = rows D

  abbrev p : ℕ
  p = column c

  abbrev e : ℕ
  e = rows_before (dummies D) (p + 1)

  abbrev f : ℕ
  f = rows_before (dummies D + F) p

  pub column_rowed : Rowed D F p R (dummies D) e f
  unfolding dummies
  column_rowed = rowed most few (column_rule c h).0 refl refl refl refl

  -- ---- its places lie in order

  pub column_lies : Lies (column_unit D F c)
  unfolding column_unit
  column_lies = record {
    alone = omega arith;
    both = omega (arith, column_rowed.high);
    end = omega (arith, first_head R c, column_rowed.few, mul-le-mul_right R h);
  }

  pub pair_lies : Lies (pair_unit D F c)
  unfolding pair_unit second last_place
  pair_lies = record {
    alone = omega (arith, column_rowed.alone);
    both = omega (arith, column_rowed.last, column_rowed.column);
    end = omega (arith, pair_head R c, column_rowed.few, mul-le-mul_right (2 * R) h);
  }

  column_ends : (column_unit D F c).end.0 ≤ circle_length R
  unfolding column_unit circle_length
  column_ends = omega (arith, first_head R c, mul-le-mul_right R h)

  pair_ends : (pair_unit D F c).end.0 ≤ circle_length R
  unfolding pair_unit last_place circle_length
  pair_ends = omega (arith, pair_head R c, mul-le-mul_right (2 * R) h)

  -- ---- there are so many

  pub alone_count_lem : alone_count (pair_unit D F c) ≡ f - e
  unfolding alone_count pair_unit second
  alone_count_lem = omega (arith, column_rowed.alone)

  pub alone_none : alone_count (column_unit D F c) ≡ 0
  unfolding alone_count column_unit
  alone_none = omega arith

  pub column_count : both_count (column_unit D F c) ≡ R - f
  unfolding both_count column_unit
  column_count = omega (arith, column_rowed.high)

  pub pair_count : both_count (pair_unit D F c) ≡ 2 * R - p / 31 - 2 * f
  unfolding both_count pair_unit last_place
  pair_count = omega arith

  -- ---- its places that hold a bit

  pub column_named : unit_places (column_unit D F c) ≡ bit_places (shape D F) (c * R) (c * R + R)
  unfolding unit_places column_unit tab tab_from
  column_named =
      ap₂ (λ (k n : ℕ). tab k (alone_place (column_unit D F c)) ++ tab_from (column_head R 0 c + f) n itself) alone_none column_count
      ∙ ap (λ (i : ℕ). tab_from (i + f) (R - f) itself) (first_head R c)
      ∙ sym (column_places D F (omega arith) c h)

  module _ (some : D % 8 ≡ 4) where
    abbrev j : ℕ
    j = 32 * R + c * (2 * R)

    pub pair_named : unit_places (pair_unit D F c) ≡ bit_places (shape D F) j (j + 2 * R)
    unfolding unit_places both_count pair_places alone_place pair_unit second tab itself
    pair_named =
        ap₂ ◌++◌ (ap (λ (n : ℕ). tab n (alone_place (pair_unit D F c))) alone_count_lem ∙ sym alone) (sym both)
        ∙ sym (map-append (λ (k : ℕ). j + k) (tab_from e (f - e) second) (tab_from (2 * f) (last_place R p - 2 * f) itself))
        ∙ sym told
      where
        told : bit_places (shape D F) j (j + 2 * R) ≡ map (λ (k : ℕ). j + k) (tab_from e (f - e) second ++ tab_from (2 * f) (last_place R p - 2 * f) itself)
        told = pair_places_lem D F (omega arith) c h few (some_dummies D some)

        alone : map (λ (k : ℕ). j + k) (tab_from e (f - e) second) ≡ tab (f - e) (alone_place (pair_unit D F c))
        alone =
            map_tab_from e (f - e) second (λ (k : ℕ). j + k)
            ∙ ap (λ (i : ℕ). tab_from i (f - e) (λ (q : ℕ). j + (2 * q + 1))) (sym (add-zero e))
            ∙ tab_from_shift e 0 (f - e) (λ (q : ℕ). j + (2 * q + 1))
            ∙ tab_ext (f - e) (λ (q : ℕ). j + (2 * (e + q) + 1)) (alone_place (pair_unit D F c)) (λ q l. omega (arith, pair_head R c))

        both : map (λ (k : ℕ). j + k) (tab_from (2 * f) (last_place R p - 2 * f) itself) ≡ tab_from (pair_unit D F c).both.0 (both_count (pair_unit D F c)) itself
        both =
            let head : j ≡ column_head R 1 c = sym (pair_head R c) in
            let left : last_place R p - 2 * f ≡ column_head R 1 c + last_place R p - (column_head R 1 c + 2 * f) = omega arith in
            map_tab_from (2 * f) (last_place R p - 2 * f) itself (λ (k : ℕ). j + k)
            ∙ sym (tab_from_shift j (2 * f) (last_place R p - 2 * f) itself)
            ∙ ap₂ (λ (i n : ℕ). tab_from (i + 2 * f) n itself) head left

-- ---- of unit u

module _ {D F : ℕ} (u : ℕ) (most : D ≤ longest) (few : F < D) {U : Unit} (is : U ≡ unit_at D F u) where
  pub told_low : u < 32 → U ≡ column_unit D F u
  told_low h = is ∙ unit_low D F h

  -- a column of stream 0 has its bits from there on
  pub column_begins : u < 32 → U.both.0 ≡ u * rows D + rows_before (dummies D + F) (column u)
  unfolding column_unit
  column_begins h = ap (λ (x : Unit). x.both.0) (told_low h) ∙ rw (first_head (rows D) u)

  pub told_high : 32 ≤ u → U ≡ pair_unit D F (u - 32)
  told_high h = is ∙ unit_high D F h

  -- the units lie one after another
  pub begins_at : U.begin.0 ≡ unit_start (rows D) u
  unfolding column_unit pair_unit
  begins_at = go (ltb u 32) refl
    where
      go : (a : Bool) → ltb u 32 ≡ a → U.begin.0 ≡ unit_start (rows D) u
      go true s = let h : u < 32 = ltb-true u 32 s in ap (λ (x : Unit). x.begin.0) (told_low h) ∙ first_head (rows D) u ∙ sym (low_start (rows D) u h)
      go false s = let h : 32 ≤ u = ltb-false u 32 s in ap (λ (x : Unit). x.begin.0) (told_high h) ∙ pair_head (rows D) (u - 32) ∙ sym (high_start (rows D) u h)

  -- what holds of the columns and of the pairs holds of it
  pub by_kind : (P : Unit → Type 0) → u < 64 → (u < 32 → P (column_unit D F u)) → (u - 32 < 32 → P (pair_unit D F (u - 32))) → P U
  by_kind P l low high = go (ltb u 32) refl
    where
      go : (a : Bool) → ltb u 32 ≡ a → P U
      go true s = let h : u < 32 = ltb-true u 32 s in subst P (sym (told_low h)) (low h)
      go false s = let h : 32 ≤ u = ltb-false u 32 s in subst P (sym (told_high h)) (high (omega arith))

  -- its places lie in order, and it ends on the circle
  pub unit_lies : u < 64 → Lies U
  unit_lies l = by_kind Lies l (column_lies most few) (pair_lies most few)

  pub unit_ends : u < 64 → U.end.0 ≤ circle_length (rows D)
  unit_ends l = by_kind (λ (x : Unit). x.end.0 ≤ circle_length (rows D)) l (column_ends most few) (pair_ends most few)

  -- the places that it names are those of the unit that hold a bit
  pub named_at : D % 8 ≡ 4 → u < 64 → unit_places U ≡ bit_places (shape D F) (unit_start (rows D) u) (unit_start (rows D) (u + 1))
  named_at some l = go (ltb u 32) refl
    where
      go : (a : Bool) → ltb u 32 ≡ a → unit_places U ≡ bit_places (shape D F) (unit_start (rows D) u) (unit_start (rows D) (u + 1))
      go true s =
          let h : u < 32 = ltb-true u 32 s in
          ap unit_places (told_low h) ∙ rw (low_next (rows D) u h, low_start (rows D) u h) (column_named most few h)
      go false s =
          let h : 32 ≤ u = ltb-false u 32 s in
          ap unit_places (told_high h) ∙ rw (high_next (rows D) u h, high_start (rows D) u h) (pair_named most few (omega arith) some)

-- ---- of the unit that the mapping gives

module _ {D F : ℕ} (u : ℕ) (most : D ≤ longest) (few : F < D) {U : Unit} (is : Some U ≡ unit_within D F u) where
  -- the units lie one after another
  pub unit_begins : U.begin.0 ≡ unit_start (rows D) u
  unit_begins = begins_at u most few (unit_found D F u is refl)

  -- the places that it names are those of the unit that hold a bit
  pub unit_named : D % 8 ≡ 4 → u < 64 → unit_places U ≡ bit_places (shape D F) (unit_start (rows D) u) (unit_start (rows D) (u + 1))
  unit_named some l = named_at u most few (unit_found D F u is refl) some l
