-- The maps between stream places and circle places, clauses 5.1.4.1.1 and 5.1.4.1.2, are inverse to one another: no place of a stream is lost, none lies twice.
-- Of the column table only its rule is used. Assumes nothing.
use mathlib.Core.Path.{◌≡◌, refl, sym, ◌∙◌, ap, subst}
use mathlib.Core.Logic.{◌↔◌}
use mathlib.Core.Bool.{Bool, true, false, cond}
use Prim.Native.Nat.{ℕ, zero, suc, ◌+◌, ◌-◌, ◌*◌, ◌/◌, ◌%◌, ◌≤◌, ◌<◌}
use native.Mathlib.Nat.{add_assoc, add-sub_cancel_left, mod-lt, mod-eq_of_lt, mod-add-mod, add-mod_right, div-lt_iff_lt-mul, div-add-mod'}
use native.Mathlib.Omega.{arith}
use lib.Arith.{digits_lt, digits_div, digits_mod}
use lib.Dec.{ltb, eqb}
use borrow.Author.Tests.{lt-ltb, le-ltb, eq-eqb, ne_eqb, ltb-true, ltb-false, eqb-true, eqb-false}
use Rattle.rate_matching.specs.declared.StreamPlace.{StreamPlace}
use Rattle.rate_matching.specs.declared.CirclePlace.{CirclePlace}
use Rattle.rate_matching.specs.Columns.{column}
use Rattle.rate_matching.specs.SubBlocks.{rows, dummies, read_columns, read_plain, read_shifted}
use Rattle.rate_matching.specs.Circle.{circle_length}
use Rattle.rate_matching.specs.Places.{Bit, Dummy, held_y, held_by_turns, held_at, plain_place, shifted_place, place_number, place_of, InStreams, OnCircle}
use Rattle.rate_matching.proofs.Columns.{column_rule}

-- ---- the rows and the dummies

-- the dummies and the stream fill the rows
pub dummies_add : (D : ℕ) → dummies D + D ≡ 32 * rows D
unfolding rows dummies
dummies_add D = omega arith

-- ---- the plain rule and its places are inverse, whatever the column numbers

low : (c m : ℕ) → c < 32 → (c + 32 * m) % 32 ≡ c
low c m h = omega arith

high : (c m : ℕ) → c < 32 → (c + 32 * m) / 32 ≡ m
high c m h = omega arith

-- P permutes the 32 columns, and Q is its inverse
pub record Permuted (P Q : ℕ → ℕ) : Type 0 where
  pub there : (c : ℕ) → c < 32 → (P c < 32) × (Q (P c) ≡ c)
  pub back : (c : ℕ) → c < 32 → (Q c < 32) × (P (Q c) ≡ c)

-- where y place p is read by column numbers whose inverse is Q: column Q(p mod 32), row p / 32
abbrev pub lie_columns : (ℕ → ℕ) → ℕ → ℕ → ℕ
lie_columns Q R p = Q (p % 32) * R + p / 32

module _ (P Q : ℕ → ℕ) (w : Permuted P Q) (R k : ℕ) (h : k < 32 * R) where
  row_lt : k % R < R
  row_lt = mod-lt k (omega arith)

  column_below : k / R < 32
  column_below = (div-lt_iff_lt-mul {k = R} {x = k} (omega arith)).1 h

  pub columns_read_lt : read_columns P R k < 32 * R
  columns_read_lt = omega (arith, row_lt, (w.there (k / R) column_below).0)

  columns_place_read : lie_columns Q R (read_columns P R k) ≡ k
  columns_place_read =
      let c = w.there (k / R) column_below in
      rw (low (P (k / R)) (k % R) c.0, high (P (k / R)) (k % R) c.0, c.1) (div-add-mod' k R)

  pub columns_place_lt : lie_columns Q R k < 32 * R
  columns_place_lt = digits_lt (w.back (k % 32) (omega arith)).0 (omega arith)

  pub columns_read_place : read_columns P R (lie_columns Q R k) ≡ k
  columns_read_place =
      let r : k / 32 < R = omega arith in
      rw (digits_div (Q (k % 32)) r, digits_mod (Q (k % 32)) r, (w.back (k % 32) (omega arith)).1) (omega arith)

-- the columns of clause 5.1.4.1.1 are their own inverse
own_inverse : Permuted column column
own_inverse = record { there = column_rule; back = column_rule }

module _ (R k : ℕ) (h : k < 32 * R) where
  pub read_lt : read_plain R k < 32 * R
  unfolding read_plain
  read_lt = columns_read_lt column column own_inverse R k h

  place_read : plain_place R (read_plain R k) ≡ k
  unfolding read_plain plain_place
  place_read = columns_place_read column column own_inverse R k h

  pub place_lt : plain_place R k < 32 * R
  unfolding plain_place
  place_lt = columns_place_lt column column own_inverse R k h

  read_place : read_plain R (plain_place R k) ≡ k
  unfolding read_plain plain_place
  read_place = columns_read_place column column own_inverse R k h

-- ---- one further round a ring of n, and one back

pub once_round : (n p q : ℕ) → p < n → q ≡ p + n → q % n ≡ p
once_round n p q h e = ap (λ (x : ℕ). x % n) e ∙ add-mod_right p n ∙ mod-eq_of_lt h

on_back : (n p : ℕ) → p < n → ((p + (n - 1)) % n + 1) % n ≡ p
on_back n p h = mod-add-mod (p + (n - 1)) n 1 ∙ once_round n p (p + (n - 1) + 1) h (omega arith)

back_on : (n p : ℕ) → p < n → ((p + 1) % n + (n - 1)) % n ≡ p
back_on n p h = mod-add-mod (p + 1) n (n - 1) ∙ once_round n p (p + 1 + (n - 1)) h (omega arith)

-- ---- all three streams alike

-- the reading rule, shifted or plain
abbrev pub read_by : Bool → ℕ → ℕ → ℕ
read_by true = read_shifted
read_by false = read_plain

-- where the rule reads a y place
abbrev pub lie_by : Bool → ℕ → ℕ → ℕ
lie_by true = shifted_place
lie_by false = plain_place

-- the circle place where stream s has its place x after the interleaver
abbrev pub at : ℕ → ℕ → ℕ → ℕ
at R zero x = x
at R (suc zero) x = 32 * R + 2 * x
at R (suc (suc s)) x = 32 * R + (2 * x + 1)

pub at_lt : (R s x : ℕ) → s < 3 → x < 32 * R → at R s x < circle_length R
unfolding circle_length
at_lt R zero x u h = omega arith
at_lt R (suc zero) x u h = omega arith
at_lt R (suc (suc s)) x u h = omega arith

-- what holds at each stream's places after the interleaver holds at each circle place
pub by_stream : (R : ℕ) (P : ℕ → Type 0) → ((s x : ℕ) → s < 3 → x < 32 * R → P (at R s x)) → (j : ℕ) → j < circle_length R → P j
unfolding circle_length
by_stream R P f j h = first (ltb j (32 * R)) refl
  where
    turns : (q : ℕ) → q ≡ j - 32 * R → 32 * R ≤ j → (b : Bool) → eqb (q % 2) 0 ≡ b → P j
    turns q e l true t = subst P (omega (arith, eqb-true (q % 2) 0 t)) (f 1 (q / 2) (omega arith) (omega arith))
    turns q e l false t = subst P (omega (arith, eqb-false (q % 2) 0 t)) (f 2 (q / 2) (omega arith) (omega arith))

    first : (b : Bool) → ltb j (32 * R) ≡ b → P j
    first true t = f 0 j (omega arith) (ltb-true j (32 * R) t)
    first false t = turns (j - 32 * R) refl (ltb-false j (32 * R) t) (eqb ((j - 32 * R) % 2) 0) refl

module _ (R : ℕ) where
  pub read_by_lt : (b : Bool) (k : ℕ) → k < 32 * R → read_by b R k < 32 * R
  unfolding read_shifted
  read_by_lt true k h = mod-lt _ (omega arith)
  read_by_lt false k h = read_lt R k h

  pub lie_by_lt : (b : Bool) (k : ℕ) → k < 32 * R → lie_by b R k < 32 * R
  unfolding shifted_place
  lie_by_lt true k h = place_lt R ((k + (32 * R - 1)) % (32 * R)) (mod-lt (k + (32 * R - 1)) (omega arith))
  lie_by_lt false k h = place_lt R k h

  read_by_lie_by : (b : Bool) (k : ℕ) → k < 32 * R → read_by b R (lie_by b R k) ≡ k
  unfolding read_plain read_shifted shifted_place
  read_by_lie_by true k h =
      ap (λ (y : ℕ). (y + 1) % (32 * R)) (read_place R ((k + (32 * R - 1)) % (32 * R)) (mod-lt (k + (32 * R - 1)) (omega arith)))
      ∙ on_back (32 * R) k h
  read_by_lie_by false k h = read_place R k h

  lie_by_read_by : (b : Bool) (k : ℕ) → k < 32 * R → lie_by b R (read_by b R k) ≡ k
  unfolding read_plain read_shifted shifted_place
  lie_by_read_by true k h = ap (plain_place R) (back_on (32 * R) (read_plain R k) (read_lt R k h)) ∙ place_read R k h
  lie_by_read_by false k h = place_read R k h

past_first : (D q : ℕ) → held_at D (record { 0 = 32 * rows D + q }) ≡ held_by_turns D q
unfolding held_at
past_first D q = simp (le-ltb (32 * rows D + q) (32 * rows D) (omega arith), add-sub_cancel_left)

by_turns_lem : (D q x : ℕ) (b : Bool) → eqb (q % 2) 0 ≡ b → q / 2 ≡ x
    → held_by_turns D q ≡ cond b (held_y D 1 (read_plain (rows D) x)) (held_y D 2 (read_shifted (rows D) x))
unfolding held_by_turns
by_turns_lem D q x b t e = simp (t, e)

-- what the circle place of stream s's place x after the interleaver holds
pub held_at_lem : (D s x : ℕ) → s < 3 → x < 32 * rows D → held_at D (record { 0 = at (rows D) s x }) ≡ held_y D s (read_by (eqb s 2) (rows D) x)
unfolding held_at
held_at_lem D zero x u h = simp (lt-ltb x (32 * rows D) h)
held_at_lem D (suc zero) x u h = past_first D (2 * x) ∙ by_turns_lem D (2 * x) x true (eq-eqb (2 * x % 2) 0 (omega arith)) (omega arith)
held_at_lem D (suc (suc zero)) x u h =
    past_first D (2 * x + 1) ∙ by_turns_lem D (2 * x + 1) x false (ne_eqb ((2 * x + 1) % 2) 0 (λ e. omega arith)) (omega arith)
held_at_lem D (suc (suc (suc s))) x u h = absurd (omega arith)

place_at : (D s i : ℕ) → s < 3 → place_number D s i ≡ at (rows D) s (lie_by (eqb s 2) (rows D) (dummies D + i))
unfolding place_number
place_at D zero i u = refl
place_at D (suc zero) i u = refl
place_at D (suc (suc zero)) i u = add_assoc (32 * rows D) (2 * shifted_place (rows D) (dummies D + i)) 1
place_at D (suc (suc (suc s))) i u = absurd (omega arith)

-- ---- the y places: the dummies, then the stream

pub held_y_dummy : (D s y : ℕ) → y < dummies D → held_y D s y ≡ Dummy
unfolding held_y
held_y_dummy D s y h = simp (lt-ltb y (dummies D) h)

pub held_y_bit : (D s i : ℕ) → held_y D s (dummies D + i) ≡ Bit (s, i)
unfolding held_y
held_y_bit D s i = simp (le-ltb (dummies D + i) (dummies D) (omega arith), add-sub_cancel_left)

no_bit : {p : StreamPlace} → Dummy ≡ Bit p → ⊥
no_bit e = let z : ◌≡◌ {A = ℕ} 0 1 = cc in omega arith

-- a y place that holds a bit is past the dummies
held_y_inverse : (D s y : ℕ) (p : StreamPlace) → held_y D s y ≡ Bit p → (p.0 ≡ s) × (dummies D + p.1 ≡ y)
unfolding held_y
held_y_inverse D s y p e = go (ltb y (dummies D)) refl e
  where
    go : (b : Bool) → ltb y (dummies D) ≡ b → cond b Dummy (Bit (s, y - dummies D)) ≡ Bit p → (p.0 ≡ s) × (dummies D + p.1 ≡ y)
    go true t e = absurd (no_bit e)
    go false t e = let f : p.0 ≡ s = cc in let g : p.1 ≡ y - dummies D = cc in (f, omega (arith, ltb-false y (dummies D) t))

-- ---- both ways

module _ (D : ℕ) (p : StreamPlace) (w : InStreams D p) where
  y_lt : dummies D + p.1 < 32 * rows D
  y_lt = omega (arith, dummies_add D, w.place)

  -- where the stream place comes out of its interleaver
  lies : ℕ
  lies = lie_by (eqb p.0 2) (rows D) (dummies D + p.1)

  lies_lt : lies < 32 * rows D
  unfolding lies
  lies_lt = lie_by_lt (rows D) (eqb p.0 2) (dummies D + p.1) y_lt

  pub place_on_circle : OnCircle D (place_of D p)
  unfolding place_of lies
  place_on_circle = rw (place_at D p.0 p.1 w.stream) (at_lt (rows D) p.0 lies w.stream lies_lt)

  pub held_place : held_at D (place_of D p) ≡ Bit p
  unfolding place_of lies
  held_place =
      ap (λ (n : ℕ). held_at D (record { 0 = n })) (place_at D p.0 p.1 w.stream)
      ∙ held_at_lem D p.0 lies w.stream lies_lt
      ∙ ap (held_y D p.0) (read_by_lie_by (rows D) (eqb p.0 2) (dummies D + p.1) y_lt)
      ∙ held_y_bit D p.0 p.1

pub place_held : (D : ℕ) (j : CirclePlace) (p : StreamPlace) → OnCircle D j → held_at D j ≡ Bit p → InStreams D p × (place_of D p ≡ j)
unfolding place_of
place_held D j p h = by_stream (rows D) Back back j.0 h
  where
    Back : ℕ → Type 0
    Back n = held_at D (record { 0 = n }) ≡ Bit p → InStreams D p × (place_of D p ≡ record { 0 = n })

    back : (s x : ℕ) → s < 3 → x < 32 * rows D → Back (at (rows D) s x)
    back s x u l e =
        let y : ℕ = read_by (eqb s 2) (rows D) x in
        let i : (p.0 ≡ s) × (dummies D + p.1 ≡ y) = held_y_inverse D s y p (sym (held_at_lem D s x u l) ∙ e) in (
          record { stream = rw i.0 u; place = omega (arith, dummies_add D, read_by_lt (rows D) (eqb s 2) x l) },
          ap (λ (n : ℕ). record { 0 = n })
              (ap (λ (n : ℕ). place_number D n p.1) i.0
              ∙ place_at D s p.1 u
              ∙ ap (λ (n : ℕ). at (rows D) s (lie_by (eqb s 2) (rows D) n)) i.1
              ∙ ap (at (rows D) s) (lie_by_read_by (rows D) (eqb s 2) x l)),
        )

-- a circle place holds a stream place exactly where that stream place lies
pub both_ways : (D : ℕ) (j : CirclePlace) (p : StreamPlace) → OnCircle D j → InStreams D p → (held_at D j ≡ Bit p) ↔ (place_of D p ≡ j)
both_ways D j p o w = (λ e. (place_held D j p o e).1, λ e. ap (held_at D) (sym e) ∙ held_place D p w)
