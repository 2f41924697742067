-- That what is kept follows what arrives, demand 3: a place keeps what it kept, met by the values that arrived for it, in order. One induction, whatever is kept,
-- whatever arrives and however the two meet.
-- Assumes nothing.
use mathlib.Core.Path.{◌≡◌, refl, sym, ◌∙◌, ap}
use mathlib.Core.Bool.{Bool, true, false, cond}
use mathlib.Core.List.{List, [], ◌∷◌, ◌++◌}
use Prim.Native.Nat.{ℕ, suc, ◌<◌}
use native.Mathlib.Omega.{arith}
use lib.Dec.{eqb}
use lib.ListN.{length, drop, get_or, set, length-set}
use lib.Seq.{get_or-set_same, get_or-set_other}
use borrow.Author.Tests.{eqb-true, eqb-false}
use Rattle.slots.specs.Putting.{Keeping, put_along, arriving, met_by}

module _ {X Y : Type 0} (how : Keeping X Y) where
  pub length_put : (js : List ℕ) (values : List Y) (kept : List X) → length (put_along how js values kept) ≡ length kept
  unfolding put_along
  length_put [] values kept = refl
  length_put (j ∷ js) values kept =
      length_put js (drop 1 values) (set kept j (how.meets (get_or kept j how.none) (get_or values 0 how.nothing)))
      ∙ length-set kept j (how.meets (get_or kept j how.none) (get_or values 0 how.nothing))

  -- one value
  one_put : (p j : ℕ) (w : Y) (kept : List X) → j < length kept
      → get_or (set kept p (how.meets (get_or kept p how.none) w)) j how.none ≡ cond (eqb p j) (how.meets (get_or kept j how.none) w) (get_or kept j how.none)
  one_put p j w kept l = go (eqb p j) refl
    where
      go : (b : Bool) → eqb p j ≡ b → get_or (set kept p (how.meets (get_or kept p how.none) w)) j how.none ≡ cond b (how.meets (get_or kept j how.none) w) (get_or kept j how.none)
      go true e = rw (eqb-true p j e) (get_or-set_same kept j (how.meets (get_or kept j how.none) w) how.none l)
      go false e = get_or-set_other kept p j (how.meets (get_or kept p how.none) w) how.none (λ same. eqb-false p j e (sym same))

  met_next : (b : Bool) (old : X) (w : Y) (ws : List Y) → met_by how (cond b (how.meets old w) old) ws ≡ met_by how old (cond b (w ∷ ws) ws)
  unfolding met_by
  met_next true old w ws = refl
  met_next false old w ws = refl

  -- a place keeps what it kept, met by what arrived for it
  pub put_follows : (js : List ℕ) (values : List Y) (kept : List X) (j : ℕ) → j < length kept
      → get_or (put_along how js values kept) j how.none ≡ met_by how (get_or kept j how.none) (arriving how js values j)
  unfolding put_along arriving met_by
  put_follows [] values kept j l = refl
  put_follows (p ∷ js) values kept j l =
      put_follows js (drop 1 values) (set kept p (how.meets (get_or kept p how.none) (get_or values 0 how.nothing))) j (rw (length-set kept p (how.meets (get_or kept p how.none) (get_or values 0 how.nothing))) l)
      ∙ ap (λ (v : X). met_by how v (arriving how js (drop 1 values) j)) (one_put p j (get_or values 0 how.nothing) kept l)
      ∙ met_next (eqb p j) (get_or kept j how.none) (get_or values 0 how.nothing) (arriving how js (drop 1 values) j)

  -- in two goes
  pub met_append : (old : X) (ws more : List Y) → met_by how old (ws ++ more) ≡ met_by how (met_by how old ws) more
  unfolding met_by
  met_append old [] more = refl
  met_append old (w ∷ ws) more = met_append (how.meets old w) ws more

  -- an entry that is none of the places stays
  pub put_apart : (js : List ℕ) (values : List Y) (kept : List X) (j : ℕ) → ((i : ℕ) → i < length js → get_or js i 0 ≡ j → ⊥)
      → get_or (put_along how js values kept) j how.none ≡ get_or kept j how.none
  unfolding put_along
  put_apart [] values kept j h = refl
  put_apart (p ∷ js) values kept j h =
      put_apart js (drop 1 values) (set kept p (how.meets (get_or kept p how.none) (get_or values 0 how.nothing))) j (λ i l. h (suc i) (omega arith))
      ∙ get_or-set_other kept p j (how.meets (get_or kept p how.none) (get_or values 0 how.nothing)) how.none (λ same. h 0 (omega arith) (sym same))
