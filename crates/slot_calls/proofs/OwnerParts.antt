-- What an answer of the owner's rules says: accepted, that none of them applies and that the head is the slot's; refused, the number of the first that applies.
-- Assumes nothing.
use mathlib.Core.Path.{◌≡◌, refl, sym, ◌∙◌, ap}
use mathlib.Core.Bool.{Bool, true, false, cond}
use mathlib.Core.List.{List, [], ◌∷◌, ◌++◌}
use Prim.Native.Nat.{ℕ}
use borrow.Author.Tests.{eqb-true}
use lib.Dec.{T, eqb}
use Rattle.std.specs.declared.result.Result.{Result}
use Rattle.std.specs.declared.result.Result.TheVariants.{Ok, Err}
use Rattle.refusals.specs.declared.Refusal.{Refusal}
use Rattle.refusals.specs.Refusals.{Rule, number_of, refusal_of, given_by, first_of}
use Rattle.slots.specs.declared.Head.{Head}
use Rattle.slots.specs.declared.State.{State}
use Rattle.slots.specs.State.{head_at}
use Rattle.slots.specs.Calls.{store_rules, owner_rules}
use Rattle.slot_calls.specs.declared.Owner.{Owner}
use Rattle.slot_calls.specs.Owner.{owner_number, admitted_by, owner_of}

-- ---- an answer by its number

-- where something is given the number is 0
pub given_none : {A : Type 0} {x : A} (y : A) (n : ℕ) → Ok x ≡ given_by n y → 0 ≡ n
given_none {A} {x} y n e = go (eqb n 0) refl e
  where
    go : (z : Bool) → eqb n 0 ≡ z → Ok x ≡ cond z (Ok y) (Err (refusal_of n)) → 0 ≡ n
    go true q e = sym (eqb-true n 0 q)
    go false q e = absurd (cc)

-- and it is what was to be given
pub given_is : {A : Type 0} {x y : A} (n : ℕ) → Ok x ≡ given_by n y → x ≡ y
given_is {A} {x} {y} n e = go (eqb n 0) e
  where
    go : (z : Bool) → Ok x ≡ cond z (Ok y) (Err (refusal_of n)) → x ≡ y
    go true e = cc
    go false e = absurd (cc)

-- the rules have numbers of refusals
abbrev pub refusing : List Rule → Bool
refusing [] = true
refusing (r ∷ rs) = cond (eqb (number_of (refusal_of r.number)) r.number) (refusing rs) false

-- where it is refused the number is the refusal's
pub given_refused : {A : Type 0} (y : A) {r : Refusal} (rs : List Rule) → T (refusing rs) → Err r ≡ given_by (first_of rs) y → number_of r ≡ first_of rs
unfolding first_of
given_refused {A} y {r} [] t e = absurd (cc)
given_refused {A} y {r} (a ∷ rs) t e = go a.bad (eqb (number_of (refusal_of a.number)) a.number) refl t (λ u h. given_refused y rs u h) e
  where
    go : (b known : Bool) → eqb (number_of (refusal_of a.number)) a.number ≡ known → T (cond known (refusing rs) false)
        → (T (refusing rs) → Err r ≡ given_by (first_of rs) y → number_of r ≡ first_of rs) → Err r ≡ given_by (elim b [ true ↦ a.number | false ↦ first_of rs ]) y → number_of r ≡ elim b [ true ↦ a.number | false ↦ first_of rs ]
    go b false q t others e = absurd t
    go false true q t others e = others t e
    go true true q t others e = here (eqb a.number 0) e ∙ eqb-true _ _ q
      where
        here : (z : Bool) → Err r ≡ cond z (Ok y) (Err (refusal_of a.number)) → number_of r ≡ number_of (refusal_of a.number)
        here true e = absurd (cc)
        here false e = let same : r ≡ refusal_of a.number = cc in ap number_of same

-- ---- the owner's

module _ (state : State) (lent slot terminal : ℕ) where
  pub owned_number : {head : Head} → Ok head ≡ admitted_by state lent slot terminal → 0 ≡ first_of (store_rules state lent slot ++ owner_rules state slot terminal)
  unfolding admitted_by owner_number
  owned_number e = given_none (head_at state slot) _ e

  pub owned_head : {head : Head} → Ok head ≡ admitted_by state lent slot terminal → head ≡ head_at state slot
  unfolding admitted_by owner_number
  owned_head e = given_is (owner_number state lent slot terminal) e

  pub owner_refused : {r : Refusal} → Err r ≡ admitted_by state lent slot terminal → number_of r ≡ first_of (store_rules state lent slot ++ owner_rules state slot terminal)
  unfolding admitted_by owner_number store_rules owner_rules
  owner_refused e = given_refused (head_at state slot) (store_rules state lent slot ++ owner_rules state slot terminal) tt e

  -- of an owner, refused or not
  pub owner_admitted : {o : Owner} → o ≡ owner_of state lent slot terminal → o.admitted ≡ admitted_by state lent slot terminal
  unfolding owner_of
  owner_admitted e = ap (λ (o : Owner). o.admitted) e

  pub owner_head : {o : Owner} → o ≡ owner_of state lent slot terminal → o.head ≡ head_at state slot
  unfolding owner_of
  owner_head e = ap (λ (o : Owner). o.head) e
