-- Laws of refusals in order: a chain of `or_else` is `first_of`; the first of two lists of rules; what 0 says, and what another number says.
-- In an answer `chained (next c.or_else.ensures (next c.or_else-2.ensures done)) tt`, one `next` a rule, proves `r ≡ first_of rules` under `unfolding rules`.
-- In an answer `passed rules e z tt (size_rule A) (search listed)`, of a number that is `first_of rules` and 0, proves that the test of the rule so named is false, wherever it stands
-- among the rules. A rule's test is written as the code has it: `a >= 7` is `leb 7 a`.
-- Assumes nothing.
use mathlib.Core.Path.{◌≡◌, refl, sym, ◌∙◌, ap, ap₂}
use mathlib.Core.Bool.{Bool, true, false, cond}
use mathlib.Core.List.{List, [], ◌∷◌, ◌++◌}
use Prim.Native.Nat.{ℕ, zero, suc, ◌<◌}
use native.Mathlib.Nat.{not-suc-le-zero, le_of_suc-le-suc}
use native.Mathlib.Omega.{arith}
use borrow.Author.Tests.{eqb-true, eqb-false}
use lib.Dec.{T, eqb}
use lib.ListN.{length, get_or}
use Rattle.refusals.specs.Refusals.{Rule, rule, first_of, or_else}

-- the rule that never applies
abbrev pub never : Rule
never = rule false 0

-- no rule has the number 0, which is kept for none
abbrev pub numbered : List Rule → Bool
numbered [] = true
numbered (r ∷ rs) = elim (eqb r.number 0) [ true ↦ false | false ↦ numbered rs ]

numbered_cons : (r : Rule) (rs : List Rule) → T (numbered (r ∷ rs)) → (eqb r.number 0 ≡ false) × T (numbered rs)
numbered_cons r rs t = go (eqb r.number 0) refl t
  where
    go : (z : Bool) → eqb r.number 0 ≡ z → T (elim z [ true ↦ false | false ↦ numbered rs ]) → (eqb r.number 0 ≡ false) × T (numbered rs)
    go true e u = absurd u
    go false e u = (e, u)

-- the number of a rule that applies, else n
abbrev given : Bool → ℕ → ℕ → ℕ
given b k n = elim b [ true ↦ k | false ↦ n ]

-- ---- a chain of or_else

-- a chain over the rules rs that starts from n comes to m
pub record Chain (n : ℕ) (rs : List Rule) (m : ℕ) : Type 0 where
  pub is : T (numbered rs) → m ≡ cond (eqb n 0) (first_of rs) n

-- the chain's end
pub done : {n : ℕ} → Chain n [] n
unfolding first_of
done {n} = record { is = λ t. go (eqb n 0) refl }
  where
    go : (z : Bool) → eqb n 0 ≡ z → n ≡ cond z 0 n
    go true e = eqb-true n 0 e
    go false e = refl

-- one call of or_else
pub next : {n x m : ℕ} {r : Rule} {rs : List Rule} → x ≡ or_else n r.bad r.number → Chain x rs m → Chain n (r ∷ rs) m
unfolding first_of or_else
next {n} {x} {m} {r} {rs} e w = record { is = λ t. by (eqb n 0) refl r.bad e (numbered_cons r rs t).0 (w.is (numbered_cons r rs t).1) }
  where
    by : (z : Bool) → eqb n 0 ≡ z → (b : Bool) → x ≡ cond z (cond b r.number 0) n → eqb r.number 0 ≡ false → m ≡ cond (eqb x 0) (first_of rs) x
        → m ≡ cond z (given b r.number (first_of rs)) n
    by true q true e k h = cc
    by true q false e k h = cc
    by false q b e k h = cc

-- the whole chain, and one that goes on from what the rules rs gave
pub chained : {rs : List Rule} {m : ℕ} → Chain 0 rs m → T (numbered rs) → m ≡ first_of rs
chained w t = w.is t

-- the first of two lists, one after the other
pub first_of_append : (rs ss : List Rule) → T (numbered rs) → first_of (rs ++ ss) ≡ cond (eqb (first_of rs) 0) (first_of ss) (first_of rs)
unfolding first_of
first_of_append [] ss t = refl
first_of_append (r ∷ rs) ss t = by r.bad (numbered_cons r rs t).0 (first_of_append rs ss (numbered_cons r rs t).1)
  where
    by : (b : Bool) → eqb r.number 0 ≡ false → first_of (rs ++ ss) ≡ cond (eqb (first_of rs) 0) (first_of ss) (first_of rs)
        → given b r.number (first_of (rs ++ ss))
        ≡ cond (eqb (given b r.number (first_of rs)) 0) (first_of ss) (given b r.number (first_of rs))
    by true k h = cc
    by false k h = h

pub chained_on : (rs : List Rule) {n : ℕ} {ss : List Rule} {m : ℕ} → n ≡ first_of rs → Chain n ss m → T (numbered rs) → T (numbered ss) → m ≡ first_of (rs ++ ss)
chained_on rs {n} {ss} {m} e w t u = w.is u ∙ ap (λ (k : ℕ). cond (eqb k 0) (first_of ss) k) e ∙ sym (first_of_append rs ss t)

-- ---- what the number given back says

-- a rule is one of the rules: `search listed` finds it by its name
pub data Listed : Rule → List Rule → Type 0 where
  here : {r : Rule} {rs : List Rule} → Listed r (r ∷ rs)
  later : {r a : Rule} {rs : List Rule} → Listed r rs → Listed r (a ∷ rs)

-- far down a list too, so that the search need not go deep
pub farther : {r a b c d : Rule} {rs : List Rule} → Listed r rs → Listed r (a ∷ b ∷ c ∷ d ∷ rs)
farther w = later (later (later (later w)))

pub ruleset listed = (here, later, farther)

-- 0: no rule applies
none_of : (rs : List Rule) → T (numbered rs) → first_of rs ≡ 0 → (r : Rule) → Listed r rs → r.bad ≡ false
unfolding first_of
none_of [] t e r w = elim w [ ]
none_of (a ∷ rs) t e r w = by a.bad refl (numbered_cons a rs t).0 e (none_of rs (numbered_cons a rs t).1) r w
  where
    by : (b : Bool) → a.bad ≡ b → eqb a.number 0 ≡ false → given b a.number (first_of rs) ≡ 0
        → (first_of rs ≡ 0 → (r : Rule) → Listed r rs → r.bad ≡ false) → (r : Rule) → Listed r (a ∷ rs) → r.bad ≡ false
    by true q k e f r w = absurd (eqb-false a.number 0 k e)
    by false q k e f r here = q
    by false q k e f r (later w) = f e r w

pub passed : (rs : List Rule) {n : ℕ} → n ≡ first_of rs → n ≡ 0 → T (numbered rs) → (r : Rule) → Listed r rs → r.bad ≡ false
passed rs e z t r w = none_of rs t (sym e ∙ z) r w

-- where no rule applies it is 0
pub none_applies : (rs : List Rule) → ((r : Rule) → Listed r rs → r.bad ≡ false) → first_of rs ≡ 0
unfolding first_of
none_applies [] h = refl
none_applies (r ∷ rs) h = ap₂ (λ (b : Bool) (n : ℕ). given b r.number n) (h r here) (none_applies rs (λ s w. h s (later w)))

-- n is the number of the rule at `place`, which applies, and none before it does
pub record First (rs : List Rule) (n : ℕ) : Type 0 where
  pub place : ℕ
  pub within : place < length rs
  pub applies : (get_or rs place never).bad ≡ true
  pub gives : (get_or rs place never).number ≡ n
  pub earlier : (i : ℕ) → i < place → (get_or rs i never).bad ≡ false

-- another number: it is that of the first rule that applies
pub first : (rs : List Rule) → (first_of rs ≡ 0 → ⊥) → First rs (first_of rs)
unfolding first_of
first [] h = absurd (h refl)
first (r ∷ rs) h = by r.bad refl h (first rs)
  where
    by : (b : Bool) → r.bad ≡ b → (given b r.number (first_of rs) ≡ 0 → ⊥) → ((first_of rs ≡ 0 → ⊥) → First rs (first_of rs))
        → First (r ∷ rs) (given b r.number (first_of rs))
    by true q h f = record { place = 0; within = omega arith; applies = q; gives = refl; earlier = λ i l. absurd (not-suc-le-zero l) }
    by false q h f = record { place = suc (f h).place; within = omega (arith, (f h).within); applies = (f h).applies; gives = (f h).gives; earlier = before }
      where
        before : (i : ℕ) → i < suc (f h).place → (get_or (r ∷ rs) i never).bad ≡ false
        before zero l = q
        before (suc i) l = (f h).earlier i (le_of_suc-le-suc l)
