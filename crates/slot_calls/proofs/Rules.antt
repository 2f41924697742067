-- Rules asked one after another, each by `?`: a refusal is that of the first rule that applies, and one that does not apply leaves the rest to decide.
-- In an answer: `thrown _ c.from_residual.result c.from_residual.ensures (passed_over refl c.in_ok.ensures (failed _ c.in_err.ensures))`, one `passed_over` for each
-- rule asked before.
-- Assumes nothing.
use mathlib.Core.Path.{◌≡◌, refl, sym, ◌∙◌, ap}
use mathlib.Core.Bool.{Bool, true, false, cond}
use mathlib.Core.List.{List, [], ◌∷◌, ◌++◌}
use Prim.Native.Nat.{ℕ}
use lib.Dec.{T, eqb}
use Rattle.std.specs.declared.result.Result.{Result}
use Rattle.std.specs.Result.{IsErr, IsErrAnd}
use Rattle.std.proofs.lemmas.Result.{err_from_is_err_and}
use Rattle.refusals.specs.declared.Refusal.{Refusal}
use Rattle.refusals.specs.Refusals.{Rule, rule, number_of, number_in, first_of}
use Rattle.refusals.proofs.Numbers.{refusal_ne0}
use Rattle.refusals.proofs.Refusals.{numbered, first_of_append}

-- the rules rs come to m
pub record Settled (m : ℕ) (rs : List Rule) : Type 0 where
  pub is : m ≡ first_of rs

pub settled : {m : ℕ} {rs : List Rule} → Settled m rs → m ≡ first_of rs
settled w = w.is

-- they do where that is known of all at once
pub known : {m : ℕ} {rs : List Rule} → m ≡ first_of rs → Settled m rs
known e = record { is = e }

-- no rule is left
pub none_left : Settled 0 []
unfolding first_of
none_left = record { is = refl }

-- a rule that applies gives its number, whatever rules come after it
pub failed : (r : Refusal) {b : Bool} {k : ℕ} {rs : List Rule} → number_of r ≡ cond b k 0 → Settled (number_of r) (rule b k ∷ rs)
unfolding first_of
failed r {b} {k} {rs} e = record { is = go b e }
  where
    go : (b : Bool) → number_of r ≡ cond b k 0 → number_of r ≡ elim b [ true ↦ k | false ↦ first_of rs ]
    go true e = e
    go false e = absurd (let f = ap (λ (n : ℕ). eqb n 0) e in let g = refusal_ne0 r in cc)

-- the last rule asked
pub last : {m : ℕ} {b : Bool} {k : ℕ} → m ≡ cond b k 0 → Settled m (rule b k ∷ [])
unfolding first_of
last {m} {b} {k} e = record { is = go b e }
  where
    go : (b : Bool) → m ≡ cond b k 0 → m ≡ elim b [ true ↦ k | false ↦ first_of [] ]
    go true e = e
    go false e = e

-- a rule that was asked and found nothing does not apply
pub idle : {b : Bool} (k : ℕ) → eqb k 0 ≡ false → 0 ≡ cond b k 0 → b ≡ false
idle {b} k k_ne0 e = go b e
  where
    go : (b : Bool) → 0 ≡ cond b k 0 → b ≡ false
    go true e = absurd (let f = ap (λ (n : ℕ). eqb n 0) e in let g = k_ne0 in cc)
    go false e = refl

-- where it does not apply the others decide
pub passed_over : {b : Bool} {k m : ℕ} {rs : List Rule} → eqb k 0 ≡ false → 0 ≡ cond b k 0 → Settled m rs → Settled m (rule b k ∷ rs)
unfolding first_of
passed_over {b} {k} {m} {rs} k_ne0 e w = record { is = go b e w.is }
  where
    go : (b : Bool) → 0 ≡ cond b k 0 → m ≡ first_of rs → m ≡ elim b [ true ↦ k | false ↦ first_of rs ]
    go true e h = absurd (let f = ap (λ (n : ℕ). eqb n 0) e in let g = k_ne0 in cc)
    go false e h = h

-- the same of several rules asked at once
pub failed_all : (rs : List Rule) (r : Refusal) (ss : List Rule) → T (numbered rs) → number_of r ≡ first_of rs → Settled (number_of r) (rs ++ ss)
failed_all rs r ss t e = record { is = e ∙ sym (first_of_append rs ss t ∙ rw ((ap (λ (n : ℕ). eqb n 0) (sym e) ∙ refusal_ne0 r)) refl) }

pub passed_all : (rs : List Rule) {m : ℕ} {ss : List Rule} → T (numbered rs) → 0 ≡ first_of rs → Settled m ss → Settled m (rs ++ ss)
passed_all rs {m} {ss} t e w = record { is = w.is ∙ sym (first_of_append rs ss t ∙ rw (← e) refl) }

-- what `?` hands on
pub thrown : {A : Type 0} (x : Refusal) {rs : List Rule} (r : Result A Refusal) → IsErr r × IsErrAnd r (λ y. y ≡ x) → Settled (number_of x) rs → number_in r ≡ first_of rs
thrown x r e w = let p = err_from_is_err_and r e.1 in rw (p.1, p.2) w.is
