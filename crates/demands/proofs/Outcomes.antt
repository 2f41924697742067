-- An outcome by the number of its call's rules: 0 is an acceptance, an accepted outcome comes of 0, and a call that leaves the state leaves it in either case.
-- Assumes nothing.
use mathlib.Core.Path.{◌≡◌, refl}
use mathlib.Core.Bool.{Bool, true, false, cond}
use Prim.Native.Nat.{ℕ}
use lib.Dec.{eqb}
use borrow.Author.Tests.{eqb-true}
use Rattle.slots.specs.Outcome.{Refused}
use Rattle.slots.specs.declared.State.{State}
use Rattle.slots.specs.Outcome.{Outcome}
use Rattle.slots.specs.Answers.{number_of, unless_refused}

module _ (n : ℕ) (state : State) (o : Outcome) where
  pub accepting : n ≡ 0 → unless_refused n state o ≡ o
  unfolding unless_refused
  accepting e = rw e

  pub accepted : number_of (unless_refused n state o).answer ≡ 0 → n ≡ 0
  unfolding unless_refused number_of
  accepted = go (eqb n 0) refl
    where
      go : (b : Bool) → eqb n 0 ≡ b → number_of (cond {A = Outcome} b o (record { answer = Refused n; state = state })).answer ≡ 0 → n ≡ 0
      go true e h = eqb-true n 0 e
      go false e h = h

  pub same_state : o.state ≡ state → (unless_refused n state o).state ≡ state
  unfolding unless_refused
  same_state e = go (eqb n 0)
    where
      go : (b : Bool) → (cond {A = Outcome} b o (record { answer = Refused n; state = state })).state ≡ state
      go true = e
      go false = refl
