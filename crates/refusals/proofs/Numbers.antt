-- Laws of the numbers given back: no refusal has the number 0, which is kept for an accepted call, and no two have the same.
-- Assumes nothing.
use native.Mathlib.Omega.{arith}
use Rattle.std.specs.Prelude.{◌≡◌, refl, ◌≤◌, Bool, false, cond, ℕ, eqb, ⊤}
use mathlib.Core.Path.{sym, ◌∙◌, ap}
use Rattle.std.specs.declared.result.Result.{Result}
use Rattle.std.specs.declared.result.Result.TheVariants.{Ok, Err}
use Rattle.refusals.specs.declared.Refusal.{Refusal}
use Rattle.refusals.specs.declared.Refusal.TheVariants.{BadLength, BadBit, BadAllocation, BadVersion, TooShort, NoSlot, OpenAlready, Closed, OtherTerminal, TooManyBlocks, WrongCheck, BadState, NoCodeBlock, Unreadable, BadReport, BadControl, Tied, BadPayload, BadReceiver}
use Rattle.refusals.specs.Refusals.{number_of, number_in, refusal_of, given_by}

-- no refusal has the number 0
pub refusal_ne0 : (refusal : Refusal) → eqb (number_of refusal) 0 ≡ false
refusal_ne0 BadLength = refl
refusal_ne0 BadBit = refl
refusal_ne0 BadAllocation = refl
refusal_ne0 BadVersion = refl
refusal_ne0 TooShort = refl
refusal_ne0 NoSlot = refl
refusal_ne0 OpenAlready = refl
refusal_ne0 Closed = refl
refusal_ne0 OtherTerminal = refl
refusal_ne0 TooManyBlocks = refl
refusal_ne0 WrongCheck = refl
refusal_ne0 BadState = refl
refusal_ne0 NoCodeBlock = refl
refusal_ne0 Unreadable = refl
refusal_ne0 BadReport = refl
refusal_ne0 BadControl = refl
refusal_ne0 Tied = refl
refusal_ne0 BadPayload = refl
refusal_ne0 BadReceiver = refl

-- none has a number above 21
pub number_most : (refusal : Refusal) → number_of refusal ≤ 21
number_most BadLength = omega arith
number_most BadBit = omega arith
number_most BadAllocation = omega arith
number_most BadVersion = omega arith
number_most TooShort = omega arith
number_most NoSlot = omega arith
number_most OpenAlready = omega arith
number_most Closed = omega arith
number_most OtherTerminal = omega arith
number_most TooManyBlocks = omega arith
number_most WrongCheck = omega arith
number_most BadState = omega arith
number_most NoCodeBlock = omega arith
number_most Unreadable = omega arith
number_most BadReport = omega arith
number_most BadControl = omega arith
number_most Tied = omega arith
number_most BadPayload = omega arith
number_most BadReceiver = omega arith

-- the refusal that has a refusal's number is that refusal
pub back : (refusal : Refusal) → refusal_of (number_of refusal) ≡ refusal
back BadLength = refl
back BadBit = refl
back BadAllocation = refl
back BadVersion = refl
back TooShort = refl
back NoSlot = refl
back OpenAlready = refl
back Closed = refl
back OtherTerminal = refl
back TooManyBlocks = refl
back WrongCheck = refl
back BadState = refl
back NoCodeBlock = refl
back Unreadable = refl
back BadReport = refl
back BadControl = refl
back Tied = refl
back BadPayload = refl
back BadReceiver = refl

-- no two refusals have the same number
pub number_tells : (a b : Refusal) → number_of a ≡ number_of b → a ≡ b
number_tells a b e = sym (back a) ∙ (ap refusal_of e ∙ back b)

-- a call that refuses, and one that gives something, by the number
pub given_err : {A : Type 0} (given : A) {refusal : Refusal} {n : ℕ} → number_of refusal ≡ n → Err refusal ≡ given_by n given
given_err {A} given {refusal} {n} e =
    sym (ap (λ (b : Bool). cond b (Ok given) (Err (refusal_of (number_of refusal)))) (refusal_ne0 refusal) ∙ ap Err (back refusal)) ∙ ap (λ m. given_by m given) e

pub given_ok : {A : Type 0} (given : A) {n : ℕ} → 0 ≡ n → Ok given ≡ given_by n given
given_ok {A} given {n} e = ap (λ m. given_by m given) e

answered : (answer : Result ⊤ Refusal) → given_by (number_in answer) tt ≡ answer
answered (Ok tt) = refl
answered (Err refusal) = sym (given_err tt refl)

-- no two answers of a call that gives nothing have the same number: an equation for the number is one for the answer
pub number_in_tells : (a b : Result ⊤ Refusal) → number_in a ≡ number_in b → a ≡ b
number_in_tells a b e = sym (answered a) ∙ (ap (λ n. given_by n tt) e ∙ answered b)
