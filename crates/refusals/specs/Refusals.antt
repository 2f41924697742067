-- Refusals and their numbers, of the rules paper's "Numbers given back", and refusals in order: the first that applies is given, and none where none applies.
-- Assumes nothing.
use Rattle.std.specs.Prelude.{Bool, true, false, cond, List, [], ◌∷◌, ℕ, eqb}
use Rattle.std.specs.declared.result.Result.{Result}
use Rattle.std.specs.declared.result.Result.TheVariants.{Ok, Err}
use Rattle.refusals.specs.declared.Refusal.{Refusal}
use Rattle.refusals.specs.declared.Refusal.TheVariants.{BadLength, BadBit, BadAllocation, BadVersion, TooShort, NoSlot, OpenAlready, Closed, OtherTerminal, TooManyBlocks, WrongCheck, BadState, NoCodeBlock, Unreadable, BadReport, BadControl, Tied, BadPayload, BadReceiver}

-- the number of a refusal that brings none with it: all but 11 and 16
abbrev pub number_of : Refusal → ℕ
number_of BadLength = 1
number_of BadBit = 2
number_of BadAllocation = 3
number_of BadVersion = 4
number_of TooShort = 5
number_of NoSlot = 6
number_of OpenAlready = 7
number_of Closed = 8
number_of OtherTerminal = 9
number_of TooManyBlocks = 10
number_of WrongCheck = 12
number_of BadState = 13
number_of NoCodeBlock = 14
number_of Unreadable = 15
number_of BadReport = 17
number_of BadControl = 18
number_of Tied = 19
number_of BadPayload = 20
number_of BadReceiver = 21

-- the number given back with an answer: 0 where the call is accepted
abbrev pub number_in : {A : Type 0} → Result A Refusal → ℕ
number_in (Ok given) = 0
number_in (Err refusal) = number_of refusal

-- the refusal that has a number
abbrev pub refusal_of : ℕ → Refusal
refusal_of n =
    cond (eqb n 1) BadLength (cond (eqb n 2) BadBit (cond (eqb n 3) BadAllocation (cond (eqb n 4) BadVersion (cond (eqb n 5) TooShort (cond (eqb n 6) NoSlot (cond (eqb n 7) OpenAlready (cond (eqb n 8) Closed (cond (eqb n 9) OtherTerminal (cond (eqb n 10) TooManyBlocks (cond (eqb n 12) WrongCheck (cond (eqb n 13) BadState (cond (eqb n 14) NoCodeBlock (cond (eqb n 15) Unreadable (cond (eqb n 17) BadReport (cond (eqb n 18) BadControl (cond (eqb n 19) Tied (cond (eqb n 20) BadPayload (BadReceiver))))))))))))))))))

-- the answer of a call by its number: what it gives where that is 0, else the refusal
abbrev pub given_by : {A : Type 0} → ℕ → A → Result A Refusal
given_by number given = cond (eqb number 0) (Ok given) (Err (refusal_of number))

-- a refusal: when it applies, and the number given back then
pub record Rule : Type 0 where
  pub bad : Bool
  pub number : ℕ

abbrev pub rule : Bool → ℕ → Rule
rule b n = record { bad = b; number = n }

-- the number of the first rule that applies, 0 where none does
unfoldable pub first_of : List Rule → ℕ
first_of [] = 0
first_of (r ∷ rs) = elim r.bad [ true ↦ r.number | false ↦ first_of rs ]

-- a number found earlier stays; else the next rule is asked
unfoldable pub or_else : ℕ → Bool → ℕ → ℕ
or_else found bad number = cond (eqb found 0) (cond bad number 0) found
