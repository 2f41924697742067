-- Every statement of a call on slots as C has it admits a single outcome: the same one law.
-- Assumes nothing.
use mathlib.Core.Bool.{Bool}
use mathlib.Core.List.{List}
use Prim.Native.Nat.{ℕ}
use Rattle.statements.specs.Outcome.{SingleOutcome}
use Rattle.statements.specs.SlotsToC.{NewToCStatement, OpenToCStatement, OpenDownToCStatement, ReceiveToCStatement, ReadToCStatement, StreamsToCStatement, CloseToCStatement}
use Rattle.statements.proofs.Single.{single}

pub new_to_c_single : (S M : ℕ) (bytes : List ℕ) → SingleOutcome (NewToCStatement S M bytes)
new_to_c_single S M bytes = single _ _

pub close_to_c_single : (bytes : List ℕ) (slot terminal : ℕ) → SingleOutcome (CloseToCStatement bytes slot terminal)
close_to_c_single bytes slot terminal = single _ _

module _ (four : Bool) (bytes : List ℕ) (slot terminal : ℕ) where
  pub open_to_c_single : (A : ℕ) (store : List ℕ) → SingleOutcome (OpenToCStatement four bytes slot terminal A store)
  open_to_c_single A store = single _ _

  pub open_down_to_c_single : (A release k_mimo processes Nsoft layers : ℕ) (store : List ℕ)
      → SingleOutcome (OpenDownToCStatement four bytes slot terminal A release k_mimo processes Nsoft layers store)
  open_down_to_c_single A release k_mimo processes Nsoft layers store = single _ _

  pub receive_to_c_single : (Q N v : ℕ) (bits store : List ℕ) (count : ℕ) → SingleOutcome (ReceiveToCStatement four bytes slot terminal Q N v bits store count)
  receive_to_c_single Q N v bits store count = single _ _

  pub read_to_c_single : (store out : List ℕ) (count : ℕ) → SingleOutcome (ReadToCStatement four bytes slot terminal store out count)
  read_to_c_single store out count = single _ _

  pub streams_to_c_single : (r : ℕ) (store out : List ℕ) → SingleOutcome (StreamsToCStatement four bytes slot terminal r store out)
  streams_to_c_single r store out = single _ _
