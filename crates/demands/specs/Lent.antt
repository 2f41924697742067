-- What the demands ask of a history: New was accepted over a store long enough, and a slot is open for a terminal and A.
-- Assumes nothing.
use Rattle.std.specs.Prelude.{◌≡◌, true, List, ℕ, ◌+◌, ◌*◌, ◌≤◌, ◌<◌, length}
use Rattle.slots.specs.declared.State.{State}
use Rattle.slots.specs.State.{head_at}
use Rattle.demands.specs.Ranges.{Shape}

-- S from 1 to 8, M from 1 to 5, and a store of at least S·M·18,528 bytes
pub record New (S M : ℕ) (store : List ℕ) : Type 0 where
  pub shape : Shape S M
  pub long : S * (M * 18528) ≤ length store

-- the slot is open for the terminal, with a block of A bits
pub record OpenFor (state : State) (slot terminal A : ℕ) : Type 0 where
  pub opened : (head_at state slot).opened ≡ true
  pub terminal_is : (head_at state slot).terminal ≡ terminal
  pub size_is : (head_at state slot).size ≡ A

-- a byte of a slot's room: the rooms of 18,528·M bytes lie one after another
pub record InRoom (M slot at : ℕ) : Type 0 where
  pub from : slot * (M * 18528) ≤ at
  pub to : at < slot * (M * 18528) + M * 18528
