-- A history of calls on one store, demand 3: any finite list of calls with any arguments, the latest first.
-- Assumes nothing.
use Rattle.std.specs.Prelude.{List, ℕ, length}
use Rattle.codeword.specs.declared.Grant.{Grant}
use Rattle.codeword.specs.Shares.{grant}
use Rattle.history.specs.Links.{Link}

-- what a car's reception brings: Q, N, the redundancy version and the bits
pub record Reception : Type 0 where
  pub Q : ℕ
  pub N : ℕ
  pub version : ℕ
  pub bits : List ℕ

-- the grant that it answers: G is the number of its bits
abbrev pub grant_of : Reception → Grant
grant_of x = grant x.Q x.N x.version (length x.bits)

-- a call of 01 with its arguments, Open for either link (02, E6); the length of an output stands for the output
pub data Call : Type 0 where
  opening : Link → (slot terminal A : ℕ) → Call
  receiving : (slot terminal : ℕ) → Reception → Call
  reading : (slot terminal size : ℕ) → Call
  streaming : (slot terminal block size : ℕ) → Call
  closing : (slot terminal : ℕ) → Call

-- a call, and the bytes that stand past the rooms when it is made: they may be anything each time
pub record Made : Type 0 where
  pub call : Call
  pub past : List ℕ

-- latest first
abbrev pub History : Type 0
History = List Made
