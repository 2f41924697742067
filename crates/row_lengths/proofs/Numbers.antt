-- A row of numbers below 2 ^ 64 has at most 21 bytes for each, behind the word that it begins with.
-- Assumes nothing.
use mathlib.Core.List.{List, [], ◌∷◌, map}
use Prim.Native.Nat.{ℕ, ◌+◌, ◌*◌, ◌^◌, ◌≤◌, ◌<◌}
use native.Mathlib.Omega.{arith}
use lib.ListN.{length, length-append}
use Rattle.lines.specs.Row.{decimal_of, row_of}
use Rattle.lines.proofs.Decimal.{decimal_length}
use Rattle.answers.specs.Rows.{accepted_row, refused_row}

-- each number is below 2 ^ 64
abbrev pub Small : List ℕ → Type 0
Small [] = Unit {0}
Small (n ∷ ns) = (n < 2 ^ 64) × Small ns

numbers_length : (ns : List ℕ) → Small ns → length (row_of (map decimal_of ns)) ≤ 21 * length ns
unfolding row_of
numbers_length [] small = omega arith
numbers_length (n ∷ ns) small = rw length-append (omega (arith, decimal_length n small.0, numbers_length ns small.1))

pub accepted_length : (ns : List ℕ) → Small ns → length (accepted_row ns) ≤ 3 + 21 * length ns
unfolding accepted_row row_of
accepted_length ns small = omega (arith, numbers_length ns small)

pub refused_length : (number : ℕ) (ns : List ℕ) → number < 2 ^ 64 → Small ns → length (refused_row number ns) ≤ 29 + 21 * length ns
unfolding refused_row row_of
refused_length number ns few small = omega (arith, numbers_length (number ∷ ns) (few, small))
