-- Demand 2, the standard's own words beside the definitions: check bits leave no remainder (5.1.1), K+ and K− are a minimum and a maximum of the table (5.1.2), the second
-- encoder reads a rearrangement (5.1.3.2.3), and the columns are those printed (5.1.4-1). `matrix_read`, `minimum_rows`, `loop_fills` and `transfer_function` have files of their own.
-- Assumes nothing.
use mathlib.Core.Path.{◌≡◌}
use mathlib.Core.Logic.{◌↔◌}
use mathlib.Core.List.{List}
use Prim.Native.Nat.{ℕ, ◌≤◌, ◌<◌}
use lib.ListN.{get_or}
use Rattle.laws.specs.Bits.{bits_of, AreBits}
use Rattle.check_bits.specs.CheckBits.{check_bits, g_crc24a, g_crc24b, g_crc16}
use Rattle.check_bits.specs.Division.{LeavesNothing, powers_crc24a, powers_crc24b, powers_crc16, of_powers}
use Rattle.check_bits.proofs.Meaning as check
use Rattle.interleaver.specs.Table.{size_at, row_count}
use Rattle.interleaver.specs.Place.{second_place}
use Rattle.interleaver.specs.Rearrangement.{Rearrangement}
use Rattle.interleaver.proofs.Rows as rows
use Rattle.segmentation.specs.Segmentation.{blocks, with_checks, long, short}
use Rattle.segmentation.specs.Wording.{Minimum, MaximumBelow}
use Rattle.segmentation.proofs.Segmentation as segmentation
use Rattle.rate_matching.specs.Columns.{column}
use Rattle.rate_matching.specs.Printed.{printed_columns}
use Rattle.rate_matching.proofs.Columns as columns

-- 5.1.1: the bits p after the data a are its check bits exactly when data and check bits, divided by the generator, leave no remainder.
pub check_bits_mean : (L g : ℕ) (a p : List ℕ) → AreBits a → (LeavesNothing (bits_of L g) a p ↔ (p ≡ check_bits L g a))
check_bits_mean = check.meaning

-- 5.1.1: the generators are the sums of powers that the clause lists.
pub generators_listed : (g_crc24a ≡ of_powers powers_crc24a) × (g_crc24b ≡ of_powers powers_crc24b) × (g_crc16 ≡ of_powers powers_crc16)
generators_listed = check.generators

-- 5.1.2: K+ is the minimum K in the table such that C·K ≥ B'.
pub long_minimum : (B : ℕ) → B ≤ 30600 → Minimum (blocks B) (with_checks B) (long B)
long_minimum B high = segmentation.long_is B high

-- 5.1.2: with more than one code block K− is the maximum K in the table such that K < K+.
pub short_maximum : (B : ℕ) → B ≤ 30600 → 6144 < B → MaximumBelow (long B) (short B)
short_maximum B high large = segmentation.short_is B high large

-- 5.1.3.2.3: every one of the 188 rows gives a rearrangement of 0 .. K − 1.
pub rows_rearrange : (row : ℕ) → row < row_count → Rearrangement (size_at row) (second_place row)
rows_rearrange = rows.rearranges

-- 5.1.4.1.1: the column numbers are those of table 5.1.4-1 as printed.
pub columns_printed : (c : ℕ) → c < 32 → column c ≡ get_or printed_columns c 0
columns_printed = columns.column_printed
