-- 01's starred small sums hold of the definitions: one claim about every row, decided by computation over the whole table.
-- Assumes nothing.
use mathlib.Core.Path.{◌≡◌, refl, sym, ap₂}
use mathlib.Core.Bool.{true, and-eq-true_iff, true≢false}
use mathlib.Core.List.{List, [], ◌∷◌}
use Prim.Native.Nat.{ℕ, zero, suc, ◌<◌}
use native.Mathlib.Omega.{arith}
use lib.Dec.{T, eqb}
use lib.ListN.{length, get_or}
use borrow.Author.Tests.{eqb-true}
use Rattle.laws.proofs.Computed.{T_true}
use Rattle.laws.specs.Lists.{tab, tab_from, keep}
use Rattle.laws.specs.Bits.{bits_of}
use Rattle.check_bits.specs.CheckBits.{crc, crc_from, crc_step, check_bits}
use Rattle.interleaver.specs.Table.{size_table, f1_table, f2_table, size_at, f1_at, f2_at}
use Rattle.interleaver.specs.Place.{quadratic, second_place, second_bit, interleaved}
use Rattle.segmentation.specs.Segmentation.{check_length, blocks, with_checks, first_row, long_row, long, short, shorts, longs, filler, size_of, row_of, filler_of}
use Rattle.segmentation.specs.CodeBlocks.{with_check, taken_before, payload, code_block}
use Rattle.turbo.specs.Encoder.{start, feedback, entering, parity, next, parities, after, tailed, x_tail, z_tail}
use Rattle.turbo.specs.Streams.{without_filler, first_end, second_end, stream0, stream1, stream2}
use Rattle.rate_matching.specs.Columns.{number_of, turned_round, column}
use Rattle.rate_matching.specs.SubBlocks.{rows, dummies, padded, read_plain, read_shifted, y_at, plain, shifted}
use Rattle.rate_matching.specs.Circle.{by_turns, circle, circle_length, start_in, start_of}
use Rattle.rate_matching.specs.Walk.{on_circle, is_bit, holds_bit, itself, round, turn, turn_after_turn, sent_places}
use Rattle.rate_matching.specs.Places.{held_y, held_by_turns, held_at}
use Rattle.codeword.specs.Codeword.{block_circle, block_rows}
use Rattle.sums.specs.Questions.{as_numbers, stream_places, zeros, answer}
use Rattle.sums.specs.Table.{Sum, small_sums, same, all_hold}

tested : T (all_hold small_sums)
unfolding tab tab_from keep bits_of crc crc_from crc_step check_bits size_table f1_table f2_table size_at f1_at f2_at quadratic second_place second_bit interleaved check_length blocks with_checks first_row long_row long short shorts longs filler size_of row_of filler_of with_check taken_before payload code_block start feedback entering parity next parities after tailed x_tail z_tail without_filler first_end second_end stream0 stream1 stream2 number_of turned_round column rows dummies padded read_plain read_shifted y_at plain shifted by_turns circle circle_length start_in start_of on_circle is_bit holds_bit itself round turn turn_after_turn sent_places held_y held_by_turns held_at block_circle block_rows as_numbers stream_places zeros answer small_sums same all_hold
tested = tt

-- lists that are the same are equal
same_equal : (xs ys : List ℕ) → same xs ys ≡ true → xs ≡ ys
unfolding same
same_equal [] [] e = refl
same_equal [] (y ∷ ys) e = absurd (true≢false (sym e))
same_equal (x ∷ xs) [] e = absurd (true≢false (sym e))
same_equal (x ∷ xs) (y ∷ ys) e =
    let both = (and-eq-true_iff (eqb x y) (same xs ys)).0 e in
    ap₂ ◌∷◌ (eqb-true x y both.0) (same_equal xs ys both.1)

row_holds : (none : Sum) (ss : List Sum) → all_hold ss ≡ true → (i : ℕ) → i < length ss → answer (get_or ss i none).question ≡ (get_or ss i none).says
unfolding all_hold
row_holds none [] e i h = absurd (omega arith)
row_holds none (s ∷ ss) e zero h = same_equal (answer s.question) s.says ((and-eq-true_iff (same (answer s.question) s.says) (all_hold ss)).0 e).0
row_holds none (s ∷ ss) e (suc i) h =
    row_holds none ss ((and-eq-true_iff (same (answer s.question) s.says) (all_hold ss)).0 e).1 i (omega arith)

-- the definitions answer what each of the 11 rows says; `none` stands for a row past them
pub small_sums_hold : (none : Sum) (i : ℕ) → i < 11 → answer (get_or small_sums i none).question ≡ (get_or small_sums i none).says
unfolding small_sums
small_sums_hold none i h = row_holds none small_sums (T_true (all_hold small_sums) tested) i h
