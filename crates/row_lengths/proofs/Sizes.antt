-- The rows of Sizes and Worst have at most 129 bytes: the sizes of a block and the least G of its transmissions are small.
-- Assumes nothing.
use mathlib.Core.Path.{◌≡◌, refl}
use mathlib.Core.Bool.{Bool, true, false, cond}
use mathlib.Core.List.{[], ◌∷◌}
use Prim.Native.Nat.{ℕ, ◌+◌, ◌*◌, ◌≤◌, ◌<◌}
use native.Mathlib.Decide.{dec_le}
use native.Mathlib.Omega.{arith}
use lib.Dec.{eqb}
use lib.ListN.{length}
use borrow.Author.Tests.{eqb-true}
use Rattle.std.specs.Prelude.{Ok, Err}
use Rattle.refusals.specs.declared.Refusal.TheVariants.{BadLength}
use Rattle.refusals.specs.Refusals.{refusal_of, number_of as number}
use Rattle.refusals.proofs.Numbers.{number_most}
use Rattle.segmentation.specs.Segmentation.{blocks, longs, long, shorts, short, filler}
use Rattle.segmentation.specs.Sizes.{bad_size, sizes_of, sizes_answer, number_of, values_of}
use Rattle.segmentation.proofs.Segmentation.{in_range, blocks_most, shorts_fewer, long_most, short_is, no_shorts, filler_most}
use Rattle.planning.specs.Least.{least_bits}
use Rattle.planning.specs.Worst.{least_of_three, least_of_one, worst_number, worst_answer, need_in, values_of as worst_values_of}
use Rattle.planning.proofs.Numbers.{planned, small}
use Rattle.answers.specs.Rows.{refusal_row}
use Rattle.answers.specs.SizesRow.{sizes_row}
use Rattle.answers.specs.WorstRow.{worst_row}
use Rattle.row_lengths.proofs.Numbers.{accepted_length, refused_length}

-- ---- Sizes

module _ (B : ℕ) (high : B ≤ 30600) where
  short_most : short B ≤ 6144
  short_most = elim (dec_le B 6144) [
    | yes h ↦ omega (arith, (no_shorts B h).0)
    | no h ↦ let large : 6144 < B = omega arith in omega (arith, (short_is B high large).below, long_most B high)
  ]

  longs_most : longs B ≤ 5
  unfolding longs
  longs_most = omega (arith, blocks_most B high)

  given_length : length (sizes_row (Ok (record { blocks = blocks B; longs = longs B; long = long B; shorts = shorts B; short = short B; filler = filler B }))) ≤ 129
  unfolding sizes_row values_of
  given_length =
      omega (
        arith,
        accepted_length (blocks B ∷ longs B ∷ long B ∷ shorts B ∷ short B ∷ filler B ∷ []) (
          omega (arith, blocks_most B high),
          (
            omega (arith, longs_most),
            (
              omega (arith, long_most B high),
              (omega (arith, shorts_fewer B high, blocks_most B high), (omega (arith, short_most), (omega (arith, filler_most B high), tt))),
            ),
          ),
        ),
      )

pub sizes_length : (A : ℕ) → length (sizes_row (sizes_answer A)) ≤ 129
unfolding sizes_answer sizes_of sizes_row number_of values_of
sizes_length A = go (bad_size A) refl
  where
    go : (t : Bool) → bad_size A ≡ t → length (sizes_row (cond t (Err BadLength) (Ok (sizes_of A)))) ≤ 129
    go true e = omega (arith, refused_length 1 [] (omega arith) tt)
    go false e = given_length (A + 24) (omega (arith, in_range A e))

-- ---- Worst

module _ (A Q N : ℕ) (accepted : worst_number A Q N ≡ 0) where
  three_most : least_of_three A Q N ≤ 92335
  unfolding least_of_three least_bits need_in
  three_most = small A (N * Q) false (planned A Q N accepted) refl

  one_most : least_of_one A Q N ≤ 92335
  unfolding least_of_one least_bits need_in
  one_most = small A (N * Q) true (planned A Q N accepted) refl

pub worst_length : (A Q N : ℕ) → length (worst_row (worst_answer A Q N)) ≤ 129
unfolding worst_answer worst_row worst_values_of refusal_row
worst_length A Q N = go (eqb (worst_number A Q N) 0) refl
  where
    go : (t : Bool) → eqb (worst_number A Q N) 0 ≡ t
        → length (worst_row (cond t (Ok (record { three = least_of_three A Q N; one = least_of_one A Q N })) (Err (refusal_of (worst_number A Q N))))) ≤ 129
    go true e =
        let accepted : worst_number A Q N ≡ 0 = eqb-true (worst_number A Q N) 0 e in
        omega (
          arith,
          accepted_length (least_of_three A Q N ∷ least_of_one A Q N ∷ []) (omega (arith, three_most A Q N accepted), (omega (arith, one_most A Q N accepted), tt)),
        )
    go false e = omega (arith, refused_length (number (refusal_of (worst_number A Q N))) [] (omega (arith, number_most (refusal_of (worst_number A Q N)))) tt)
