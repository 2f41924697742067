-- The numbers of the segmentation as code works them out, one after the other: they are those of clause 5.1.2, and no sum wraps.
-- Assumes nothing.
use mathlib.Core.Path.{◌≡◌, sym, ◌∙◌, ap}
use Prim.Native.Nat.{ℕ, ◌+◌, ◌-◌, ◌*◌, ◌/◌, ◌^◌, ◌≤◌, ◌<◌}
use native.Mathlib.Nat.{mul-le-mul}
use native.Mathlib.Omega.{arith}
use Rattle.interleaver.specs.Table.{size_at, row_count}
use Rattle.std.specs.Int.{div_ceil}
use Rattle.segmentation.specs.Segmentation.{blocks, with_checks, first_row, long_row, long, short, shorts, longs, filler}
use Rattle.segmentation.specs.Sizes.{segments_of}
use Rattle.segmentation.proofs.Segmentation.{single, need_single, no_shorts, several, some_shorts, blocks_most, long_is, long_most, short_row, short_is, shorts_fewer, total_enough}

-- what the sums keep to
pub record Sums (C need K k s : ℕ) : Type 0 where
  pub few : C ≤ 5
  pub most : K ≤ 6144
  pub below : k < K
  pub enough : need ≤ C * K
  pub fewer : s < C
  pub total : need ≤ (C - s) * K + s * k
  pub long_part : (C - s) * K < 2 ^ 64
  pub short_part : s * k < 2 ^ 64
  pub all : (C - s) * K + s * k < 2 ^ 64

kept : {C need K k s : ℕ} → C ≤ 5 → K ≤ 6144 → k < K → need ≤ C * K → s < C → need ≤ (C - s) * K + s * k → Sums C need K k s
kept {C} {need} {K} {k} {s} few most below enough fewer total =
    record {
      few = few;
      most = most;
      below = below;
      enough = enough;
      fewer = fewer;
      total = total;
      long_part = omega (arith, long_part);
      short_part = omega (arith, short_part);
      all = omega (arith, long_part, short_part);
    }
  where
    left : C - s ≤ 5
    left = omega arith

    long_part : (C - s) * K ≤ 5 * 6144
    long_part = mul-le-mul left most

    one : s ≤ 5
    one = omega arith

    other : k ≤ 6144
    other = omega arith

    short_part : s * k ≤ 5 * 6144
    short_part = mul-le-mul one other

-- B' of more than one code block, and C− from K+ and K−
abbrev pub need_by : ℕ → ℕ → ℕ
need_by B C = B + C * 24

abbrev pub shorts_by : ℕ → ℕ → ℕ → ℕ → ℕ
shorts_by B C K k = (C * K - need_by B C) / (K - k)

-- several code blocks: C, the row of K+, K+, and then K−
module _ {B C row K : ℕ} (large : 6144 < B) (high : B ≤ 30600) (count : C ≡ div_ceil B 6120) (row_is : row ≡ first_row C (need_by B C) 0 row_count) (K-is : K ≡ size_at row) where
  blocks_told : C ≡ blocks B
  blocks_told = let same : div_ceil B 6120 ≡ (B + 6119) / 6120 = omega arith in count ∙ same ∙ sym (several B large).0

  need_told : need_by B C ≡ with_checks B
  unfolding with_checks
  need_told = rw ((several B large).1, blocks_told)

  row_told : row ≡ long_row B
  unfolding long_row
  row_told = row_is ∙ rw (need_told, blocks_told)

  long_told : K ≡ long B
  unfolding long
  long_told = K-is ∙ ap size_at row_told

  pub row_positive : 1 ≤ row
  row_positive = rw row_told (short_row B high large)

  module _ {k : ℕ} (k_is : k ≡ size_at (row - 1)) where
    short_told : k ≡ short B
    short_told = k_is ∙ ap (λ (n : ℕ). size_at (n - 1)) row_told ∙ sym (some_shorts B large).0

    shorts_told : shorts_by B C K k ≡ shorts B
    shorts_told = rw (need_told, blocks_told, long_told, short_told) (sym (some_shorts B large).1)

    pub sums : Sums C (need_by B C) K k (shorts_by B C K k)
    sums = rw (shorts_told, need_told, blocks_told, long_told, short_told)
        (kept (blocks_most B high) (long_most B high) (short_is B high large).below (long_is B high).enough (shorts_fewer B high) (total_enough B high))

    pub worked : record {
      blocks = C;
      longs = C - shorts_by B C K k;
      long = K;
      shorts = shorts_by B C K k;
      short = k;
      filler = (C - shorts_by B C K k) * K + shorts_by B C K k * k - need_by B C;
      row = row;
    } ≡ segments_of B
    unfolding segments_of longs filler
    worked = rw (shorts_told, need_told, blocks_told, long_told, short_told, row_told)

one_long : (K : ℕ) → (1 - 0) * K + 0 * 0 ≡ K
one_long K = omega arith

-- one code block: the row of K+ and K+
module _ {B row K : ℕ} (small : B ≤ 6144) (row_is : row ≡ first_row 1 B 0 row_count) (K-is : K ≡ size_at row) where
  single_row : row ≡ long_row B
  unfolding long_row
  single_row = row_is ∙ rw ((single B small).0, need_single B small)

  single_long : K ≡ long B
  unfolding long
  single_long = K-is ∙ ap size_at single_row

  pub single_serves : B ≤ K
  single_serves = rw single_long (omega (arith, (rw ((single B small).0, need_single B small) at (long_is B (omega arith)).enough)))

  pub single_worked : record { blocks = 1; longs = 1; long = K; shorts = 0; short = 0; filler = K - B; row = row } ≡ segments_of B
  unfolding segments_of longs filler
  single_worked = rw ((single B small).0, need_single B small, (no_shorts B small).0, (no_shorts B small).1, single_row, single_long, one_long (long B))
