-- The three streams of the turbo encoder, clauses 5.1.3.2.1 and 5.1.3.2.2, of a code block c whose first F bits are filler.
-- Assumes nothing.
use Rattle.std.specs.Prelude.{List, [], ◌∷◌, ◌++◌, ℕ, drop, replicate}
use Rattle.interleaver.specs.Place.{interleaved}
use Rattle.turbo.specs.declared.Registers.{Registers}
use Rattle.turbo.specs.Encoder.{start, parities, after, x_tail, z_tail}

-- <NULL>: no bit stands here. A bit is 0 or 1
abbrev pub NULL : ℕ
NULL = 2

-- the first F places of a stream set to <NULL>
unfoldable pub without_filler : ℕ → List ℕ → List ℕ
without_filler F d = replicate F NULL ++ drop F d

-- the registers of the first and of the second encoder after the K bits
unfoldable pub first_end : List ℕ → Registers
first_end c = after start c

unfoldable pub second_end : ℕ → List ℕ → Registers
second_end row c = after start (interleaved row c)

-- d(0): the bits themselves; then x_K, z_K+1, x'_K, z'_K+1
unfoldable pub stream0 : ℕ → ℕ → List ℕ → List ℕ
stream0 row F c =
    without_filler F c
    ++ (x_tail 0 (first_end c) ∷ z_tail 1 (first_end c) ∷ x_tail 0 (second_end row c) ∷ z_tail 1 (second_end row c) ∷ [])

-- d(1): the first encoder's output; then z_K, x_K+2, z'_K, x'_K+2
unfoldable pub stream1 : ℕ → ℕ → List ℕ → List ℕ
stream1 row F c =
    without_filler F (parities start c)
    ++ (z_tail 0 (first_end c) ∷ x_tail 2 (first_end c) ∷ z_tail 0 (second_end row c) ∷ x_tail 2 (second_end row c) ∷ [])

-- d(2): the second encoder's output, filler or not; then x_K+1, z_K+2, x'_K+1, z'_K+2
unfoldable pub stream2 : ℕ → List ℕ → List ℕ
stream2 row c =
    parities start (interleaved row c)
    ++ (x_tail 1 (first_end c) ∷ z_tail 2 (first_end c) ∷ x_tail 1 (second_end row c) ∷ z_tail 2 (second_end row c) ∷ [])
