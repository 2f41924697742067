-- How a stream comes about: the input bits at its front, an encoder's outputs in their place, then the tail and the filler places.
-- Assumes nothing.
use mathlib.Core.Path.{◌≡◌, refl, ◌∙◌, ap}
use mathlib.Core.List.{List, [], ◌∷◌, ◌++◌, append-nil}
use Prim.Native.Nat.{ℕ, ◌+◌, ◌-◌, ◌≤◌, ◌<◌}
use native.Mathlib.Omega.{arith}
use borrow.Rule.Slice.PartMut.{put_mid}
use lib.ListN.{length, get_or, take, drop, replicate}
use lib.Seq.{drop-length, length-take-le, take_at}
use Rattle.interleaver.specs.Table.{row_count, size_at}
use Rattle.interleaver.specs.Place.{interleaved}
use Rattle.interleaver.specs.Into.{interleaved_into}
use Rattle.interleaver.proofs.Into.{length_interleaved, into_fits}
use Rattle.laws.proofs.Parts.{put_as}
use Rattle.turbo.specs.declared.Tail.{Tail}
use Rattle.turbo.specs.Encoder.{start, parities}
use Rattle.turbo.specs.Streams.{NULL, without_filler, first_end, second_end, stream0, stream1, stream2}
use Rattle.turbo.specs.Encode.{block_in, tail_of, completed}
use Rattle.turbo.proofs.Encoder.{length_parities}
use Rattle.turbo.proofs.Streams.{without_filler_none, without_filler_append}

-- the interleaver has written the front of a list
pub front_interleaved : (row : ℕ) (c out : List ℕ) {part : List ℕ} → row < row_count → length c ≡ size_at row → length c ≤ length out
    → part ≡ interleaved_into row c (take (length c) out) → part ≡ interleaved row c
front_interleaved row c out h n l e = e ∙ into_fits row c (take (length c) out) h n (length-take-le (length c) out l ∙ n)

-- ---- the tail and the filler places

-- the filler places
pub set_absent : (F : ℕ) (d : List ℕ) {part : List ℕ} → F ≤ length d → part ≡ replicate {A = ℕ} (length (take F d)) NULL → part ++ drop F d ≡ without_filler F d
unfolding without_filler
set_absent F d h e = rw (e, length-take-le F d h) refl

-- the tail over the last four places, then the filler places
pub completing : (F : ℕ) (d tail : List ℕ) {part : List ℕ} → F + 4 ≤ length d → length tail ≡ 4 → part ≡ tail
    → without_filler F (put_mid (length d - 4) (length d - (length d - 4)) d part) ≡ completed F d tail
unfolding completed
completing F d tail h n e =
    ap (without_filler F) (put_as (length d - 4) (length d) d e (omega arith) ∙ rw (drop-length d, append-nil))
    ∙ without_filler_append F (take (length d - 4) d) tail (rw (length-take-le (length d - 4) d (omega arith)) (omega arith))

-- the bits of a completed stream stand at its front
completed_is : (F : ℕ) (d bits rest tail : List ℕ) → d ≡ bits ++ rest → length d ≡ length bits + 4 → completed F d tail ≡ without_filler F bits ++ tail
unfolding completed
completed_is F d bits rest tail e n =
    ap (λ (l : List ℕ). without_filler F l ++ tail) (ap (λ (l : List ℕ). take (length d - 4) l) e ∙ take_at bits rest (length d - 4) (omega arith))

-- ---- the three streams

-- the code block's bits stand at the front of stream 0's room as they are
pub stream0_is : (row : ℕ) (d0 : List ℕ) {t u : Tail} → t ≡ tail_of (first_end (block_in d0)) → u ≡ tail_of (second_end row (block_in d0)) → (F : ℕ)
    → completed F d0 (get_or t.x 0 0 ∷ get_or t.z 1 0 ∷ get_or u.x 0 0 ∷ get_or u.z 1 0 ∷ []) ≡ stream0 row F (block_in d0)
unfolding stream0 tail_of completed block_in
stream0_is row d0 first second F = rw (first, second)

module _ (row : ℕ) (c rest : List ℕ) {d : List ℕ} {t u : Tail} (first : t ≡ tail_of (first_end c)) (second : u ≡ tail_of (second_end row c)) (long : length d ≡ length c + 4) where
  pub stream1_is : (F : ℕ) → d ≡ parities start c ++ rest → completed F d (get_or t.z 0 0 ∷ get_or t.x 2 0 ∷ get_or u.z 0 0 ∷ get_or u.x 2 0 ∷ []) ≡ stream1 row F c
  unfolding stream1 tail_of
  stream1_is F e = rw (first, second) (completed_is F d (parities start c) rest _ e (rw length_parities long))

  -- stream 2 has no filler places
  pub stream2_is : length c ≡ size_at row → d ≡ parities start (interleaved row c) ++ rest → completed 0 d (get_or t.x 1 0 ∷ get_or t.z 2 0 ∷ get_or u.x 1 0 ∷ get_or u.z 2 0 ∷ []) ≡ stream2 row c
  unfolding stream2 tail_of
  stream2_is size e =
      rw (first, second)
      (completed_is 0 d (parities start (interleaved row c)) rest _ e (rw (length_parities, length_interleaved, ← size) long)
      ∙ rw (← without_filler_none))
