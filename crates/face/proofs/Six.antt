-- What the C scheduler's call of Sizes gives: refused with 1, refused with 5, and the six numbers of a segmentation.
-- Assumes nothing.
use mathlib.Core.Path.{◌≡◌, ◌∙◌, ap}
use mathlib.Core.Bool.{true, false}
use mathlib.Core.List.{List, [], ◌∷◌, ◌++◌}
use Prim.Native.Nat.{ℕ, ◌+◌, ◌≤◌, ◌<◌}
use lib.ListN.{length, drop}
use borrow.Author.Tests.{lt-ltb, le-ltb}
use Rattle.refusals.specs.Refusals.{first_of}
use Rattle.segmentation.specs.declared.Segments.{Segments}
use Rattle.segmentation.specs.Sizes.{bad_size, segments_of, sizes_of, sizes_answer, values_of}
use Rattle.state_bytes.specs.Numbers.{in_bytes}
use Rattle.face.specs.Face.{sizes_number, sizes_bytes}

-- the six numbers of a segmentation
abbrev pub six : Segments → List ℕ
six s = s.blocks ∷ s.longs ∷ s.long ∷ s.shorts ∷ s.short ∷ s.filler ∷ []

-- what zemrukste_sizes gives: refused with 1, refused with 5, and accepted
pub refused_1 : (A : ℕ) (out : List ℕ) → bad_size A ≡ true → (1 ≡ sizes_number A (length out)) × (out ≡ sizes_bytes A out)
unfolding sizes_number sizes_bytes first_of
refused_1 A out e = (simp e, simp e)

pub refused_5 : (A : ℕ) (out : List ℕ) → bad_size A ≡ false → length out < 24 → (5 ≡ sizes_number A (length out)) × (out ≡ sizes_bytes A out)
unfolding sizes_number sizes_bytes first_of
refused_5 A out e short = (simp (e, lt-ltb (length out) 24 short), simp (e, lt-ltb (length out) 24 short))

pub accepted : (A : ℕ) (out : List ℕ) {s : Segments} {front : List ℕ} → bad_size A ≡ false → 24 ≤ length out → s ≡ segments_of (A + 24)
    → front ≡ in_bytes 4 (six s) → (0 ≡ sizes_number A (length out)) × (front ++ drop 24 out ≡ sizes_bytes A out)
unfolding sizes_number sizes_bytes first_of sizes_answer values_of sizes_of segments_of
accepted A out {s} {front} e enough told said = (
  simp (e, le-ltb (length out) 24 enough),
  simp (e, le-ltb (length out) 24 enough)
      (ap (λ (l : List ℕ). l ++ drop 24 out) (said ∙ ap (λ (t : Segments). in_bytes 4 (six t)) told)),
)
