-- Laws of the lines of a text (`lines_of`): the first line and those after it, by places.
-- Assumes nothing.
use mathlib.Core.Path.{◌≡◌, refl, sym, ◌∙◌, ap}
use mathlib.Core.Bool.{Bool, true, false, cond}
use mathlib.Core.List.{List, [], ◌∷◌}
use Prim.Native.Nat.{ℕ, suc, ◌+◌, ◌-◌, ◌≤◌, ◌<◌, min}
use native.Mathlib.Omega.{arith}
use lib.Dec.{eqb, leb}
use lib.ListN.{length, take, drop, length-drop, drop_of_length-le}
use lib.Seq.{drop-drop}
use borrow.Author.Tests.{leb-true, leb-false}
use Rattle.octets.specs.Bytes.{index_of, index_after}
use Rattle.lines.specs.Row.{newline}
use Rattle.lines.specs.Text.{onto, lines_of, line_end, line_at, line_next}

index_le : (b : ℕ) (t : List ℕ) → index_of b t ≤ length t
unfolding index_of index_after
index_le b [] = omega arith
index_le b (x ∷ t) = go (eqb x b) (index_le b t)
  where
    go : (same : Bool) → index_of b t ≤ length t → index_after same (index_of b t) ≤ suc (length t)
    go true h = omega arith
    go false h = omega arith

-- a byte that is no newline belongs to the first line
grown : (b : ℕ) (t : List ℕ) → (0 < length t → lines_of t ≡ take (index_of newline t) t ∷ lines_of (drop (suc (index_of newline t)) t))
    → onto b (lines_of t) ≡ (b ∷ take (index_of newline t) t) ∷ lines_of (drop (suc (index_of newline t)) t)
unfolding lines_of onto index_of
grown b [] h = refl
grown b (x ∷ t) h = ap (onto b) (h (omega arith))

-- the first line ends at the first newline, or at the end
pub lines_first : (t : List ℕ) → 0 < length t → lines_of t ≡ take (index_of newline t) t ∷ lines_of (drop (suc (index_of newline t)) t)
unfolding lines_of index_of index_after
lines_first [] h = absurd (none h)
  where
    none : 0 < 0 → ⊥
    none l = omega arith
lines_first (b ∷ t) h = go (eqb b newline) (λ (l : 0 < length t). lines_first t l)
  where
    go : (ends : Bool) → (0 < length t → lines_of t ≡ take (index_of newline t) t ∷ lines_of (drop (suc (index_of newline t)) t))
        → cond ends ([] ∷ lines_of t) (onto b (lines_of t))
        ≡ take (index_after ends (index_of newline t)) (b ∷ t) ∷ lines_of (drop (suc (index_after ends (index_of newline t))) (b ∷ t))
    go true h = refl
    go false h = grown b t h

drop_min : (k : ℕ) (t : List ℕ) → drop k t ≡ drop (min k (length t)) t
drop_min k t = go (leb k (length t)) refl
  where
    go : (within : Bool) → leb k (length t) ≡ within → drop k t ≡ drop (min k (length t)) t
    go true e =
        let h : k ≤ length t = leb-true _ _ e in
        let same : k ≡ min k (length t) = omega arith in
        ap (λ (j : ℕ). drop j t) same
    go false e =
        let h : length t ≤ k = omega (arith, leb-false k (length t) e) in
        let most : length t ≤ min k (length t) = omega arith in
        drop_of_length-le t h ∙ sym (drop_of_length-le t most)

module _ (text : List ℕ) (from : ℕ) where
  pub end_from : from ≤ line_end text from
  unfolding line_end
  end_from = omega arith

  pub end_within : from ≤ length text → line_end text from ≤ length text
  unfolding line_end
  end_within h = omega (arith, index_le newline (drop from text), length-drop from text)

  pub next_more : from < length text → from < line_next text from
  unfolding line_next
  next_more h = omega (arith, end_from)

  -- the line at `from` and those after it
  pub lines_at : from < length text → lines_of (drop from text) ≡ line_at text from ∷ lines_of (drop (line_next text from) text)
  unfolding line_at line_next line_end
  lines_at h =
      lines_first (drop from text) (omega (arith, length-drop from text))
      ∙ ap (λ (k : ℕ). take k (drop from text) ∷ lines_of (drop (suc index) (drop from text))) counted
      ∙ ap (λ (l : List ℕ). take (from + index - from) (drop from text) ∷ lines_of l) (drop-drop (suc index) from text ∙ ap (λ (k : ℕ). drop k text) placed ∙ drop_min (from + index + 1) text)
    where
      index : ℕ
      index = index_of newline (drop from text)

      counted : index ≡ from + index - from
      counted = omega arith

      placed : from + suc index ≡ from + index + 1
      placed = omega arith
