-- Laws of runs: a run of digits (`is_run`) has no other byte, and runs of two lengths differ.
-- Assumes nothing.
use Rattle.std.proofs.Common.{◌≡◌, ℕ, suc, Bool, true, false, cond, ◌&&◌, List, [], ◌∷◌, length, eqb, refl, ap, ◌∙◌}
use Rattle.std.specs.List.{list_all}
use Rattle.std.specs.Char.{is_ascii_digit}
use Rattle.lines.specs.Line.{is_digit}
use Rattle.line_words.specs.Words.{all_digits, same_bytes}

pub digits_all : (l : List ℕ) → list_all is_ascii_digit l ≡ all_digits l
unfolding all_digits is_digit
digits_all [] = refl
digits_all (b ∷ l) = ap (λ (t : Bool). is_ascii_digit b && t) (digits_all l) ∙ go (is_ascii_digit b)
  where
    go : (t : Bool) → (t && all_digits l) ≡ cond t (all_digits l) false
    go true = refl
    go false = refl

-- runs of two lengths differ
pub lengths_differ : (a b : List ℕ) → (length a ≡ length b → ⊥) → false ≡ same_bytes a b
unfolding same_bytes
lengths_differ [] [] h = absurd (h refl)
lengths_differ [] (y ∷ b) h = refl
lengths_differ (x ∷ a) [] h = refl
lengths_differ (x ∷ a) (y ∷ b) h = go (eqb x y) (lengths_differ a b (λ (e : length a ≡ length b). h (ap suc e)))
  where
    go : (same : Bool) → false ≡ same_bytes a b → false ≡ cond same (same_bytes a b) false
    go true e = e
    go false e = refl
