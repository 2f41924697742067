-- Laws of the place of a byte: by the byte that stands first, behind the text, and that it is no place past the text's end.
-- Assumes nothing.
use Rattle.std.proofs.Common.{◌≡◌, ℕ, suc, ◌+◌, ◌≤◌, ◌<◌, Bool, true, false, eqb, List, [], ◌∷◌, length, drop, get_or, sym, ap, ◌∙◌, add-one, arith, length-drop}
use Rattle.std.proofs.lemmas.List.{drop_more}
use Rattle.std.proofs.lemmas.Bool.{eq-eqb, ne_eqb}
use Rattle.std.proofs.Math.ListN.{drop_of_length-le}
use Rattle.octets.specs.Bytes.{index_of, index_after}

index_on : (b at : ℕ) (text : List ℕ) → at < length text → index_of b (drop at text) ≡ index_after (eqb (get_or text at 0) b) (index_of b (drop (at + 1) text))
unfolding index_of
index_on b at text within = ap (index_of b) (drop_more text at 0 within)

pub index_here : (b at : ℕ) (text : List ℕ) → at < length text → get_or text at 0 ≡ b → index_of b (drop at text) ≡ 0
unfolding index_after
index_here b at text within same = index_on b at text within ∙ ap (λ t. index_after t (index_of b (drop (at + 1) text))) (eq-eqb (get_or text at 0) b same)

pub index_past : (b at : ℕ) (text : List ℕ) → at < length text → ¬ (get_or text at 0 ≡ b) → index_of b (drop at text) ≡ index_of b (drop (at + 1) text) + 1
unfolding index_after
index_past b at text within other =
    index_on b at text within ∙ ap (λ t. index_after t (index_of b (drop (at + 1) text))) (ne_eqb (get_or text at 0) b other) ∙ sym (add-one _)

pub index_none : (b at : ℕ) (text : List ℕ) → length text ≤ at → index_of b (drop at text) ≡ 0
unfolding index_of
index_none b at text past = ap (index_of b) (drop_of_length-le text past)

index_most : (b : ℕ) (text : List ℕ) → index_of b text ≤ length text
unfolding index_of index_after
index_most b [] = omega arith
index_most b (x ∷ t) = go (eqb x b) (index_most b t)
  where
    go : (s : Bool) → index_of b t ≤ length t → index_after s (index_of b t) ≤ suc (length t)
    go true m = omega arith
    go false m = omega arith

pub found_most : (b from : ℕ) (text : List ℕ) → from ≤ length text → from + index_of b (drop from text) ≤ length text
found_most b from text h = omega (arith, index_most b (drop from text), length-drop from text)
