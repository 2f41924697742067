-- Laws of a line's words: compared with a name, counted, and read as numbers one after another.
-- Assumes nothing.
use Rattle.std.proofs.Common.{◌≡◌, refl, ℕ, Bool, true, false, cond, ◌&&◌, List, [], ◌∷◌, ap, ◌∙◌, eqb}
use Rattle.std.specs.Cmp.Lexicographic.{pointwise}
use Rattle.std.specs.List.{list_all, range_with_len}
use Rattle.std.proofs.Common.{zero, suc, ◌+◌, add-one}
use Rattle.line_words.specs.Words.{same_bytes}
use Rattle.requests.specs.declared.Form.{Form}
use Rattle.requests.specs.Numbers.{says_number, said_from}

-- what `==` says of two runs of bytes
pub same_is : (a b : List ℕ) → pointwise eqb a b ≡ same_bytes a b
unfolding same_bytes
same_is [] [] = refl
same_is [] (y ∷ b) = refl
same_is (x ∷ a) [] = refl
same_is (x ∷ a) (y ∷ b) = ap (λ (t : Bool). eqb x y && t) (same_is a b) ∙ go (eqb x y)
  where
    go : (t : Bool) → (t && same_bytes a b) ≡ cond t (same_bytes a b) false
    go true = refl
    go false = refl

-- the words behind the verb, from word a + 1 on, say numbers
pub said_all : (l : List ℕ) (f : Form) (a n : ℕ) → list_all (λ i. says_number l f (i + 1)) (range_with_len a n) ≡ said_from l f (suc a) n
unfolding said_from
said_all l f a zero = refl
said_all l f a (suc n) = rw add-one (ap (λ (t : Bool). says_number l f (suc a) && t) (said_all l f (suc a) n))
