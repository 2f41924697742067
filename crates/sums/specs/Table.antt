-- The starred rows of 01's 'Small sums to check against', all of them, and the one claim about them.
-- Assumes nothing.
use Rattle.std.specs.Prelude.{Bool, true, false, ◌&&◌, List, [], ◌∷◌, ℕ, eqb}
use Rattle.sums.specs.Questions.{Question, code_blocks, second_encoder_places, transport_check, first_encoder, sent, answer}

-- a question and what 01 says to it
pub record Sum : Type 0 where
  pub question : Question
  pub says : List ℕ

abbrev pub ◌gives◌ : Question → List ℕ → Sum
q gives l = record { question = q; says = l }

infix 10 ◌gives◌
unfoldable pub small_sums : List Sum
small_sums =
    (code_blocks 17 gives (48 ∷ 7 ∷ []))
    ∷ (code_blocks 6120 gives (6144 ∷ 0 ∷ []))
    ∷ (code_blocks 6121 gives (3072 ∷ 3136 ∷ 15 ∷ []))
    ∷ (code_blocks 12217 gives (4096 ∷ 4096 ∷ 4160 ∷ 39 ∷ []))
    ∷ (code_blocks 30576 gives (6144 ∷ 6144 ∷ 6144 ∷ 6144 ∷ 6144 ∷ 0 ∷ []))
    ∷ (second_encoder_places 40 (0 ∷ 1 ∷ 2 ∷ 3 ∷ 39 ∷ []) gives (0 ∷ 13 ∷ 6 ∷ 19 ∷ 7 ∷ []))
    ∷ (transport_check (1 ∷ []) gives (0x864CFB ∷ []))
    ∷ (first_encoder (1 ∷ 0 ∷ 0 ∷ 0 ∷ 0 ∷ 0 ∷ 0 ∷ 0 ∷ []) gives (1 ∷ 1 ∷ 1 ∷ 1 ∷ 0 ∷ 0 ∷ 1 ∷ 0 ∷ []))
    ∷ (sent 16 0 2 gives (0 ∷ 20 ∷ 0 ∷ 4 ∷ []))
    ∷ (sent 16 1 2 gives (0 ∷ 23 ∷ 0 ∷ 7 ∷ []))
    ∷ (sent 16 2 2 gives (1 ∷ 30 ∷ 2 ∷ 31 ∷ []))
    ∷ []

-- two lists of numbers are the same
unfoldable pub same : List ℕ → List ℕ → Bool
same [] [] = true
same [] (y ∷ ys) = false
same (x ∷ xs) [] = false
same (x ∷ xs) (y ∷ ys) = eqb x y && same xs ys

-- the definitions answer what the rows say
unfoldable pub all_hold : List Sum → Bool
all_hold [] = true
all_hold (s ∷ ss) = same (answer s.question) s.says && all_hold ss
