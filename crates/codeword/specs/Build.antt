-- The call Build of 01: its number and what the output holds afterwards, on refusal as on success.
-- Assumes nothing.
use Rattle.std.specs.Prelude.{Bool, false, cond, not, ◌||◌, List, [], ◌∷◌, ◌++◌, ℕ, ◌+◌, ◌*◌, ◌%◌, eqb, ltb, length, drop}
use Rattle.refusals.specs.Refusals.{Rule, rule, first_of}
use Rattle.segmentation.specs.Segmentation.{blocks}
use Rattle.segmentation.specs.Sizes.{bad_size}
use Rattle.codeword.specs.declared.Grant.{Grant}
use Rattle.codeword.specs.Shares.{symbols, share}
use Rattle.codeword.specs.Codeword.{codeword}

-- Q is none of 2, 4 and 6
unfoldable pub bad_modulation : ℕ → Bool
bad_modulation Q = not (eqb Q 2 || (eqb Q 4 || eqb Q 6))

-- N is outside 1 to 4
unfoldable pub bad_layers : ℕ → Bool
bad_layers N = eqb N 0 || ltb 4 N

-- number 3 for Q and N
unfoldable pub bad_symbol : ℕ → ℕ → Bool
bad_symbol Q N = bad_modulation Q || bad_layers N

-- number 3 for G, for C code blocks
unfoldable pub bad_length : ℕ → ℕ → ℕ → ℕ → Bool
bad_length C Q N G = ltb 172800 G || (not (eqb (G % (N * Q)) 0) || ltb (symbols Q N G) C)

-- number 3, whichever of the three it is for
unfoldable pub bad_allocation : ℕ → ℕ → ℕ → ℕ → Bool
bad_allocation C Q N G = bad_symbol Q N || bad_length C Q N G

-- E of code block r of an accepted allocation, else 0
unfoldable pub share_of : ℕ → ℕ → ℕ → ℕ → ℕ → ℕ
share_of C Q N G r = cond (ltb r C) (cond (bad_allocation C Q N G) 0 (share C Q N G r)) 0

-- number 4: the redundancy version is above 3
unfoldable pub bad_version : ℕ → Bool
bad_version v = ltb 3 v

-- number 2: a byte above 1 among given bits
unfoldable pub bad_bits : List ℕ → Bool
bad_bits [] = false
bad_bits (x ∷ xs) = ltb 1 x || bad_bits xs

-- ---- the rules by their names, for whatever list they stand in

abbrev pub size_rule : ℕ → Rule
size_rule A = rule (bad_size A) 1

abbrev pub symbol_rule : ℕ → ℕ → Rule
symbol_rule Q N = rule (bad_symbol Q N) 3

abbrev pub length_rule : ℕ → ℕ → ℕ → ℕ → Rule
length_rule C Q N G = rule (bad_length C Q N G) 3

abbrev pub version_rule : ℕ → Rule
version_rule v = rule (bad_version v) 4

-- an output of `size` bytes is too short for what is written
abbrev pub output_rule : ℕ → ℕ → Rule
output_rule written size = rule (ltb size written) 5

abbrev pub bits_rule : List ℕ → Rule
bits_rule a = rule (bad_bits a) 2

-- ---- the call

-- Build's refusals in 01's order: 1, 3, 4, 5, 2; size is the length of the output
unfoldable pub build_rules : List ℕ → Grant → ℕ → List Rule
build_rules a g size =
    size_rule (length a)
    ∷ symbol_rule g.modulation g.layers
    ∷ length_rule (blocks (length a + 24)) g.modulation g.layers g.bits
    ∷ version_rule g.version
    ∷ output_rule g.bits size
    ∷ bits_rule a
    ∷ []

-- the number that Build answers: 0 where it is accepted
unfoldable pub build_number : List ℕ → Grant → ℕ → ℕ
build_number a g size = first_of (build_rules a g size)

-- the output afterwards: the codeword over its first G bytes, or as it was
unfoldable pub build_output : List ℕ → Grant → List ℕ → List ℕ
build_output a g out = cond (eqb (build_number a g (length out)) 0) (codeword a g ++ drop g.bits out) out
