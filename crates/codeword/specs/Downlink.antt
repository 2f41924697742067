-- The call Build for a downlink (02): its number and what the output holds afterwards, under Release 11 and under Release 8.
-- Assumes nothing.
use Rattle.std.specs.Prelude.{Bool, false, cond, not, ◌||◌, List, [], ◌∷◌, ◌++◌, ℕ, zero, suc, ◌+◌, ◌*◌, eqb, ltb, length, drop}
use Rattle.refusals.specs.Refusals.{Rule, rule, first_of}
use Rattle.segmentation.specs.Segmentation.{blocks}
use Rattle.rate_matching.specs.SoftBuffer.{soft_share}
use Rattle.codeword.specs.declared.Grant.{Grant}
use Rattle.codeword.specs.Codeword.{block_rows, block_cut, codeword_in}
use Rattle.codeword.specs.Build.{size_rule, symbol_rule, length_rule, version_rule, output_rule, bits_rule}

-- a release that is neither 8 nor 11, a K_MIMO other than 1 or 2, or no processes
unfoldable pub bad_receiver : ℕ → ℕ → ℕ → Bool
bad_receiver release k_mimo processes =
    not (eqb release 8 || eqb release 11) || (not (eqb k_mimo 1 || eqb k_mimo 2) || eqb processes 0)

-- an N_cb below 32·R for one of the first n code blocks
unfoldable pub too_short : ℕ → ℕ → ℕ → Bool
too_short soft B zero = false
too_short soft B (suc n) = too_short soft B n || ltb (block_cut soft B n) (32 * block_rows B n)

-- number 21, for a sequence of B bits: another release, K_MIMO or number of processes, or an N_cb below 32·R for any block
unfoldable pub bad_buffer : ℕ → ℕ → ℕ → ℕ → ℕ → ℕ → Bool
bad_buffer B release k_mimo processes Nsoft layers =
    bad_receiver release k_mimo processes || too_short (soft_share (blocks B) release k_mimo processes Nsoft layers) B (blocks B)

-- ⌊N_IR / C⌋ of an accepted receiver, else 0
unfoldable pub share_for : ℕ → ℕ → ℕ → ℕ → ℕ → ℕ → ℕ
share_for C release k_mimo processes Nsoft layers =
    cond (eqb C 0 || bad_receiver release k_mimo processes) 0 (soft_share C release k_mimo processes Nsoft layers)

abbrev pub buffer_rule : ℕ → ℕ → ℕ → ℕ → ℕ → ℕ → Rule
buffer_rule B release k_mimo processes Nsoft layers = rule (bad_buffer B release k_mimo processes Nsoft layers) 21

-- its refusals in 02's order: 1, 21, 3, 4, 5, 2; size is the length of the output
unfoldable pub build_down_rules : List ℕ → ℕ → ℕ → ℕ → ℕ → ℕ → Grant → ℕ → List Rule
build_down_rules a release k_mimo processes Nsoft layers g size =
    size_rule (length a)
    ∷ buffer_rule (length a + 24) release k_mimo processes Nsoft layers
    ∷ symbol_rule g.modulation g.layers
    ∷ length_rule (blocks (length a + 24)) g.modulation g.layers g.bits
    ∷ version_rule g.version
    ∷ output_rule g.bits size
    ∷ bits_rule a
    ∷ []

-- the number that it answers: 0 where it is accepted
unfoldable pub build_down_number : List ℕ → ℕ → ℕ → ℕ → ℕ → ℕ → Grant → ℕ → ℕ
build_down_number a release k_mimo processes Nsoft layers g size = first_of (build_down_rules a release k_mimo processes Nsoft layers g size)

-- the output afterwards: the codeword over its first G bytes, or as it was
unfoldable pub build_down_output : List ℕ → ℕ → ℕ → ℕ → ℕ → ℕ → Grant → List ℕ → List ℕ
build_down_output a release k_mimo processes Nsoft layers g out =
    cond (eqb (build_down_number a release k_mimo processes Nsoft layers g (length out)) 0)
    (codeword_in (soft_share (blocks (length a + 24)) release k_mimo processes Nsoft layers) a g ++ drop g.bits out)
    out
