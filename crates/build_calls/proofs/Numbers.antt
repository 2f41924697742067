-- Build's number, and what the output holds then.
-- Assumes nothing.
use mathlib.Core.Path.{◌≡◌, ap}
use mathlib.Core.List.{List, ◌++◌}
use mathlib.Core.Bool.{false}
use Prim.Native.Nat.{ℕ, ◌+◌, ◌≤◌}
use lib.ListN.{length, drop}
use borrow.Author.Tests.{le-ltb, eq-eqb}
use Rattle.refusals.specs.declared.Refusal.{Refusal}
use Rattle.refusals.specs.Refusals.{first_of, number_of}
use Rattle.refusals.proofs.Numbers.{refusal_ne0}
use Rattle.segmentation.specs.Segmentation.{blocks}
use Rattle.segmentation.specs.Sizes.{bad_size}
use Rattle.rate_matching.specs.SoftBuffer.{whole_share}
use Rattle.codeword.specs.declared.Grant.{Grant}
use Rattle.codeword.specs.Codeword.{codeword_in, codeword}
use Rattle.codeword.specs.Build.{bad_symbol, bad_length, bad_allocation, bad_version, bad_bits, build_rules, build_number, build_output}
use Rattle.codeword.proofs.Accepted.{or-false}
use Rattle.codeword.proofs.Segmented.{sized, unsized}
use Rattle.codeword.proofs.Seen.{appended}

-- what the tests on the way to the number tell
pub ruleset accepting = (sized, unsized, appended)

-- number 0: what is asked of a call that is accepted
pub accepted_is : (a : List ℕ) (g : Grant) (room : ℕ) → bad_size (length a) ≡ false → bad_allocation (blocks (length a + 24)) g.modulation g.layers g.bits ≡ false
    → g.version ≤ 3 → g.bits ≤ room → bad_bits a ≡ false → 0 ≡ build_number a g room
unfolding build_number build_rules first_of bad_version bad_allocation
accepted_is a g room size allocation version enough bits =
    let both = or-false (bad_symbol g.modulation g.layers) (bad_length (blocks (length a + 24)) g.modulation g.layers g.bits) allocation in
    simp (size, both.0, both.1, le-ltb 3 g.version version, le-ltb room g.bits enough, bits)

-- the output after a refusal, and after the codeword came back in its first G bytes
pub refused_output : (a : List ℕ) (g : Grant) (out : List ℕ) (refusal : Refusal) → number_of refusal ≡ build_number a g (length out) → out ≡ build_output a g out
unfolding build_output
refused_output a g out refusal e = rw (← e, refusal_ne0 refusal)

pub built_output : (a : List ℕ) (g : Grant) (out : List ℕ) {front : List ℕ} → build_number a g (length out) ≡ 0
    → front ≡ codeword_in whole_share a g → front ++ drop g.bits out ≡ build_output a g out
unfolding build_output codeword
built_output a g out h e = simp (eq-eqb _ _ h) (ap (λ (l : List ℕ). l ++ drop g.bits out) e)
