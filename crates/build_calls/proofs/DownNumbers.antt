-- Build's numbers for a downlink (02): as they are found by the share of the longest code block, and what the output holds then.
-- Assumes nothing.
use mathlib.Core.Path.{◌≡◌, refl, ◌∙◌, ap}
use mathlib.Core.Bool.{Bool, true, false}
use mathlib.Core.List.{List, ◌++◌}
use Prim.Native.Nat.{ℕ, ◌+◌, ◌*◌}
use lib.Dec.{ltb}
use lib.ListN.{length, drop}
use borrow.Author.Tests.{eq-eqb}
use Rattle.refusals.specs.declared.Refusal.{Refusal}
use Rattle.refusals.specs.Refusals.{first_of, number_of}
use Rattle.refusals.proofs.Numbers.{refusal_ne0}
use Rattle.segmentation.specs.Segmentation.{blocks, long}
use Rattle.segmentation.specs.declared.Segments.{Segments}
use Rattle.segmentation.specs.Sizes.{bad_size, segments_for}
use Rattle.rate_matching.specs.SubBlocks.{rows}
use Rattle.codeword.specs.declared.Grant.{Grant}
use Rattle.codeword.specs.Codeword.{codeword_in}
use Rattle.codeword.specs.Build.{build_rules, build_number}
use Rattle.codeword.specs.Downlink.{share_for, build_down_rules, build_down_number, build_down_output}
use Rattle.build_calls.specs.inner.Sending.{number_with}
use Rattle.codeword.proofs.Segmented.{sized, unsized, sized_in, long_told}
use Rattle.codeword.proofs.SoftShares.{rows_told, buffer_told, accepted_down, share_told}

-- what the tests on the way to the number tell
pub ruleset accepting_down = (sized, unsized, long_told, rows_told)

module _ (a : List ℕ) (release k_mimo processes Nsoft layers : ℕ) (g : Grant) where
  abbrev B : ℕ
  B = length a + 24

  abbrev given : ℕ
  given = share_for (blocks B) release k_mimo processes Nsoft layers

  -- the number as it is found
  number_told : (room : ℕ) → number_with a given g room ≡ build_down_number a release k_mimo processes Nsoft layers g room
  unfolding number_with build_down_number build_down_rules build_number build_rules first_of
  number_told room = by_size (bad_size (length a)) refl
    where
      by_size : (t : Bool) → bad_size (length a) ≡ t → number_with a given g room ≡ build_down_number a release k_mimo processes Nsoft layers g room
      by_size true e = simp e
      by_size false e = by_share (ltb given (32 * rows (long B + 4))) refl
        where
          by_share : (t : Bool) → ltb given (32 * rows (long B + 4)) ≡ t → number_with a given g room ≡ build_down_number a release k_mimo processes Nsoft layers g room
          by_share true l = simp (e, buffer_told a release k_mimo processes Nsoft layers e, l)
          by_share false l = simp (e, buffer_told a release k_mimo processes Nsoft layers e, l)

  -- by the segmentation that was found
  module _ {s : Segments} {soft : ℕ} (told : s ≡ segments_for (length a)) (e : soft ≡ share_for s.blocks release k_mimo processes Nsoft layers) where
    share_found : bad_size (length a) ≡ false → soft ≡ given
    share_found good = e ∙ ap (λ (C : ℕ). share_for C release k_mimo processes Nsoft layers) (sized_in (length a) s good told).count

    pub number_found : (room : ℕ) → number_with a soft g room ≡ build_down_number a release k_mimo processes Nsoft layers g room
    unfolding number_with build_down_number build_down_rules first_of
    number_found room = go (bad_size (length a)) refl
      where
        go : (t : Bool) → bad_size (length a) ≡ t → number_with a soft g room ≡ build_down_number a release k_mimo processes Nsoft layers g room
        go true z = simp z
        go false z = ap (λ (k : ℕ). number_with a k g room) (share_found z) ∙ number_told room

    pub share_accepted : (room : ℕ) → build_down_number a release k_mimo processes Nsoft layers g room ≡ 0 → soft ≡ given
    share_accepted room h = share_found (accepted_down a release k_mimo processes Nsoft layers g room h).0.size

  pub refused_down : (out : List ℕ) (refusal : Refusal) → number_of refusal ≡ build_down_number a release k_mimo processes Nsoft layers g (length out)
      → out ≡ build_down_output a release k_mimo processes Nsoft layers g out
  unfolding build_down_output
  refused_down out refusal e = rw (← e, refusal_ne0 refusal)

  pub built_down : (out : List ℕ) {front : List ℕ} → build_down_number a release k_mimo processes Nsoft layers g (length out) ≡ 0
      → front ≡ codeword_in given a g → front ++ drop g.bits out ≡ build_down_output a release k_mimo processes Nsoft layers g out
  unfolding build_down_output
  built_down out h e =
      simp (eq-eqb _ _ h) (ap (λ (l : List ℕ). l ++ drop g.bits out) (e ∙ ap (λ (soft : ℕ). codeword_in soft a g) (share_told a release k_mimo processes Nsoft layers g (length out) h)))
