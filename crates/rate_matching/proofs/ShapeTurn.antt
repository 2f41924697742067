-- The shape of a code block's circle and one turn round it, clause 5.1.4.1.2: the places that hold a bit one by one, the two parts of a turn, and how long the circle is.
-- Assumes nothing.
use mathlib.Core.Path.{◌≡◌, sym, ◌∙◌, ap}
use mathlib.Core.Bool.{true, false}
use mathlib.Core.List.{List, [], ◌∷◌, ◌++◌}
use Prim.Native.Nat.{ℕ, ◌+◌, ◌-◌, ◌≤◌, ◌<◌}
use lib.ListN.{length, length-replicate}
use Rattle.laws.specs.Lists.{tab, tab_from, keep}
use Rattle.laws.proofs.Tab.{tab_rest, rest_more, rest_none}
use Rattle.laws.proofs.Keep.{keep_yes, keep_no, keep_append}
use Rattle.turbo.specs.Streams.{without_filler}
use Rattle.turbo.proofs.Streams.{length_without_filler}
use Rattle.rate_matching.specs.SubBlocks.{rows}
use Rattle.rate_matching.specs.Circle.{circle_length}
use Rattle.rate_matching.specs.Walk.{holds_bit, itself, round, turn}
use Rattle.rate_matching.specs.Shape.{blank, shape, bit_places}
use Rattle.rate_matching.proofs.Circle.{length_circle}

-- ---- the places that hold a bit, one by one

module _ (w : List ℕ) (j end : ℕ) where
  pub bit_places_more : j < end → holds_bit w j ≡ true → bit_places w j end ≡ j ∷ bit_places w (j + 1) end
  unfolding bit_places itself
  bit_places_more h t = ap (keep (holds_bit w)) (rest_more j end itself h) ∙ keep_yes (holds_bit w) j (tab_from (j + 1) (end - (j + 1)) itself) t

  pub bit_places_less : j < end → holds_bit w j ≡ false → bit_places w j end ≡ bit_places w (j + 1) end
  unfolding bit_places itself
  bit_places_less h t = ap (keep (holds_bit w)) (rest_more j end itself h) ∙ keep_no (holds_bit w) j (tab_from (j + 1) (end - (j + 1)) itself) t

  pub bit_places_none : end ≤ j → bit_places w j end ≡ []
  unfolding bit_places keep
  bit_places_none h = ap (keep (holds_bit w)) (rest_none j end itself h)

-- ---- the two parts of a turn

pub turn_parts : (w : List ℕ) (k0 : ℕ) → turn w k0 ≡ bit_places w k0 (length w) ++ bit_places w 0 k0
unfolding turn round bit_places
turn_parts w k0 =
    keep_append (holds_bit w) (tab_from k0 (length w - k0) itself) (tab k0 itself)
    ∙ ap (λ (l : List ℕ). keep (holds_bit w) (tab_from k0 (length w - k0) itself) ++ keep (holds_bit w) l) (sym (tab_rest k0 itself))

-- ---- the circle of a code block

module _ (D F : ℕ) (few : F ≤ D) where
  pub blanks : length (blank D) ≡ D
  unfolding blank
  blanks = length-replicate {A = ℕ} D 0

  pub stream : length (without_filler F (blank D)) ≡ D
  stream = length_without_filler F (blank D) (rw blanks few) ∙ blanks

  pub length_shape : length (shape D F) ≡ circle_length (rows D)
  unfolding shape
  length_shape = length_circle D (without_filler F (blank D)) (without_filler F (blank D)) (blank D) stream stream blanks
