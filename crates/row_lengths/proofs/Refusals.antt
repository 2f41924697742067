-- The number of every refusal is small: 21 is the largest that a call of a log gives back.
-- Assumes nothing.
use mathlib.Core.Path.{◌≡◌, refl}
use mathlib.Core.Bool.{Bool, true, false}
use mathlib.Core.List.{List, [], ◌∷◌}
use Prim.Native.Nat.{ℕ, ◌≤◌}
use native.Mathlib.Omega.{arith}
use lib.Dec.{T, leb}
use borrow.Author.Tests.{leb-true}
use Rattle.refusals.specs.Refusals.{Rule, rule, first_of}
use Rattle.codeword.specs.declared.Grant.{Grant}
use Rattle.codeword.specs.Build.{build_rules, build_number}
use Rattle.codeword.specs.Downlink.{build_down_rules, build_down_number}
use Rattle.slots.specs.declared.State.{State}
use Rattle.slots.specs.State.{bad_shape}
use Rattle.slots.specs.Calls.{store_rules, owner_rules, open_rules, open_number, open_down_number, receive_number, read_number, streams_number, close_number}
use Rattle.packing.specs.Change.{change_number}
use Rattle.forms.specs.Change.{rooms_number}
use Rattle.form_changes.specs.Change.{form_number}

-- no rule has a number above `most`
abbrev up_to : ℕ → List Rule → Bool
up_to most [] = true
up_to most (r ∷ rs) = elim (leb r.number most) [ true ↦ up_to most rs | false ↦ false ]

first_most : (most : ℕ) (rs : List Rule) → T (up_to most rs) → first_of rs ≤ most
unfolding first_of
first_most most [] t = omega arith
first_most most (r ∷ rs) t = go (leb r.number most) refl t (first_most most rs) r.bad
  where
    go : (z : Bool) → leb r.number most ≡ z → T (elim z [ true ↦ up_to most rs | false ↦ false ]) → (T (up_to most rs) → first_of rs ≤ most)
        → (bad : Bool) → elim bad [ true ↦ r.number | false ↦ first_of rs ] ≤ most
    go true e u rest true = leb-true r.number most e
    go true e u rest false = rest u
    go false e u rest bad = absurd u

pub new_most : (S M : ℕ) → first_of (rule (bad_shape S M) 13 ∷ []) ≤ 21
new_most S M = first_most 21 _ tt

module _ (state : State) (room slot : ℕ) where
  pub open_most : (A : ℕ) → open_number state room slot A ≤ 21
  unfolding open_number open_rules store_rules
  open_most A = first_most 21 _ tt

  pub open_down_most : (A release k_mimo processes Nsoft layers : ℕ) → open_down_number state room slot A release k_mimo processes Nsoft layers ≤ 21
  unfolding open_down_number open_rules store_rules
  open_down_most A release k_mimo processes Nsoft layers = first_most 21 _ tt

  module _ (terminal : ℕ) where
    pub receive_most : (Q N v : ℕ) (bits : List ℕ) → receive_number state room slot terminal Q N v bits ≤ 21
    unfolding receive_number store_rules owner_rules
    receive_most Q N v bits = first_most 21 _ tt

    pub read_most : (size : ℕ) → read_number state room slot terminal size ≤ 21
    unfolding read_number store_rules owner_rules
    read_most size = first_most 21 _ tt

    pub streams_most : (r size : ℕ) → streams_number state room slot terminal r size ≤ 21
    unfolding streams_number store_rules owner_rules
    streams_most r size = first_most 21 _ tt

pub close_most : (state : State) (slot terminal : ℕ) → close_number state slot terminal ≤ 21
unfolding close_number owner_rules
close_most state slot terminal = first_most 21 _ tt

pub build_most : (a : List ℕ) (g : Grant) (size : ℕ) → build_number a g size ≤ 21
unfolding build_number build_rules
build_most a g size = first_most 21 _ tt

pub build_down_most : (a : List ℕ) (release k_mimo processes Nsoft layers : ℕ) (g : Grant) (size : ℕ) → build_down_number a release k_mimo processes Nsoft layers g size ≤ 21
unfolding build_down_number build_down_rules
build_down_most a release k_mimo processes Nsoft layers g size = first_most 21 _ tt

pub form_most : (state : State) (plain packed : ℕ) → form_number state plain packed ≤ 21
unfolding form_number rooms_number change_number
form_most state plain packed = first_most 21 _ tt
