-- Laws of the heads, 01 'Slots': what it means that no head is broken, and a state with another head for one slot.
-- Assumes nothing.
use mathlib.Core.Path.{◌≡◌, refl, ◌∙◌, ap, ap₂}
use mathlib.Core.Bool.{Bool, true, false, ◌||◌}
use mathlib.Core.List.{List, [], ◌∷◌}
use Prim.Native.Nat.{ℕ, zero, suc, ◌+◌, ◌≤◌, ◌<◌}
use native.Mathlib.Decide.{dec_lt, ℕ_discrete}
use native.Mathlib.Omega.{arith}
use lib.ListN.{length, get_or, replicate, get_or-replicate, get_or-eq_default}
use lib.Seq.{get_or-set_same, get_or-set_other, set_out}
use borrow.Author.Tests.{le-ltb}
use Rattle.segmentation.specs.Segmentation.{blocks}
use Rattle.segmentation.specs.Sizes.{bad_size}
use Rattle.codeword.specs.Downlink.{too_short}
use Rattle.segmentation.proofs.Segmentation.{good_size}
use Rattle.slots.specs.declared.Head.{Head}
use Rattle.slots.specs.declared.State.{State}
use Rattle.slots.specs.State.{closed_head, open_head, new_state, head_at, too_many, broken, some_broken, bad_shape, bad_state}
use Rattle.slots.specs.Calls.{with_head, size_at_head}
use Rattle.slots.proofs.Tests.{or_left, or_right}
use Rattle.slots.proofs.Heads.{closed_unbroken, unbroken}
use Rattle.slots.proofs.Accepted.{Fitting, good}

-- ---- broken heads

-- a head that is open for an A that fits, with a share that is long enough
pub fitting_unbroken : {M A : ℕ} (terminal soft : ℕ) → Fitting M A → too_short soft (A + 24) (blocks (A + 24)) ≡ false → broken M (open_head terminal A soft) ≡ false
unfolding broken too_many
fitting_unbroken {M} {A} terminal soft f e =
    ap₂ (λ (a b : Bool). a || b) (good_size A f.size_some f.size_most) (ap₂ (λ (a b : Bool). a || b) (le-ltb M (blocks (A + 24)) f.few) e)

all_unbroken : (M n : ℕ) (hs : List Head) → ((i : ℕ) → i < n → broken M (get_or hs i closed_head) ≡ false) → some_broken M n hs ≡ false
unfolding some_broken
all_unbroken M zero hs f = refl
all_unbroken M (suc n) [] f = refl
all_unbroken M (suc n) (h ∷ hs) f = ap₂ (λ (a b : Bool). a || b) (f 0 (omega arith)) (all_unbroken M n hs (λ i l. f (suc i) (omega arith)))

-- ---- a state that is not refused

good_head : (state : State) → bad_state state ≡ false → (slot : ℕ) → slot < state.slots → broken state.blocks (head_at state slot) ≡ false
unfolding bad_state head_at
good_head state e slot l =
    unbroken state.blocks state.slots slot state.heads (or_right (bad_shape state.slots state.blocks) _ e) l

-- an open slot's A is in range and its code blocks find room
pub open_size : (state : State) → bad_state state ≡ false → (slot : ℕ) → slot < state.slots → (head_at state slot).opened ≡ true
    → (bad_size (size_at_head state slot) ≡ false) × (blocks (size_at_head state slot + 24) ≤ state.blocks)
open_size state e slot l o =
    let f = (good state e).fits slot l o in
    (good_size (size_at_head state slot) f.size_some f.size_most, f.few)

pub good_state : (state : State) → bad_shape state.slots state.blocks ≡ false
    → ((slot : ℕ) → slot < state.slots → broken state.blocks (head_at state slot) ≡ false) → bad_state state ≡ false
unfolding bad_state head_at
good_state state e f = ap₂ (λ (a b : Bool). a || b) e (all_unbroken state.blocks state.slots state.heads f)

-- ---- another head for one slot

pub other_head : (state : State) (slot : ℕ) (h : Head) (other : ℕ) → (other ≡ slot → ⊥) → head_at (with_head state slot h) other ≡ head_at state other
unfolding head_at with_head
other_head state slot h other n = get_or-set_other state.heads slot other h closed_head n

pub its_head : (state : State) (slot : ℕ) (h : Head) → slot < length state.heads → head_at (with_head state slot h) slot ≡ h
unfolding head_at with_head
its_head state slot h l = get_or-set_same state.heads slot h closed_head l

pub no_head : (state : State) (slot : ℕ) (h : Head) → length state.heads ≤ slot → head_at (with_head state slot h) slot ≡ closed_head
unfolding head_at with_head
no_head state slot h l =
    ap (λ (hs : List Head). get_or hs slot closed_head) (set_out state.heads slot h l) ∙ get_or-eq_default state.heads closed_head l

pub closed_head_lem : (state : State) (slot : ℕ) → head_at (with_head state slot closed_head) slot ≡ closed_head
closed_head_lem state slot = elim (dec_lt slot (length state.heads)) [
  | yes l ↦ its_head state slot closed_head l
  | no l ↦ no_head state slot closed_head (omega arith)
]

pub good_with : (state : State) (slot : ℕ) (h : Head) → bad_state state ≡ false → broken state.blocks h ≡ false
    → bad_state (with_head state slot h) ≡ false
unfolding with_head bad_state
good_with state slot h e u = good_state (with_head state slot h) (or_left (bad_shape state.slots state.blocks) _ e) each
  where
    this : broken state.blocks (head_at (with_head state slot h) slot) ≡ false
    this = elim (dec_lt slot (length state.heads)) [
      | yes l ↦ rw (its_head state slot h l) u
      | no l ↦ rw (no_head state slot h (omega arith)) (closed_unbroken state.blocks)
    ]

    each : (s : ℕ) → s < state.slots → broken state.blocks (head_at (with_head state slot h) s) ≡ false
    each s l = elim (ℕ_discrete s slot) [
      | yes same ↦ rw same this
      | no other ↦ rw (other_head state slot h s other) (good_head state e s l)
    ]

-- ---- a new state

pub new_head : (S M slot : ℕ) → head_at (new_state S M) slot ≡ closed_head
unfolding head_at new_state
new_head S M slot = elim (dec_lt slot 8) [
  | yes l ↦ get_or-replicate 8 slot closed_head closed_head l
  | no l ↦ get_or-eq_default (replicate 8 closed_head) closed_head {n = slot} (omega arith)
]

pub good_new : (S M : ℕ) → bad_shape S M ≡ false → bad_state (new_state S M) ≡ false
unfolding new_state
good_new S M e = good_state (new_state S M) e (λ slot l. rw (new_head S M slot) (closed_unbroken M))
