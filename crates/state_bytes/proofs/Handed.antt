-- The promises of a state that a C caller keeps as bytes: the bytes of a state stand for it, what New, Open and Close leave in them
-- stands for the state that the call returns, and bytes that are no state meet number 13.
-- Assumes nothing.
use mathlib.Core.Path.{◌≡◌, refl, sym, ◌∙◌, ap, ap₂}
use mathlib.Core.Bool.{Bool, true, false, cond, ◌||◌}
use mathlib.Core.List.{List, [], ◌∷◌, ◌++◌, append_assoc}
use Prim.Native.Nat.{ℕ, ◌+◌, ◌*◌, ◌^◌, ◌≤◌, ◌<◌}
use native.Mathlib.Nat.{le_trans, div-le_self}
use native.Mathlib.Omega.{arith}
use borrow.Author.Tests.{lt-ltb, le-ltb, eqb-true}
use lib.Dec.{eqb, ltb}
use lib.ListN.{length, take, drop, get_or, length-append, get_or-replicate}
use lib.Seq.{length-take-le}
use Rattle.refusals.specs.Refusals.{rule, first_of}
use Rattle.segmentation.specs.Segmentation.{blocks}
use Rattle.rate_matching.specs.SoftBuffer.{n_ir, soft_share, whole_share}
use Rattle.slots.specs.declared.Head.{Head}
use Rattle.slots.specs.declared.State.{State}
use Rattle.slots.specs.Outcome.{Done, Refused}
use Rattle.slots.specs.Outcome.{Outcome}
use Rattle.slots.specs.State.{closed_head, open_head, new_state, head_at, bad_shape, bad_state}
use Rattle.slots.specs.Answers.{number_of, unless_refused}
use Rattle.slots.specs.Calls.{with_head, size_at_head, new_outcome, open_number, open_outcome, open_down_number, open_down_outcome, close_number, close_outcome}
use Rattle.slots.proofs.Accepted.{good_shape, openable, down_open, good}
use Rattle.slots.proofs.HeadLaws.{its_head}
use Rattle.state_bytes.specs.Numbers.{in_bytes, number_from}
use Rattle.state_bytes.specs.StateBytes.{state_length, head_numbers, heads_numbers, state_bytes, head_of, head_from, heads_from, state_in, head_start, with_head_bytes, bytes_after, new_bytes}
use Rattle.state_bytes.proofs.Back.{numbers_back, length_in, in_append}
use Rattle.state_bytes.proofs.Heads.{Fits, over, head_behind, length_head, length_over, number_before, heads_put, heads_back, length_heads, head_there}
use Rattle.state_bytes.proofs.Finished.{Whole, head_room, open_whole, down_whole, close_whole}

-- ---- there and back

-- eight heads, and every number fits its bytes: every state that a call is handed or returns
pub record Kept (s : State) : Type 0 where
  pub slots : s.slots < 256 ^ 8
  pub blocks : s.blocks < 256 ^ 8
  pub eight : length s.heads ≡ 8
  pub heads : (i : ℕ) (d : Head) → i < 8 → Fits (get_or s.heads i d)

length_numbers : (hs : List Head) → length (heads_numbers hs) ≡ 4 * length hs
unfolding heads_numbers head_numbers
length_numbers [] = refl
length_numbers (h ∷ hs) = omega (arith, length_numbers hs)

-- the numbers of a state, and the bytes of S and M
abbrev all : State → List ℕ
all s = s.slots ∷ s.blocks ∷ heads_numbers s.heads

abbrev front : State → List ℕ
front s = in_bytes 8 (s.slots ∷ s.blocks ∷ [])

-- whatever stands past the 272 bytes
pub state_back : (s : State) (rest : List ℕ) → Kept s → state_in (state_bytes s ++ rest) ≡ s
unfolding state_in state_bytes
state_back s rest k = rw (le-ltb (length (in_bytes 8 (all s) ++ rest)) state_length long, first, second, third)
  where
    long : state_length ≤ length (in_bytes 8 (all s) ++ rest)
    long = omega (arith, length-append (in_bytes 8 (all s)) rest, length_in 8 (all s), length_numbers s.heads, k.eight)

    first : number_from 8 (in_bytes 8 (all s) ++ rest) 0 ≡ s.slots
    first = numbers_back 8 (all s) rest 0 (omega arith) k.slots

    second : number_from 8 (in_bytes 8 (all s) ++ rest) 8 ≡ s.blocks
    second = numbers_back 8 (all s) rest 1 (omega arith) k.blocks

    behind : in_bytes 8 (all s) ++ rest ≡ front s ++ (in_bytes 8 (heads_numbers s.heads) ++ rest)
    behind = ap (λ (l : List ℕ). l ++ rest) (in_append 8 (s.slots ∷ s.blocks ∷ []) (heads_numbers s.heads)) ∙ append_assoc (front s) (in_bytes 8 (heads_numbers s.heads)) rest

    third : heads_from (in_bytes 8 (all s) ++ rest) 16 8 ≡ s.heads
    third =
        ap (λ (l : List ℕ). heads_from l 16 8) behind
        ∙ ap₂ (heads_from (front s ++ (in_bytes 8 (heads_numbers s.heads) ++ rest))) (sym (length_in 8 (s.slots ∷ s.blocks ∷ []))) (sym k.eight)
        ∙ heads_back s.heads (front s) rest (λ i d l. k.heads i d (omega (arith, k.eight)))

-- ---- another head for a slot

pub with_head_lem : (bytes : List ℕ) (slot : ℕ) (h : Head) → Whole bytes slot → Fits h → state_in (with_head_bytes bytes slot h) ≡ with_head (state_in bytes) slot h
unfolding state_in with_head_bytes with_head head_start
with_head_lem bytes slot h w f =
    rw (
      le-ltb (length bytes) state_length w.long,
      le-ltb 7 slot (omega (arith, w.below)),
      le-ltb (length (over bytes (16 + 32 * slot) (in_bytes 8 (head_numbers h)))) state_length (omega (arith, same, w.long)),
      number_before bytes (in_bytes 8 (head_numbers h)) (16 + 32 * slot) room size 8 0 (omega arith),
      number_before bytes (in_bytes 8 (head_numbers h)) (16 + 32 * slot) room size 8 8 (omega arith),
      heads_put bytes (in_bytes 8 (head_numbers h)) (16 + 32 * slot) room size 8 slot 16 refl w.below,
      its,
    )
  where
    room : (16 + 32 * slot) + 32 ≤ length bytes
    room = head_room w

    size : length (in_bytes 8 (head_numbers h)) ≡ 32
    size = length_head h

    same : length (over bytes (16 + 32 * slot) (in_bytes 8 (head_numbers h))) ≡ length bytes
    same = length_over bytes (in_bytes 8 (head_numbers h)) (16 + 32 * slot) room size

    its : head_from (over bytes (16 + 32 * slot) (in_bytes 8 (head_numbers h))) (16 + 32 * slot) ≡ h
    its =
        ap (head_from (over bytes (16 + 32 * slot) (in_bytes 8 (head_numbers h)))) (sym (length-take-le (16 + 32 * slot) bytes (omega (arith, room))))
        ∙ head_behind (take (16 + 32 * slot) bytes) h (drop ((16 + 32 * slot) + 32) bytes) f

-- ---- what a call leaves

-- of any bytes there are eight heads
eight_heads : (bytes : List ℕ) → length (state_in bytes).heads ≡ 8
unfolding state_in new_state
eight_heads bytes = go (ltb (length bytes) state_length)
  where
    go : (b : Bool) → length (cond b (new_state 0 0) (record { slots = number_from 8 bytes 0; blocks = number_from 8 bytes 8; heads = heads_from bytes 16 8 })).heads ≡ 8
    go true = refl
    go false = length_heads bytes 16 8

-- Open and Close: another head where the call is accepted
handed_on : (bytes : List ℕ) (slot n : ℕ) (h : Head) → (n ≡ 0 → Whole bytes slot) → (n ≡ 0 → Fits h)
    → let o = unless_refused n (state_in bytes) (record { answer = Done; state = with_head (state_in bytes) slot h }) in
    state_in (bytes_after o slot bytes) ≡ o.state
unfolding bytes_after unless_refused number_of
handed_on bytes slot n h whole fits = go (eqb n 0) refl
  where
    go : (b : Bool) → eqb n 0 ≡ b
        → let o = cond {A = Outcome} b (record { answer = Done; state = with_head (state_in bytes) slot h }) (record { answer = Refused n; state = state_in bytes }) in
        state_in (cond (eqb (number_of o.answer) 0) (with_head_bytes bytes slot (head_at o.state slot)) bytes) ≡ o.state
    go true e =
        let z = eqb-true n 0 e in
        ap (λ (x : Head). state_in (with_head_bytes bytes slot x)) (its_head (state_in bytes) slot h (omega (arith, eight_heads bytes, (whole z).below)))
        ∙ with_head_lem bytes slot h (whole z) (fits z)
    go false e = rw e

-- a state without an open slot
kept : (S M : ℕ) → S < 256 ^ 8 → M < 256 ^ 8 → Kept (new_state S M)
unfolding new_state closed_head
kept S M s m = record {
  slots = s;
  blocks = m;
  eight = refl;
  heads = λ i d l. rw (get_or-replicate 8 i closed_head d l) (record { terminal = omega arith; size = omega arith; share = omega arith });
}

kept_new : (S M : ℕ) → Kept (new_outcome S M).state
unfolding new_outcome unless_refused first_of
kept_new S M = go (bad_shape S M) refl
  where
    go : (b : Bool) → bad_shape S M ≡ b → Kept (unless_refused (first_of (rule b 13 ∷ [])) (new_state 0 0) (record { answer = Done; state = new_state S M })).state
    go true e = kept 0 0 (omega arith) (omega arith)
    go false e = let shape = good_shape e in kept S M (omega (arith, shape.slots_most)) (omega (arith, shape.blocks_most))

module _ (bytes : List ℕ) where
  pub open_handed : (room slot terminal A : ℕ) → terminal < 65536
      → state_in (bytes_after (open_outcome (state_in bytes) room slot terminal A) slot bytes) ≡ (open_outcome (state_in bytes) room slot terminal A).state
  unfolding open_outcome
  open_handed room slot terminal A t =
      handed_on bytes slot (open_number (state_in bytes) room slot A) (open_head terminal A whole_share) (open_whole bytes room slot A)
      (λ z. let fit = (openable (state_in bytes) room slot A refl z).size_fits in
      record { terminal = t; size = omega (arith, fit.size_most); share = omega arith })

  pub down_handed : (room slot terminal A release k_mimo processes Nsoft layers : ℕ) → terminal < 65536 → Nsoft < 256 ^ 8
      → state_in (bytes_after (open_down_outcome (state_in bytes) room slot terminal A release k_mimo processes Nsoft layers) slot bytes)
      ≡ (open_down_outcome (state_in bytes) room slot terminal A release k_mimo processes Nsoft layers).state
  unfolding open_down_outcome soft_share n_ir
  down_handed room slot terminal A release k_mimo processes Nsoft layers t s =
      handed_on bytes slot (open_down_number (state_in bytes) room slot A release k_mimo processes Nsoft layers)
      (open_head terminal A (soft_share (blocks (A + 24)) release k_mimo processes Nsoft layers)) (down_whole bytes room slot A release k_mimo processes Nsoft layers)
      (λ z. let fit = (openable (state_in bytes) room slot A refl (down_open (state_in bytes) room slot A release k_mimo processes Nsoft layers z)).size_fits in
      record { terminal = t; size = omega (arith, fit.size_most); share = omega (arith, small) })
    where
      small : soft_share (blocks (A + 24)) release k_mimo processes Nsoft layers ≤ Nsoft
      small = le_trans (div-le_self _ _) (div-le_self _ _)

  pub close_handed : (slot terminal : ℕ) → state_in (bytes_after (close_outcome (state_in bytes) slot terminal) slot bytes) ≡ (close_outcome (state_in bytes) slot terminal).state
  unfolding close_outcome closed_head
  close_handed slot terminal =
      handed_on bytes slot (close_number (state_in bytes) slot terminal) closed_head (close_whole bytes slot terminal)
      (λ z. record { terminal = omega arith; size = omega arith; share = omega arith })

  -- New, where the bytes are enough: also with 13
  pub new_handed : (S M : ℕ) → state_length ≤ length bytes → state_in (new_bytes S M bytes) ≡ (new_outcome S M).state
  unfolding new_bytes
  new_handed S M long = rw (le-ltb (length bytes) state_length long) (state_back (new_outcome S M).state (drop state_length bytes) (kept_new S M))

  -- ---- bytes that are no state

  pub short_refused : length bytes < state_length → bad_state (state_in bytes) ≡ true
  unfolding state_in new_state bad_state bad_shape
  short_refused l = rw (lt-ltb (length bytes) state_length l)

  -- a flag above 1 or a terminal above 65,535 in a head below S
  pub head_refused : (slot : ℕ) → slot < (state_in bytes).slots → state_length ≤ length bytes
      → (ltb 1 (number_from 8 bytes (head_start slot)) || ltb 65535 (number_from 8 bytes (head_start slot + 8))) ≡ true → bad_state (state_in bytes) ≡ true
  unfolding size_at_head head_at state_in head_from head_of head_start
  head_refused slot below long wrong = go (bad_state (state_in bytes)) refl
    where
      there : slot < 8 → head_at (state_in bytes) slot ≡ open_head 0 0 0
      there l = rw (le-ltb (length bytes) state_length long) (head_there bytes 16 8 slot closed_head l ∙ rw wrong)

      go : (b : Bool) → bad_state (state_in bytes) ≡ b → b ≡ true
      go true e = refl
      go false e =
          let sound = good (state_in bytes) e in
          let head = there (omega (arith, below, sound.shape.slots_most)) in
          absurd (omega (arith, (sound.fits slot below (ap (λ (h : Head). h.opened) head)).size_some, ap (λ (h : Head). h.size) head))
