-- Turns of a code block's bits that meet in a ring one after another, 02 E2: those that passed, and those that are left.
-- Assumes nothing.
use mathlib.Core.Path.{◌≡◌, refl, sym, ◌∙◌, ap}
use mathlib.Core.List.{List, ◌++◌}
use Prim.Native.Nat.{ℕ, ◌+◌, ◌-◌, ◌≤◌, ◌<◌, min}
use native.Mathlib.Omega.{arith}
use lib.Dec.{lit<}
use lib.ListN.{length, take, drop, length-append, length-drop}
use lib.Seq.{take_all, take_at, drop_at, drop-drop}
use Rattle.laws.specs.Bits.{AreBits}
use Rattle.laws.specs.Lists.{tab, tab_from}
use Rattle.laws.proofs.AreBits.{take_below, drop_below}
use Rattle.rate_matching.specs.Walk.{itself, turn_after_turn}
use Rattle.slots.specs.Putting.{put_along}
use Rattle.slots.specs.Room.{agreeing}
use Rattle.slots.proofs.Meeting.{known_bit}
use Rattle.bit_placement.specs.Placement.{put_first}
use Rattle.reception.specs.inner.Ring.{AllKnown, ring_of}
use Rattle.reception.proofs.Ring.{known_along}
use Rattle.reception.proofs.Rounds.{Turning, turning_start, turning_next}

-- a stretch of bits
known_part : (a k : ℕ) (bits : List ℕ) → AreBits bits → AllKnown (take k (drop a bits))
known_part a k bits h i = known_bit _ (take_below 2 (lit< tt) k (drop a bits) (drop_below 2 a bits h) i)

-- the turns before the bits that are left have met in the ring
pub record Left (n : ℕ) (bits ring rest : List ℕ) : Type 0 where
  pub left : rest ≡ drop (length bits - length rest) bits
  pub turning : Turning n bits ring (length bits - length rest)
  pub known : AllKnown ring

module _ (n : ℕ) (bits : List ℕ) (few : n ≤ length bits) (given : AreBits bits) where
  pub left_start : {ring rest : List ℕ} → ring ≡ take n bits → rest ≡ take (length bits - n) (drop n bits) → Left n bits ring rest
  left_start {ring} {rest} e lent = record {
    left = l ∙ ap (λ (i : ℕ). drop i bits) (sym at);
    turning = rw at (turning_start few e);
    known = rw e (λ i. known_bit _ (take_below 2 (lit< tt) n bits given i));
  }
    where
      l : rest ≡ drop n bits
      l = lent ∙ take_all (length bits - n) (drop n bits) (omega (arith, length-drop n bits))

      at : length bits - length rest ≡ n
      at = omega (arith, ap length l, length-drop n bits)

  module _ (some : 0 < n) {ring rest : List ℕ} (w : Left n bits ring rest) where
    pub left_finish : length rest ≡ 0 → ring ≡ ring_of n bits
    unfolding tab_from put_along
    left_finish none =
        ap (λ (m : ℕ). put_along agreeing (tab_from (length bits - length rest) m (turn_after_turn (tab n itself))) (drop (length bits - length rest) bits) ring) (sym past) ∙ w.turning.told
      where
        past : length bits - (length bits - length rest) ≡ 0
        past = omega arith

    module _ (x rest' : List ℕ) (split : rest ≡ x ++ rest') (size : length x ≡ min n (length rest)) (more : 0 < length rest) where
      abbrev i : ℕ
      i = length bits - length rest

      behind : drop i bits ≡ x ++ rest'
      behind = sym w.left ∙ split

      within : length rest ≤ length bits
      within = omega (arith, ap length w.left, length-drop i bits)

      is_part : take (length x) (drop i bits) ≡ x
      is_part = ap (take (length x)) behind ∙ take_at x rest' (length x) refl

      at : i + length x ≡ length bits - length rest'
      at = omega (arith, ap length split, length-append x rest', within)

      pub turn_ready : (length x ≤ length ring) × AllKnown x × AllKnown ring
      turn_ready = (omega (arith, w.turning.long), rw (← is_part) (known_part i (length x) bits given), w.known)

      pub left_next : {ring' : List ℕ} → ring' ≡ put_first (tab (length x) itself) x ring → Left n bits ring' rest'
      unfolding put_first
      left_next e = record {
        left = sym (drop_at x rest' (length x) refl) ∙ ap (drop (length x)) (sym behind) ∙ drop-drop (length x) i bits ∙ ap (λ (k : ℕ). drop k bits) at;
        turning = rw (← at) (turning_next few some w.turning x rest' behind (omega (arith, within)) (omega (arith, within)) e);
        known = rw e (known_along (take (length x) (tab (length x) itself)) x ring turn_ready.1 w.known);
      }
