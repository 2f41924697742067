-- Turn after turn of a code block's bits, 01 'Receive' and 02 E2: one turn or less, and turns that meet in a ring.
-- Assumes nothing.
use mathlib.Core.Path.{◌≡◌, refl, sym, ◌∙◌, ap, ap₂}
use mathlib.Core.List.{List, ◌++◌, map}
use Prim.Native.Nat.{ℕ, ◌+◌, ◌-◌, ◌%◌, ◌≤◌, ◌<◌, min}
use native.Mathlib.Nat.{zero-add, zero-mod, mod_self, mod-lt, add-mod_right, add-sub_cancel_left}
use native.Mathlib.Decide.{dec_le}
use native.Mathlib.Omega.{arith}
use lib.Dec.{lit<}
use lib.ListN.{length, get_or, take, drop, length-drop}
use lib.Seq.{take_all, take_at, length-take-le, drop-drop}
use borrow.Rule.Slice.PartMut.{mid_of}
use Rattle.laws.specs.Bits.{AreBits}
use Rattle.laws.specs.Lists.{tab, tab_from}
use Rattle.laws.proofs.AreBits.{take_below, drop_below}
use Rattle.laws.proofs.Parts.{length_mid}
use Rattle.laws.proofs.Tab.{length_tab, length_tab_from, take_tab, get_or_tab, get_or_tab_from, tab_from_ext, map_tab_from, tab_rest}
use Rattle.rate_matching.specs.SubBlocks.{rows}
use Rattle.rate_matching.specs.Circle.{circle_length}
use Rattle.rate_matching.specs.Walk.{itself, turn_after_turn}
use Rattle.rate_matching.specs.Turns.{turn_length}
use Rattle.rate_matching.proofs.Cut.{turn_some}
use Rattle.rate_matching.proofs.WholeTurns.{turn_front, turn_next}
use Rattle.rate_matching.proofs.TurnLength.{turn_long, turn_most}
use Rattle.slots.specs.State.{per_block}
use Rattle.slots.specs.Putting.{put_along}
use Rattle.slots.specs.Room.{agreeing}
use Rattle.slots.proofs.Putting.{length_put}
use Rattle.slots.proofs.Meeting.{known_bit}
use Rattle.bit_placement.specs.Placement.{put_first, turn_in}
use Rattle.bit_placement.specs.inner.Along.{Sends}
use Rattle.bit_placement.proofs.Putting.{along_append, along_few}
use Rattle.bit_placement.proofs.Walking.{sends_matchable}
use Rattle.reception.specs.inner.Ring.{ring_of}
use Rattle.reception.proofs.Ring.{through}

-- ---- how long a turn is

module _ {D F soft v long : ℕ} (w : Sends D F soft v long) where
  turn_is : length (turn_in D F soft v) ≡ turn_length D F soft
  unfolding turn_in
  turn_is = turn_long soft (sends_matchable w)

  pub turn_told : {n : ℕ} → n ≡ turn_length D F soft → n ≡ length (turn_in D F soft v)
  turn_told e = e ∙ sym turn_is

  pub turn_least : 0 < length (turn_in D F soft v)
  unfolding turn_in
  turn_least = turn_some w.walked.least w.walked.filler w.cut w.version

  pub turn_few : length (turn_in D F soft v) ≤ per_block
  unfolding turn_in circle_length rows
  turn_few = omega (arith, turn_most soft (sends_matchable w), w.cut.most, w.walked.most)

-- ---- turn after turn

module _ (ps bits : List ℕ) where
  -- what is still to come from bit i on
  abbrev Rest : ℕ → List ℕ → List ℕ
  Rest i list = put_along agreeing (tab_from i (length bits - i) (turn_after_turn ps)) (drop i bits) list

  module _ (some : 0 < length ps) where
    -- a whole turn
    rest_turn : (i : ℕ) (list : List ℕ) → i % length ps ≡ 0 → i + length ps ≤ length bits → Rest i list ≡ Rest (i + length ps) (put_along agreeing ps (drop i bits) list)
    rest_turn i list w h =
        ap (λ (js : List ℕ). put_along agreeing js (drop i bits) list) (turn_next ps i some w (length bits) h)
        ∙ along_append agreeing ps (tab_from (i + length ps) (length bits - (i + length ps)) (turn_after_turn ps)) (drop i bits) list
        ∙ ap (λ (bs : List ℕ). put_along agreeing (tab_from (i + length ps) (length bits - (i + length ps)) (turn_after_turn ps)) bs (put_along agreeing ps (drop i bits) list)) (drop-drop (length ps) i bits)

    -- the last, or less
    rest_last : (i : ℕ) (list : List ℕ) → i % length ps ≡ 0 → length bits - i ≤ length ps → Rest i list ≡ put_first ps (drop i bits) list
    unfolding put_first
    rest_last i list w h =
        ap (λ (js : List ℕ). put_along agreeing js (drop i bits) list)
        (turn_front ps i some w (length bits - i) h ∙ ap (λ (n : ℕ). take n ps) (sym (length-drop i bits)))

    -- bits for no more than one turn
    pub one_round : length bits ≤ length ps → (part : List ℕ) {part' : List ℕ} → part' ≡ put_first ps bits part → part' ≡ put_along agreeing (tab (length bits) (turn_after_turn ps)) bits part
    one_round few part put =
        put
        ∙ sym (rest_last 0 part (zero-mod (length ps)) (omega arith))
        ∙ ap (λ (js : List ℕ). put_along agreeing js bits part) (tab_rest (length bits) (turn_after_turn ps))

length_ring : (n : ℕ) (bits : List ℕ) → n ≤ length bits → length (ring_of n bits) ≡ n
unfolding ring_of
length_ring n bits few = length_put agreeing _ (drop n bits) (take n bits) ∙ length-take-le n bits few

-- ---- turns that meet in a ring

-- the turns up to bit i have met in the ring
pub record Turning (n : ℕ) (bits ring : List ℕ) (i : ℕ) : Type 0 where
  pub passed : (n ≤ i) × (i ≤ length bits)
  pub whole : i < length bits → i % n ≡ 0
  pub long : length ring ≡ n
  pub told : Rest (tab n itself) bits i ring ≡ ring_of n bits

module _ {n : ℕ} {bits : List ℕ} (few : n ≤ length bits) where
  -- the first turn is copied
  pub turning_start : {ring : List ℕ} → ring ≡ take n bits → Turning n bits ring n
  unfolding ring_of
  turning_start e = record {
    passed = (omega arith, few);
    whole = λ h. mod_self n;
    long = ap length e ∙ length-take-le n bits few;
    told = ap (Rest (tab n itself) bits n) e;
  }

  module _ (some : 0 < n) {ring : List ℕ} {i : ℕ} (t : Turning n bits ring i) where
    places : 0 < length (tab n itself)
    places = rw (length_tab n itself) some

    starts : i < length bits → i % length (tab n itself) ≡ 0
    starts h = rw (length_tab n itself) (t.whole h)

    -- a whole turn more
    turning_whole : {ring' : List ℕ} → n ≤ length bits - i → (let src = mid_of i (i + n - i) bits in ring' ≡ put_first (tab (length src) itself) src ring) → Turning n bits ring' (i + n)
    unfolding put_first
    turning_whole {ring'} h e = record {
      passed = (omega (arith, t.passed), omega (arith, t.passed));
      whole = λ l. add-mod_right i n ∙ t.whole (omega arith);
      long = ap length is ∙ length_put agreeing (tab n itself) (drop i bits) ring ∙ t.long;
      told =
          ap (Rest (tab n itself) bits (i + n)) is
          ∙ ap (λ (m : ℕ). Rest (tab n itself) bits (i + m) (put_along agreeing (tab n itself) (drop i bits) ring)) (sym (length_tab n itself))
          ∙ sym (rest_turn (tab n itself) bits places i ring (starts (omega arith)) (rw (length_tab n itself) (omega (arith, t.passed))))
          ∙ t.told;
    }
      where
        src : List ℕ
        src = mid_of i (i + n - i) bits

        src_long : length src ≡ n
        src_long = length_mid i (i + n) bits (omega (arith, t.passed)) ∙ add-sub_cancel_left i n

        is : ring' ≡ put_along agreeing (tab n itself) (drop i bits) ring
        is =
            e
            ∙ ap (λ (m : ℕ). put_along agreeing (take m (tab m itself)) src ring) src_long
            ∙ ap₂ (λ (js : List ℕ) (m : ℕ). put_along agreeing js (take m (drop i bits)) ring) (take_tab n n itself (omega arith)) (add-sub_cancel_left i n)
            ∙ along_few agreeing (tab n itself) n (drop i bits) ring (omega (arith, length_tab n itself))

    -- what is left is less than one
    turning_last : {ring' : List ℕ} → i < length bits → length bits - i < n → (let src = mid_of i (length bits - i) bits in ring' ≡ put_first (tab (length src) itself) src ring) → ring' ≡ ring_of n bits
    unfolding put_first
    turning_last left h e =
        e
        ∙ ap (λ (l : List ℕ). put_along agreeing (take (length l) (tab (length l) itself)) l ring) (take_all (length bits - i) (drop i bits) (omega (arith, length-drop i bits)))
        ∙ ap (λ (js : List ℕ). put_along agreeing js (drop i bits) ring) (take_tab m m itself (omega arith) ∙ sym (take_tab m n itself (omega (arith, length-drop i bits))))
        ∙ sym (rest_last (tab n itself) bits places i ring (starts left) (rw (length_tab n itself) (omega arith)))
        ∙ t.told
      where
        m : ℕ
        m = length (drop i bits)

    -- the next turn, whole or the last: it comes off the front of what is left
    pub turning_next : {ring' : List ℕ} (x rest : List ℕ) → drop i bits ≡ x ++ rest → length x ≡ min n (length bits - i) → i < length bits
        → ring' ≡ put_first (tab (length x) itself) x ring → Turning n bits ring' (i + length x)
    unfolding tab_from put_along
    turning_next {ring'} x rest split size left e = elim (dec_le n (length bits - i)) [
      | yes h ↦
          let whole : length x ≡ n = omega arith in
          rw whole (turning_whole h (e ∙ ap (λ (l : List ℕ). put_first (tab (length l) itself) l ring) (sym (part n whole))))
      | no h ↦
          let less : length bits - i < n = omega arith in
          let last : length bits - i ≡ length x = omega arith in
          let is : ring' ≡ ring_of n bits = turning_last left less (e ∙ ap (λ (l : List ℕ). put_first (tab (length l) itself) l ring) (sym (ap₂ take last split ∙ take_at x rest (length x) refl))) in
          record {
            passed = (omega (arith, t.passed), omega (arith, t.passed));
            whole = λ l. absurd (omega arith);
            long = ap length is ∙ length_ring n bits few;
            told =
                ap (λ (m : ℕ). put_along agreeing (tab_from (i + length x) m (turn_after_turn (tab n itself))) (drop (i + length x) bits) ring') (none_left less) ∙ is;
          }
    ]
      where
        none_left : length bits - i < n → length bits - (i + length x) ≡ 0
        none_left less = omega arith

        part : (m : ℕ) → length x ≡ m → mid_of i (i + m - i) bits ≡ x
        part m h = ap₂ take (add-sub_cancel_left i m ∙ sym h) split ∙ take_at x rest (length x) refl

-- the ring put as one turn is turn after turn
pub ring_round : (ps bits : List ℕ) {n : ℕ} → n ≡ length ps → 0 < length ps → n ≤ length bits → AreBits bits → (part : List ℕ) {part' : List ℕ} → part' ≡ put_first ps (ring_of n bits) part
    → part' ≡ put_along agreeing (tab (length bits) (turn_after_turn ps)) bits part
unfolding put_first ring_of turn_after_turn itself
ring_round ps bits {n} is some few are part put =
    put
    ∙ ap (λ (js : List ℕ). put_along agreeing js (ring_of n bits) part) (take_all (length (ring_of n bits)) ps (omega (arith, length_ring n bits few)))
    ∙ through ps js (drop n bits) (take n bits) part (length-take-le n bits few ∙ is) inside
    (λ i. known_bit _ (take_below 2 (lit< tt) n bits are i))
    (λ i. known_bit _ (drop_below 2 n bits are i))
    ∙ ap₂ (λ (ks : List ℕ) (l : List ℕ). put_along agreeing ks (drop n bits) l) places (along_few agreeing ps n bits part (omega arith))
    ∙ ap (λ (m : ℕ). Rest ps bits m (put_along agreeing ps bits part)) (is ∙ sym (zero-add (length ps)))
    ∙ sym (rest_turn ps bits some 0 part (zero-mod (length ps)) (omega arith))
    ∙ ap (λ (ks : List ℕ). put_along agreeing ks bits part) (tab_rest (length bits) (turn_after_turn ps))
  where
    js : List ℕ
    js = tab_from n (length bits - n) (turn_after_turn (tab n itself))

    -- bit k comes to entry k % n of the ring
    entry : (k : ℕ) → get_or (tab n itself) (k % length (tab n itself)) 0 ≡ k % length ps
    entry k =
        ap (λ (m : ℕ). get_or (tab n itself) (k % m) 0) (length_tab n itself)
        ∙ get_or_tab n itself (k % n) 0 (mod-lt k (omega (arith, some)))
        ∙ ap (λ (m : ℕ). k % m) is

    inside : (i : ℕ) → i < length js → get_or js i 0 < length ps
    inside i h =
        rw (get_or_tab_from n (length bits - n) (turn_after_turn (tab n itself)) i 0 (omega (arith, length_tab_from n (length bits - n) (turn_after_turn (tab n itself)))), entry (n + i))
        (mod-lt (n + i) some)

    places : map (λ (k : ℕ). get_or ps k 0) js ≡ tab_from n (length bits - n) (turn_after_turn ps)
    places =
        map_tab_from n (length bits - n) (turn_after_turn (tab n itself)) (λ (k : ℕ). get_or ps k 0)
        ∙ tab_from_ext n (length bits - n) _ (turn_after_turn ps) (λ k l m. ap (λ (i : ℕ). get_or ps i 0) (entry k))
