-- The whole of clause 5.3.3 from the attached check onward: what the steps make one after another is the message.
-- Assumes nothing.
use mathlib.Core.Path.{◌≡◌, sym, ◌∙◌, ap}
use mathlib.Core.List.{List, [], ◌∷◌}
use Prim.Native.Nat.{ℕ, zero, suc, ◌+◌, ◌/◌, ◌%◌, ◌^◌, ◌≤◌, ◌<◌}
use native.Mathlib.Nat.{mod-lt}
use native.Mathlib.Omega.{arith}
use lib.Dec.{lit<}
use lib.ListN.{length, get_or, take}
use lib.Seq.{get_or-take}
use Rattle.laws.specs.Bits.{AreBits}
use Rattle.laws.specs.Lists.{tab}
use Rattle.laws.proofs.Tab.{get_or_tab}
use Rattle.rate_matching.specs.Walk.{turn_after_turn}
use Rattle.control_messages.specs.Attachment.{attached}
use Rattle.control_messages.specs.TailBiting.{generator0, generator1, generator2, parity_stream}
use Rattle.control_messages.specs.Message.{coded, message}
use Rattle.control_messages.specs.Working.{Sized, with_lead, three, bit_at, in_columns, one_turn}
use Rattle.control_messages.proofs.Encoding.{length_parity_stream, coded_bits}
use Rattle.control_messages.proofs.Matched.{matched_is}
use Rattle.control_messages.proofs.Attached.{length_attached, attached_bits}

-- only seven entries count
three_same : (e f : List ℕ) (n k : ℕ) → ((j : ℕ) → j < n → get_or e j 0 ≡ get_or f j 0) → k + 6 < n → three e k ≡ three f k
unfolding three
three_same e f n k h l =
    rw (h (k + 6) l, h (k + 5) (omega arith), h (k + 4) (omega arith), h (k + 3) (omega arith), h (k + 2) (omega arith), h (k + 1) (omega arith), h k (omega arith))

-- a list whose entries are bits
entries_bits : (l : List ℕ) → ((i : ℕ) → i < length l → get_or l i 0 < 2) → AreBits l
entries_bits [] h i = omega arith
entries_bits (x ∷ l) h zero = h 0 (omega arith)
entries_bits (x ∷ l) h (suc i) = entries_bits l (λ k q. h (suc k) (omega arith)) i

-- the parity streams of bits are bits
module _ (c : List ℕ) (long : 6 ≤ length c) (h : AreBits c) where
  pub streams_bits : AreBits (parity_stream generator0 c) × AreBits (parity_stream generator1 c) × AreBits (parity_stream generator2 c)
  streams_bits = (
    entries_bits (parity_stream generator0 c) (λ i l. rw (← (coded_bits c long h i (rw length_parity_stream at l)).0) (mod-lt _ (lit< tt))),
    entries_bits (parity_stream generator1 c) (λ i l. rw (← (coded_bits c long h i (rw length_parity_stream at l)).1) (mod-lt _ (lit< tt))),
    entries_bits (parity_stream generator2 c) (λ i l. rw (← (coded_bits c long h i (rw length_parity_stream at l)).2) (mod-lt _ (lit< tt))),
  )

-- what is sent of D bits c that lead in `led`, coded as x
pub coded_is : (c led : List ℕ) {x : List ℕ} → Sized (length c) → AreBits c → take (length c + 6) led ≡ with_lead c → x ≡ tab 80 (three led) → (E : ℕ)
    → tab E (turn_after_turn (one_turn (length c) (in_columns (length c) x))) ≡ coded c E
unfolding coded bit_at
coded_is c led {x} z h front e E =
    let bits = streams_bits c long h in
    sym
    (matched_is z (parity_stream generator0 c) (parity_stream generator1 c) (parity_stream generator2 c)
    (length_parity_stream generator0 c) (length_parity_stream generator1 c) (length_parity_stream generator2 c)
    bits.0 bits.1 bits.2 x
    (λ k l. at 0 k l ∙ (coded_bits c long h k l).0)
    (λ k l. at 1 k l ∙ (coded_bits c long h k l).1)
    (λ k l. at 2 k l ∙ (coded_bits c long h k l).2)
    E)
  where
    long : 6 ≤ length c
    long = omega (arith, z.least)

    same : (k : ℕ) → k < length c → three led k ≡ three (with_lead c) k
    same k l =
        three_same led (with_lead c) (length c + 6) k
        (λ j q. sym (get_or-take (length c + 6) led j 0 q) ∙ ap (λ (r : List ℕ). get_or r j 0) front)
        (omega arith)

    at : (s k : ℕ) → k < length c → bit_at x s k ≡ three (with_lead c) k / 2 ^ s % 2
    at s k l = ap (λ (y : ℕ). y / 2 ^ s % 2) (ap (λ (r : List ℕ). get_or r k 0) e ∙ get_or_tab 80 (three led) k 0 (omega (arith, z.most)) ∙ same k l)

pub message_is : (a : List ℕ) (t E : ℕ) (led : List ℕ) {x out : List ℕ} → Sized (length a + 16) → AreBits a → take (length a + 22) led ≡ with_lead (attached a t)
    → x ≡ tab 80 (three led) → out ≡ tab E (turn_after_turn (one_turn (length a + 16) (in_columns (length a + 16) x))) → out ≡ message a t E
unfolding message
message_is a t E led {x} z h front e sent =
    let long : length (attached a t) ≡ length a + 16 = length_attached a t in
    let more : length (attached a t) + 6 ≡ length a + 22 = omega arith in
    sent
    ∙ ap (λ (d : ℕ). tab E (turn_after_turn (one_turn d (in_columns d x)))) (sym long)
    ∙ coded_is (attached a t) led (rw long z) (attached_bits a t h) (rw more front) e E
