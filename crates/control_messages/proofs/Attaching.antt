-- How payload, check and the last six bits are put into their rooms, clause 5.3.3.2 and the start of the register of clause 5.1.3.1.
-- Assumes nothing.
use mathlib.Core.Path.{◌≡◌, sym, ◌∙◌, ap, ap₂}
use mathlib.Core.List.{List, ◌++◌, append_assoc, append-nil}
use Prim.Native.Nat.{ℕ, ◌+◌, ◌-◌, ◌≤◌}
use native.Mathlib.Omega.{arith}
use lib.ListN.{length, take, drop, length-append, length-drop, drop_of_length-le}
use lib.Seq.{take_at, take_all}
use borrow.Rule.Slice.PartMut.{mid_of, put_mid, post_of}
use Rattle.laws.specs.Bits.{◌⊕◌, bits_of}
use Rattle.laws.proofs.Parts.{rest_lent, rest_back}
use Rattle.check_bits.specs.CheckBits.{g_crc16, crc}
use Rattle.check_bits.specs.Put.{put_check_bits16}
use Rattle.check_bits.proofs.Putting.{put_16_is}
use Rattle.control_messages.specs.Attachment.{attached}
use Rattle.control_messages.specs.Working.{with_lead}
use Rattle.control_messages.proofs.Attached.{attached_is}

-- the payload came back in front, and its mixed check behind it
pub attached_put : (a bits : List ℕ) {first second : List ℕ} (t : ℕ) {check : ℕ} → first ≡ a → length bits ≡ length a + 16 → check ≡ crc 16 g_crc16 a ⊕ t
    → second ≡ put_check_bits16 check (mid_of (length a) (length (first ++ drop (length a) bits) - length a) (first ++ drop (length a) bits))
    → put_mid (length a) (length (first ++ drop (length a) bits) - length a) (first ++ drop (length a) bits) second ≡ attached a t
attached_put a bits {first} {second} t {check} e size ec put =
    rest_back first rest (length a) (ap length e) second
    ∙ ap₂ ◌++◌ e (put ∙ put_16_is check mid enough ∙ ap₂ ◌++◌ (ap (bits_of 16) ec) (drop_of_length-le mid few) ∙ append-nil (bits_of 16 (crc 16 g_crc16 a ⊕ t)))
    ∙ sym (attached_is a t)
  where
    rest : List ℕ
    rest = drop (length a) bits

    mid : List ℕ
    mid = mid_of (length a) (length (first ++ rest) - length a) (first ++ rest)

    sixteen : length mid ≡ 16
    sixteen = rest_lent first rest (length a) (ap length e) ∙ length-drop (length a) bits ∙ left
      where
        left : length bits - length a ≡ 16
        left = omega arith

    enough : 16 ≤ length mid
    enough = omega (arith, sixteen)

    few : length mid ≤ 16
    few = omega (arith, sixteen)

-- the last six bits came back in front, and all of them behind
pub led_put : (c rest : List ℕ) (k : ℕ) {first second : List ℕ} → 6 ≤ length c → first ≡ drop (length c - 6) c → second ≡ c
    → take (length c + 6) (put_mid 6 k (first ++ rest) second) ≡ with_lead c
unfolding with_lead
led_put c rest k {first} {second} h e f =
    let post = post_of 6 k (first ++ rest) in
    ap (take (length c + 6)) (ap₂ ◌++◌ (take_at first rest 6 six ∙ e) (ap (λ (l : List ℕ). l ++ post) f) ∙ sym (append_assoc (drop (length c - 6) c) c post))
    ∙ take_at (drop (length c - 6) c ++ c) post (length c + 6) all
  where
    last : length (drop (length c - 6) c) ≡ 6
    last = let left : length c - (length c - 6) ≡ 6 = omega arith in length-drop (length c - 6) c ∙ left

    six : length first ≡ 6
    six = ap length e ∙ last

    all : length (drop (length c - 6) c ++ c) ≡ length c + 6
    all = omega (arith, length-append (drop (length c - 6) c) c, last)

-- the part that holds the last six bits
pub last_part : (c : List ℕ) → take (length c - (length c - 6)) (drop (length c - 6) c) ≡ drop (length c - 6) c
last_part c = take_all (length c - (length c - 6)) (drop (length c - 6) c) (rw length-drop (omega arith))
