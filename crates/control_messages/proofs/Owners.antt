-- Whose a run of payload and check is: exactly one terminal number fits each run of 17 to 80 bits, the one that is worked out; and what is built for a terminal is its own.
-- Assumes nothing.
use mathlib.Core.Path.{◌≡◌, refl, sym, ◌∙◌, ap, ap₂}
use mathlib.Core.List.{List, ◌++◌}
use Prim.Native.Nat.{ℕ, ◌-◌, ◌^◌, ◌≤◌, ◌<◌}
use native.Mathlib.Omega.{arith}
use lib.Bits.{xor_lt}
use lib.ListN.{length, take, drop, length-drop, take-append-drop}
use lib.Seq.{take_at, take_all, drop_at}
use Rattle.laws.specs.Bits.{◌⊕◌, bits_of, AreBits}
use Rattle.laws.proofs.AreBits.{drop_below}
use Rattle.laws.proofs.Bits.{xor_cancel}
use Rattle.check_bits.specs.CheckBits.{g_crc16, crc, crc_from}
use Rattle.check_bits.proofs.Register.{crc_lt}
use Rattle.rate_matching.specs.Columns.{number_of}
use Rattle.control_messages.specs.Attachment.{attached}
use Rattle.control_messages.specs.Ownership.{payload_of, check_of, Fits, owner_of}
use Rattle.control_messages.proofs.Attached.{attached_is, length_attached, number_lt, bits_number, number_of_bits}

-- ---- what is made of a payload for a terminal number

module _ (a : List ℕ) (t : ℕ) (small : t < 65536) where
  long : length (attached a t) - 16 ≡ length a
  long = omega (arith, length_attached a t)

  pub payload_attached : payload_of (attached a t) ≡ a
  unfolding payload_of
  payload_attached = ap₂ (λ (n : ℕ) (l : List ℕ). take n l) long (attached_is a t) ∙ take_at a _ (length a) refl

  check_attached : check_of (attached a t) ≡ bits_of 16 (crc 16 g_crc16 a ⊕ t)
  unfolding check_of
  check_attached = ap₂ (λ (n : ℕ) (l : List ℕ). drop n l) long (attached_is a t) ∙ drop_at a _ (length a) refl

  pub owner_attached : owner_of (attached a t) ≡ t
  unfolding owner_of
  owner_attached =
      ap₂ (λ (p q : List ℕ). crc 16 g_crc16 p ⊕ number_of q) payload_attached check_attached
      ∙ ap (λ (n : ℕ). crc 16 g_crc16 a ⊕ n) (number_of_bits 16 (crc 16 g_crc16 a ⊕ t) (xor_lt 16 _ _ (crc_lt 16 g_crc16 a) small))
      ∙ xor_cancel (crc 16 g_crc16 a) t

-- ---- any run

-- one that fits is the one that is worked out
pub fits_only : (run : List ℕ) (t : ℕ) → Fits run t → t ≡ owner_of run
fits_only run t f = sym (owner_attached (payload_of run) t f.terminal) ∙ ap owner_of (sym f.made)

module _ (run : List ℕ) (long_enough : 16 ≤ length run) (h : AreBits run) where
  check_long : length (check_of run) ≡ 16
  unfolding check_of
  check_long = length-drop (length run - 16) run ∙ left
    where
      left : length run - (length run - 16) ≡ 16
      left = omega arith

  check_bits_lem : AreBits (check_of run)
  unfolding check_of
  check_bits_lem = drop_below 2 (length run - 16) run h

  number_small : number_of (check_of run) < 2 ^ 16
  number_small = rw check_long at (number_lt (check_of run) check_bits_lem)

  whole : payload_of run ++ check_of run ≡ run
  unfolding payload_of check_of
  whole = take-append-drop (length run - 16) run

  -- the one that is worked out fits
  pub fits_owner : Fits run (owner_of run)
  unfolding owner_of
  fits_owner = record {
    terminal = xor_lt 16 (crc 16 g_crc16 (payload_of run)) (number_of (check_of run)) (crc_lt 16 g_crc16 (payload_of run)) number_small;
    made = sym
        (attached_is (payload_of run) (crc 16 g_crc16 (payload_of run) ⊕ number_of (check_of run))
        ∙ ap (λ (n : ℕ). payload_of run ++ bits_of 16 n) (xor_cancel (crc 16 g_crc16 (payload_of run)) (number_of (check_of run)))
        ∙ ap (λ (l : List ℕ). payload_of run ++ l) (ap (λ (n : ℕ). bits_of n (number_of (check_of run))) (sym check_long) ∙ bits_number (check_of run) check_bits_lem)
        ∙ whole);
  }

  -- ---- as it is worked out: the check lies in the last part that is lent

  abbrev part : List ℕ
  part = take (length run - (length run - 16)) (drop (length run - 16) run)

  part_is : part ≡ check_of run
  unfolding check_of
  part_is = take_all (length run - (length run - 16)) (drop (length run - 16) run) (rw length-drop (omega arith))

  pub part_long : length part ≡ 16
  part_long = ap length part_is ∙ check_long

  pub part_bits : AreBits part
  part_bits = rw part_is check_bits_lem

  pub owner_worked : {r s : ℕ} → r ≡ crc_from 16 g_crc16 0 (take (length run - 16) run) → s ≡ number_of part → r ⊕ s ≡ owner_of run
  unfolding owner_of payload_of crc
  owner_worked e f = ap₂ ◌⊕◌ e (f ∙ ap number_of part_is)
