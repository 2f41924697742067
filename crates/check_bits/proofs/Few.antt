-- From 8 to 23 bits gathered into a number, eight at a time, the last of them out of a word that begins among the ones before.
-- Assumes nothing.
use mathlib.Core.Path.{◌≡◌, sym, ◌∙◌, ap, ap₂}
use mathlib.Core.List.{List, ◌++◌}
use Prim.Native.Nat.{ℕ, ◌+◌, ◌-◌, ◌*◌, ◌/◌, ◌%◌, ◌^◌, ◌≤◌, ◌<◌}
use native.Mathlib.Nat.{mod-lt}
use native.Mathlib.Omega.{arith}
use lib.Arith.{digits_lt}
use lib.Bits.{bit_or, or_shifted}
use lib.Dec.{lit<, lit≤}
use lib.ListN.{length, take, drop, length-drop, take-append-drop}
use lib.Pow.{pow-add, pow_pos, shl_exact}
use lib.Seq.{take-add, take_all, drop-drop, drop_at}
use Rattle.laws.specs.Bits.{bits_of}
use Rattle.laws.proofs.Bits.{length_bits_of, bits_of_split, bits_of_mod, bits_of_join}
use Rattle.check_bits.specs.inner.Stride.{FewBits, word_of, lowest}
use Rattle.check_bits.proofs.Gathering.{AreBytes, above_one, part, none, below}

-- x has the bits before i
pub record Gathering (bits : List ℕ) (x i : ℕ) : Type 0 where
  pub within : i ≤ length bits
  pub small : x < 2 ^ i
  pub told : take i bits ≡ bits_of i x

module _ {bits : List ℕ} where
  first_eight : (p : ℕ) → 8 ≤ length bits → p < 2 ^ 8 → bits_of 8 p ≡ take 8 (drop 0 bits) → Gathering bits p 8
  first_eight p h l e = record { within = h; small = l; told = sym e }

  next_eight : {x i : ℕ} (p : ℕ) → i + 8 ≤ length bits → p < 2 ^ 8 → bits_of 8 p ≡ take 8 (drop i bits) → Gathering bits x i → Gathering bits (x * 2 ^ 8 + p) (i + 8)
  next_eight {x} {i} p h l e w = record {
    within = h;
    small = rw (pow-add 2 i 8) (digits_lt w.small l);
    told = take-add i 8 bits ∙ ap₂ ◌++◌ w.told (sym e) ∙ sym (bits_of_join i 8 x p l);
  }

  -- the last m are among the last eight
  last_bits : {x i : ℕ} (m p : ℕ) → i + m ≡ length bits → m < 8 → 8 ≤ length bits → bits_of 8 p ≡ take 8 (drop (length bits - 8) bits) → Gathering bits x i
      → FewBits bits (x * 2 ^ m + p % 2 ^ m)
  last_bits {x} {i} m p s few h e w = record {
    small = rw (← s, pow-add 2 i m) (digits_lt w.small (mod-lt p (pow_pos m)));
    told = sym (take-append-drop i bits) ∙ ap₂ ◌++◌ w.told end ∙ sym (bits_of_join i m x (p % 2 ^ m) (mod-lt p (pow_pos m))) ∙ ap (λ (n : ℕ). bits_of n (x * 2 ^ m + p % 2 ^ m)) s;
  }
    where
      place : i ≡ length bits - 8 + (8 - m)
      place = omega arith

      eight : 8 ≡ 8 - m + m
      eight = omega arith

      whole : drop (length bits - 8) bits ≡ bits_of (8 - m) (p / 2 ^ m) ++ bits_of m p
      whole =
          sym (take_all 8 (drop (length bits - 8) bits) (rw (length-drop (length bits - 8) bits) (omega arith)))
          ∙ sym e
          ∙ ap (λ (n : ℕ). bits_of n p) eight
          ∙ bits_of_split (8 - m) m p

      end : drop i bits ≡ bits_of m (p % 2 ^ m)
      end =
          ap (λ (n : ℕ). drop n bits) place
          ∙ sym (drop-drop (8 - m) (length bits - 8) bits)
          ∙ ap (drop (8 - m)) whole
          ∙ drop_at (bits_of (8 - m) (p / 2 ^ m)) (bits_of m p) (8 - m) (length_bits_of (8 - m) (p / 2 ^ m))
          ∙ sym (bits_of_mod m p)

-- a word's bits
pub word_lt : {p : ℕ} (w : ℕ) → p ≡ lowest w → p < 2 ^ 8
word_lt w e = rw e (mod-lt _ (lit< tt))

-- those of two words
two_words : {p s : ℕ} → p < 2 ^ 8 → s < 2 ^ 8 → bit_or (p * 2 ^ 8 % 2 ^ 32) s ≡ p * 2 ^ 8 + s
two_words hp hs = below 8 32 hp (lit≤ tt) hs

pub two_small : {p s : ℕ} → p < 2 ^ 8 → s < 2 ^ 8 → bit_or (p * 2 ^ 8 % 2 ^ 32) s < 2 ^ 16
two_small hp hs = rw (two_words hp hs) (omega (arith, hp, hs))

-- what is gathered: a is the first word, b the second where there is one, z the last
module _ (bits : List ℕ) (h : AreBytes bits) {a z p q : ℕ} (ea : a ≡ word_of (take 8 (drop 0 bits))) (ez : z ≡ word_of (take 8 (drop (length bits - 8) bits)))
    (clear : bit_or (above_one a) (above_one z) ≡ 0) (ep : p ≡ lowest a) (eq : q ≡ lowest z) where
  first : 8 ≤ length bits → Gathering bits p 8
  first l = first_eight p l (word_lt a ep) (part bits h 0 (omega arith) ea (none (above_one a) (above_one z) clear).0 ep)

  last : 8 ≤ length bits → bits_of 8 q ≡ take 8 (drop (length bits - 8) bits)
  last l = part bits h (length bits - 8) (omega arith) ez (none (above_one a) (above_one z) clear).1 eq

  pub below_16 : 8 ≤ length bits → length bits < 16 → {r : ℕ} → r ≡ p * 2 ^ (length bits - 8) + q % 2 ^ (length bits - 8) → FewBits bits r
  below_16 l m e = rw e (last_bits (length bits - 8) q (omega arith) (omega arith) l (last l) (first l))

  pub from_16 : {b s : ℕ} → b ≡ word_of (take 8 (drop 8 bits)) → above_one b ≡ 0 → s ≡ lowest b → 16 ≤ length bits → length bits < 24
      → {r : ℕ} → r ≡ bit_or (p * 2 ^ 8 % 2 ^ 32) s * 2 ^ (length bits - 16) + q % 2 ^ (length bits - 16) → FewBits bits r
  from_16 {b} {s} eb clear' es l m e =
      rw (e, two_words (word_lt a ep) (word_lt b es))
      (last_bits (length bits - 16) q (omega arith) (omega arith) (omega arith) (last (omega arith)) (next_eight s l (word_lt b es) (part bits h 8 l eb clear' es) (first (omega arith))))

-- m bits behind others
unit : (m : ℕ) → m < 8 → 1 * 2 ^ m % 2 ^ 32 ≡ 2 ^ m
unit m l = let small : 1 + m ≤ 32 = omega arith in shl_exact 1 m 32 (lit< tt) small ∙ omega arith

pub unit_some : (m : ℕ) → m < 8 → 0 < 1 * 2 ^ m % 2 ^ 32
unit_some m l = rw (unit m l) (pow_pos m)

pub behind : (x p m : ℕ) → x < 2 ^ 16 → m < 8 → bit_or (x * 2 ^ m % 2 ^ 32) (p % (1 * 2 ^ m % 2 ^ 32)) ≡ x * 2 ^ m + p % 2 ^ m
behind x p m h l =
    let fits : 16 + m ≤ 32 = omega arith in
    rw (shl_exact 16 m 32 h fits, unit m l) (or_shifted x m (p % 2 ^ m) (mod-lt p (pow_pos m)))
