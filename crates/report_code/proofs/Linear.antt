-- The code is linear: the coded block of two reports added is their blocks added, also as words; a report's word is that of its number.
-- Assumes nothing.
use mathlib.Core.Path.{◌≡◌, refl, sym, ◌∙◌, ap}
use mathlib.Core.List.{List, [], ◌∷◌}
use Prim.Native.Nat.{ℕ, zero, suc, ◌+◌, ◌*◌, ◌%◌, ◌^◌, ◌≤◌, ◌<◌}
use native.Mathlib.Omega.{arith}
use lib.Dec.{lit<}
use lib.Bits.{bit_and, bit_xor, xor_add_and}
use lib.ListN.{length}
use Rattle.laws.specs.Bits.{AreBits}
use Rattle.laws.specs.Lists.{tab, tab_from}
use Rattle.laws.proofs.Bits.{xor_parity, xor_bit_lt}
use Rattle.laws.proofs.Tab.{length_tab, tab_ext}
use Rattle.report_code.specs.Basis.{row}
use Rattle.report_code.specs.Code.{shared, coded_bit, block}
use Rattle.report_code.specs.Words.{number_of, message_bits, word_of}
use Rattle.report_code.proofs.Words.{added, number_added, number_lt, length_message, message_number, message_added, message_shared}

-- ---- one coded bit

shared_added : (a b r : List ℕ) → length a ≡ length b → shared (added a b) r % 2 ≡ (shared a r + shared b r) % 2
unfolding shared added
shared_added [] [] r e = refl
shared_added [] (y ∷ b) r e = absurd (omega arith)
shared_added (x ∷ a) [] r e = absurd (omega arith)
shared_added (x ∷ a) (y ∷ b) [] e = refl
shared_added (x ∷ a) (y ∷ b) (z ∷ r) e =
    let rest : shared (added a b) r % 2 ≡ (shared a r + shared b r) % 2 = shared_added a b r (omega arith) in
    one x y z (shared (added a b) r) (shared a r) (shared b r) rest
  where
    plain : (X A P Q s p q : ℕ) → X + A * 2 ≡ P + Q → s % 2 ≡ (p + q) % 2 → (X + s) % 2 ≡ (P + p + (Q + q)) % 2
    plain X A P Q s p q e h = omega arith

    product : (x y z : ℕ) → bit_xor x y * z + bit_and x y * z * 2 ≡ x * z + y * z
    product x y z =
        let both : (bit_xor x y + bit_and x y * 2) * z ≡ (x + y) * z = ap (λ (t : ℕ). t * z) (xor_add_and x y) in omega (arith, both)

    one : (x y z s p q : ℕ) → s % 2 ≡ (p + q) % 2 → (bit_xor x y * z + s) % 2 ≡ (x * z + p + (y * z + q)) % 2
    one x y z s p q h = plain (bit_xor x y * z) (bit_and x y * z) (x * z) (y * z) s p q (product x y z) h

parity_added : (s p q : ℕ) → s % 2 ≡ (p + q) % 2 → s % 2 ≡ bit_xor (p % 2) (q % 2)
parity_added s p q h = omega (arith, xor_parity (p % 2) (q % 2), xor_bit_lt (p % 2) (q % 2) (omega arith) (omega arith))

coded_added : (a b : List ℕ) (i : ℕ) → length a ≡ length b → coded_bit (added a b) i ≡ bit_xor (coded_bit a i) (coded_bit b i)
unfolding coded_bit
coded_added a b i e = parity_added (shared (added a b) (row i)) (shared a (row i)) (shared b (row i)) (shared_added a b (row i) e)

-- ---- the block

added_tab_from : (i n : ℕ) (f g : ℕ → ℕ) → added (tab_from i n f) (tab_from i n g) ≡ tab_from i n (λ (k : ℕ). bit_xor (f k) (g k))
unfolding tab_from added
added_tab_from i zero f g = refl
added_tab_from i (suc n) f g = ap (λ (l : List ℕ). bit_xor (f i) (g i) ∷ l) (added_tab_from (suc i) n f g)

pub added_tab : (n : ℕ) (f g : ℕ → ℕ) → added (tab n f) (tab n g) ≡ tab n (λ (k : ℕ). bit_xor (f k) (g k))
unfolding tab
added_tab n f g = added_tab_from 0 n f g

pub block_added : (a b : List ℕ) → length a ≡ length b → block (added a b) ≡ added (block a) (block b)
unfolding block
block_added a b e =
    tab_ext 32 (coded_bit (added a b)) (λ (i : ℕ). bit_xor (coded_bit a i) (coded_bit b i)) (λ i h. coded_added a b i e)
    ∙ sym (added_tab 32 (coded_bit a) (coded_bit b))

pub length_block : (o : List ℕ) → length (block o) ≡ 32
unfolding block
length_block o = length_tab 32 (coded_bit o)

pub tab_bits : (i n : ℕ) (f : ℕ → ℕ) → ((k : ℕ) → f k < 2) → AreBits (tab_from i n f)
unfolding tab_from
tab_bits i zero f h k = lit< tt
tab_bits i (suc n) f h zero = h i
tab_bits i (suc n) f h (suc k) = tab_bits (suc i) n f h k

pub block_bits_lem : (o : List ℕ) → AreBits (block o)
unfolding block tab coded_bit
block_bits_lem o = tab_bits 0 32 (coded_bit o) (λ k. omega arith)

-- ---- words

pub word_added : (a b : ℕ) → word_of (bit_xor a b) ≡ bit_xor (word_of a) (word_of b)
unfolding word_of
word_added a b =
    let same : length (message_bits 11 a) ≡ length (message_bits 11 b) = length_message 11 a ∙ sym (length_message 11 b) in
    ap (λ (o : List ℕ). number_of (block o)) (message_added 11 a b)
    ∙ ap number_of (block_added (message_bits 11 a) (message_bits 11 b) same)
    ∙ number_added (block (message_bits 11 a)) (block (message_bits 11 b)) (length_block (message_bits 11 a) ∙ sym (length_block (message_bits 11 b)))
    (block_bits_lem (message_bits 11 a))
    (block_bits_lem (message_bits 11 b))

pub word_lt : (m : ℕ) → word_of m < 4294967296
unfolding word_of
word_lt m = rw (length_block (message_bits 11 m)) at (number_lt (block (message_bits 11 m)) (block_bits_lem (message_bits 11 m)))

-- ---- a message of O bits by 11

pub block_short : (O m : ℕ) → O ≤ 11 → m < 2 ^ O → block (message_bits 11 m) ≡ block (message_bits O m)
unfolding block coded_bit
block_short O m l h =
    tab_ext 32 (coded_bit (message_bits 11 m)) (coded_bit (message_bits O m)) (λ i k. ap (λ (n : ℕ). n % 2) (message_shared O 11 m (row i) l h))

-- a report by its number
pub block_number : (o : List ℕ) → length o ≤ 11 → AreBits o → block (message_bits 11 (number_of o)) ≡ block o
block_number o l h = block_short (length o) (number_of o) l (number_lt o h) ∙ ap block (message_number o h)
