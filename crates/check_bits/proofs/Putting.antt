-- The loop that writes the bits of a remainder over the front of a slice, the highest power first.
-- Assumes nothing.
use mathlib.Core.Path.{◌≡◌, refl}
use mathlib.Core.List.{List, [], ◌∷◌, ◌++◌}
use Prim.Native.Nat.{ℕ, suc, ◌+◌, ◌-◌, ◌/◌, ◌%◌, ◌^◌, ◌≤◌, ◌<◌}
use native.Mathlib.Omega.{arith}
use borrow.Author.Tests.{lt-ltb, le-ltb}
use lib.Bits.{bit_and, and_mask}
use lib.ListN.{length, drop, set, length-set}
use Rattle.laws.specs.Bits.{bits_of}
use Rattle.laws.proofs.Writing as writing
use Rattle.laws.proofs.Writing.{Writing}
use Rattle.check_bits.specs.CheckBits.{crc, check_bits}
use Rattle.check_bits.specs.Put.{put_bits, put_check_bits, put_check_bits16}

pub and_one : (x : ℕ) → bit_and x 1 ≡ x % 2
and_one x = and_mask x 1

-- the bits before `place` are put, and those of the powers below L - place still to come
pub record Putting (L r : ℕ) (out₀ out : List ℕ) (place : ℕ) : Type 0 where
  pub fits : L ≤ length out
  pub small : place ≤ L
  pub told : Writing out₀ out place (bits_of (L - place) r) (bits_of L r)

first : (n r : ℕ) → bits_of (suc n) r ≡ r / 2 ^ n % 2 ∷ bits_of n r
unfolding bits_of
first n r = refl

none : (r : ℕ) → bits_of 0 r ≡ []
unfolding bits_of
none r = refl

pub start : {L r : ℕ} {out : List ℕ} → L ≤ length out → Putting L r out out 0
start {L} {r} {out} h = let whole : L - 0 ≡ L = omega arith in record { fits = h; small = omega arith; told = rw whole writing.start }

pub next : {L r : ℕ} {out₀ out : List ℕ} {place : ℕ} → place < L → Putting L r out₀ out place
    → Putting L r out₀ (set out place (bit_and (r / 2 ^ (L - 1 - place)) 1)) (place + 1)
next {L} {r} {out₀} {out} {place} h w = rw (and_one, one_less) record {
  fits = rw length-set w.fits;
  small = omega arith;
  told = writing.push (omega (arith, w.fits)) (writing.same (first (L - (place + 1)) r) (rw more at w.told));
}
  where
    one_less : L - 1 - place ≡ L - (place + 1)
    one_less = omega arith

    more : L - place ≡ suc (L - (place + 1))
    more = omega arith

pub finish : {L r : ℕ} {out₀ out : List ℕ} → Putting L r out₀ out L → out ≡ put_bits L r out₀
finish {L} {r} {out₀} w =
    let whole : L - L ≡ 0 = omega arith in
    rw (le-ltb (length out₀) L (omega (arith, w.told.long, w.fits))) (writing.finish (none r) (rw whole at w.told))

-- a slice that is too short
pub short : (L r : ℕ) {out : List ℕ} → length out < L → out ≡ put_bits L r out
short L r {out} h = rw (lt-ltb (length out) L h)

-- the check bits of a run of bits, put where there is room for them
pub put_is : (g : ℕ) (bits : List ℕ) {r : ℕ} (out : List ℕ) → r ≡ crc 24 g bits → 24 ≤ length out → put_check_bits r out ≡ check_bits 24 g bits ++ drop 24 out
unfolding put_check_bits check_bits
put_is g bits out e h = rw (le-ltb (length out) 24 h, e)

-- 16 bits, put where there is room for them
pub put_16_is : (r : ℕ) (out : List ℕ) → 16 ≤ length out → put_check_bits16 r out ≡ bits_of 16 r ++ drop 16 out
unfolding put_check_bits16
put_16_is r out h = rw (le-ltb (length out) 16 h)
