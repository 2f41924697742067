-- Numbers in bytes: the loop over the bytes of one number, the loop over several numbers, and a number read in halves.
-- Assumes nothing.
use mathlib.Core.Path.{◌≡◌, refl, sym, ◌∙◌, ap}
use mathlib.Core.List.{List, [], ◌∷◌, ◌++◌, append-nil}
use Prim.Native.Nat.{ℕ, zero, suc, ◌+◌, ◌-◌, ◌*◌, ◌/◌, ◌%◌, ◌^◌, ◌≤◌, ◌<◌}
use native.Mathlib.Nat.{sub-zero, zero-mul, mul-le-mul_right, div-eq_of_eq-mul_right, pow-suc}
use native.Mathlib.Omega.{arith}
use lib.ListN.{length, drop, get_or, set, drop_of_length-le}
use borrow.Rule.Slice.PartMut.{put_mid}
use Rattle.laws.proofs.Writing as writing
use Rattle.laws.proofs.Writing.{Writing}
use Rattle.state_bytes.specs.Numbers.{low_bytes, in_bytes, numbers_over, number_from}

-- ---- one number over a slice

-- `rest` is the number without the bytes before i
pub record Lowering (number : ℕ) (out₀ out : List ℕ) (rest i : ℕ) : Type 0 where
  pub within : i ≤ length out₀
  pub written : Writing out₀ out i (low_bytes (length out₀ - i) rest) (low_bytes (length out₀) number)

pub low_start : (number : ℕ) (out : List ℕ) → Lowering number out out number 0
low_start number out = record { within = omega arith; written = writing.same (ap (λ (n : ℕ). low_bytes n number) (sym (sub-zero (length out)))) writing.start }

module _ {number : ℕ} {out₀ out : List ℕ} {rest i : ℕ} (h : Lowering number out₀ out rest i) where
  pub low_next : i < length out → Lowering number out₀ (set out i (rest % 256)) (rest / 256) (i + 1)
  unfolding low_bytes
  low_next more = record { within = omega (arith, h.written.long); written = writing.push more (writing.same (ap (λ (n : ℕ). low_bytes n rest) one) h.written) }
    where
      one : length out₀ - i ≡ suc (length out₀ - (i + 1))
      one = omega (arith, h.written.long)

  pub low_finish : length out ≤ i → out ≡ low_bytes (length out₀) number
  unfolding low_bytes
  low_finish end = writing.finish_all end (ap (λ (n : ℕ). low_bytes n rest) none) h.written
    where
      none : length out₀ - i ≡ 0
      none = omega (arith, h.written.long)

-- ---- numbers one after another

-- the numbers from i on stand behind the bytes of those before
pub record Putting (numbers : List ℕ) (width : ℕ) (out₀ out : List ℕ) (i at : ℕ) : Type 0 where
  pub within : i ≤ length numbers
  pub place : at ≡ i * width
  pub room : length numbers * width ≤ length out₀
  pub written : Writing out₀ out at (in_bytes width (drop i numbers)) (in_bytes width numbers)

pub start : (numbers : List ℕ) (width : ℕ) (out : List ℕ) → length numbers * width ≤ length out → Putting numbers width out out 0 0
start numbers width out h = record { within = omega arith; place = omega arith; room = h; written = writing.start }

module _ {numbers : List ℕ} {width : ℕ} {out₀ out : List ℕ} {i at : ℕ} (h : Putting numbers width out₀ out i at) where
  pub fits : i < length numbers → at + width ≤ length out
  fits more = omega (arith, mul-le-mul_right width more, h.place, h.room, h.written.long)

  pub next : {part : List ℕ} {size : ℕ} → i < length numbers → part ≡ low_bytes size (get_or numbers i 0) → size ≡ at + width - at → length part ≡ at + width - at
      → Putting numbers width out₀ (put_mid at (at + width - at) out part) (i + 1) (at + width)
  next {part} {size} more said full long = record {
    within = omega arith;
    place = omega (arith, h.place);
    room = h.room;
    written = writing.push_part (said ∙ ap (λ (n : ℕ). low_bytes n (get_or numbers i 0)) whole) (omega arith) (fits more) long (writing.same one_more h.written);
  }
    where
      whole : size ≡ width
      whole = omega arith

      one_more : in_bytes width (drop i numbers) ≡ low_bytes width (get_or numbers i 0) ++ in_bytes width (drop (i + 1) numbers)
      one_more = unfold in_bytes in rw (writing.drop_next numbers i more) refl

pub finish : {numbers : List ℕ} {width : ℕ} {out₀ out : List ℕ} {i at : ℕ} → Putting numbers width out₀ out i at → length numbers ≤ i
    → out ≡ in_bytes width numbers ++ drop (length numbers * width) out₀
unfolding in_bytes
finish {numbers} {width} {out₀} {out} {i} {at} h end =
    writing.finish (ap (in_bytes width) (drop_of_length-le numbers end)) h.written ∙ ap (λ (n : ℕ). in_bytes width numbers ++ drop n out₀) (h.place ∙ ap (λ (n : ℕ). n * width) all)
  where
    all : i ≡ length numbers
    all = omega (arith, h.within)

-- no numbers, and as many bytes as they need
pub none_over : (xs out : List ℕ) → length xs ≡ 0 → out ≡ numbers_over xs out
unfolding numbers_over in_bytes
none_over [] out e = rw (zero-mul (length out / 0))
none_over (x ∷ xs) out e = absurd (omega arith)

pub whole_over : (n : ℕ) (xs out : List ℕ) → 0 < length xs → length out ≡ length xs * n → numbers_over xs out ≡ in_bytes n xs
unfolding numbers_over
whole_over n xs out some full = rw (div-eq_of_eq-mul_right some full, drop_of_length-le out all) (append-nil (in_bytes n xs))
  where
    all : length out ≤ length xs * n
    all = omega arith

-- ---- reading

-- the first m bytes and the n after them
pub split : (m n : ℕ) (bytes : List ℕ) (at : ℕ) → number_from (m + n) bytes at ≡ number_from m bytes at + 256 ^ m * number_from n bytes (at + m)
unfolding number_from
split zero n bytes at = ap (λ (k : ℕ). number_from k bytes at) none ∙ omega (arith, ap (number_from n bytes) here)
  where
    none : 0 + n ≡ n
    none = omega arith

    here : at + 0 ≡ at
    here = omega arith
split (suc m) n bytes at = ap (λ (k : ℕ). number_from k bytes at) one ∙ rw (pow-suc 256 m) (omega (arith, rw there at (split m n bytes (at + 1))))
  where
    one : suc m + n ≡ suc (m + n)
    one = omega arith

    there : at + 1 + m ≡ at + suc m
    there = omega arith

-- the terms of eight bytes
pub eight_from : (bytes : List ℕ) (at : ℕ) → number_from 8 bytes at
    ≡ get_or bytes at 0
    + 256 * (get_or bytes (at + 1) 0 + 256 * (get_or bytes (at + 2) 0 + 256 * (get_or bytes (at + 3) 0
    + 256 * (get_or bytes (at + 4) 0 + 256 * (get_or bytes (at + 5) 0 + 256 * (get_or bytes (at + 6) 0 + 256 * (get_or bytes (at + 7) 0 + 256 * 0)))))))
unfolding number_from
eight_from bytes at = rw (on 1, on 2, on 3, on 4, on 5, on 6)
  where
    on : (k : ℕ) → at + k + 1 ≡ at + (k + 1)
    on k = omega arith
