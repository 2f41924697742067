-- A list after its tail was lent as `&mut s[a..]` and came back: what was lent, what the whole then is, and what the three writes
-- of a code block make of it.
-- Assumes nothing.
use mathlib.Core.Path.{◌≡◌, ◌∙◌, ap}
use mathlib.Core.Bool.{cond}
use mathlib.Core.List.{List, [], ◌++◌, append-nil}
use Prim.Native.Nat.{ℕ, ◌+◌, ◌-◌, ◌≤◌}
use native.Mathlib.Omega.{arith}
use lib.ListN.{length, take, drop, replicate, length-append, length-drop, length-replicate, drop_of_length-le}
use lib.Seq.{take_all, take_at, drop_at, drop-drop, drop-length, length-take-le}
use lib.Dec.{ltb}
use borrow.Rule.Slice.PartMut.{mid_of, put_mid}
use Rattle.laws.proofs.Parts.{put_is}
use Rattle.laws.specs.Bits.{bits_of}
use Rattle.check_bits.specs.Put.{put_check_bits}

pub tail_lent : (a : ℕ) (xs : List ℕ) → mid_of a (length xs - a) xs ≡ drop a xs
tail_lent a xs = take_all (length xs - a) (drop a xs) (rw (length-drop a xs) (omega arith))

tail_back : (a : ℕ) (xs ys : List ℕ) → a ≤ length xs → put_mid a (length xs - a) xs ys ≡ take a xs ++ ys
tail_back a xs ys h = put_is a (length xs) xs ys h ∙ rw (drop-length xs, append-nil ys)

-- zeros over the front, and a part after them
pub filled : (zeros : ℕ) (part c front back : List ℕ) → zeros + length part ≤ length c → front ≡ replicate {A = ℕ} (length (take zeros c)) 0
    → back ≡ part ++ drop (length part) (mid_of zeros (length (front ++ drop zeros c) - zeros) (front ++ drop zeros c))
    → put_mid zeros (length (front ++ drop zeros c) - zeros) (front ++ drop zeros c) back ≡ replicate {A = ℕ} zeros 0 ++ (part ++ drop (zeros + length part) c)
filled zeros part c front back h f b =
    tail_back zeros (front ++ drop zeros c) back within
    ∙ rw (
      b,
      tail_lent zeros (front ++ drop zeros c),
      take_at front (drop zeros c) zeros count,
      drop_at front (drop zeros c) zeros count,
      drop-drop (length part) zeros c,
      front_is,
    )
  where
    front_is : front ≡ replicate {A = ℕ} zeros 0
    front_is = f ∙ ap (λ (n : ℕ). replicate {A = ℕ} n 0) (length-take-le zeros c (omega arith))

    count : length front ≡ zeros
    count = ap length front_is ∙ length-replicate zeros 0

    within : zeros ≤ length (front ++ drop zeros c)
    within = rw (length-append, count) (omega arith)

-- the 24 bits of r over the end
pub ended : (r end : ℕ) (xs last : List ℕ) → length xs ≡ end + 24 → last ≡ put_check_bits r (mid_of end (length xs - end) xs)
    → put_mid end (length xs - end) xs last ≡ take end xs ++ bits_of 24 r
unfolding put_check_bits
ended r end xs last h e = tail_back end xs last (omega arith) ∙ ap (λ (l : List ℕ). take end xs ++ l) (e ∙ rw (tail_lent end xs) bits)
  where
    long : length (drop end xs) ≡ 24
    long = length-drop end xs ∙ rw h (omega arith)

    gone : drop 24 (drop end xs) ≡ []
    gone = drop_of_length-le (drop end xs) {i = 24} (omega (arith, long))

    bits : cond (ltb (length (drop end xs)) 24) (drop end xs) (bits_of 24 r ++ drop 24 (drop end xs)) ≡ bits_of 24 r
    bits = rw (long, gone, append-nil (bits_of 24 r))
