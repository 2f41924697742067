-- Laws of the bytes of a number (`bytes_of`): joined numbers, that only the lowest count, and bytes read from a list and written over it.
-- Assumes nothing.
use mathlib.Core.Path.{◌≡◌, sym, ◌∙◌, ap, ap₂}
use mathlib.Core.List.{List, [], ◌∷◌, ◌++◌, append-nil}
use Prim.Native.Nat.{ℕ, zero, suc, ◌+◌, ◌*◌, ◌/◌, ◌%◌, ◌^◌, ◌<◌}
use native.Mathlib.Nat.{zero-add, add-zero, mod-lt, suc-add, add-mul-div_right, add-mul-mod_self_right, add_comm}
use native.Mathlib.Omega.{arith}
use lib.ListN.{length, get_or}
use lib.Pow.{pow-add, pow_pos, shr_lt, shr-shr, split}
use Rattle.std.specs.Int.{to_le_bytes, from_le_bytes, w64}
use Rattle.std.proofs.lemmas.Nat.{le_bytes_8}
use Rattle.turbo.specs.inner.Eight.{bytes_of}

one_more : (n : ℕ) → 2 ^ (suc n * 8) ≡ 2 ^ (n * 8) * 2 ^ 8
one_more n = let e : suc n * 8 ≡ n * 8 + 8 = omega arith in rw (e, pow-add)

-- m bytes, and n above them
pub bytes_of_join : (m n hi lo : ℕ) → lo < 2 ^ (m * 8) → bytes_of (m + n) (hi * 2 ^ (m * 8) + lo) ≡ bytes_of m lo ++ bytes_of n hi
unfolding bytes_of
bytes_of_join zero n hi lo h = ap₂ bytes_of (zero-add n) (omega arith)
bytes_of_join (suc m) n hi lo h =
    ap (λ (k : ℕ). bytes_of k (hi * 2 ^ (suc m * 8) + lo)) (suc-add m n)
    ∙ ap₂ ◌∷◌ low (ap (bytes_of (m + n)) high ∙ bytes_of_join m n hi (lo / 2 ^ 8) (shr_lt (m * 8) 8 (rw pow-add (rw one_more at h))))
  where
    apart : hi * 2 ^ (suc m * 8) + lo ≡ lo + hi * 2 ^ (m * 8) * 2 ^ 8
    apart = rw (one_more m) (omega arith)

    low : (hi * 2 ^ (suc m * 8) + lo) % 2 ^ 8 ≡ lo % 2 ^ 8
    low = rw apart (add-mul-mod_self_right lo (hi * 2 ^ (m * 8)) (2 ^ 8))

    high : (hi * 2 ^ (suc m * 8) + lo) / 2 ^ 8 ≡ hi * 2 ^ (m * 8) + lo / 2 ^ 8
    high = rw apart (add-mul-div_right lo (hi * 2 ^ (m * 8)) (pow_pos 8)) ∙ add_comm (lo / 2 ^ 8) (hi * 2 ^ (m * 8))

-- what lies above the lowest n bytes does not count
pub bytes_of_mod : (n w : ℕ) → bytes_of n (w % 2 ^ (n * 8)) ≡ bytes_of n w
unfolding bytes_of
bytes_of_mod n w =
    sym (append-nil (bytes_of n (w % 2 ^ (n * 8)))) ∙ sym (bytes_of_join n 0 (w / 2 ^ (n * 8)) (w % 2 ^ (n * 8)) (mod-lt w (pow_pos (n * 8))))
    ∙ ap₂ bytes_of (add-zero n) (split w (n * 8))

-- ---- the library's eight bytes

-- the eight bytes of a number by shifts
abbrev pub shifted : ℕ → List ℕ
shifted w =
    w % 2 ^ 8
    ∷ w / 2 ^ 8 % 2 ^ 8
    ∷ w / 2 ^ 16 % 2 ^ 8
    ∷ w / 2 ^ 24 % 2 ^ 8
    ∷ w / 2 ^ 32 % 2 ^ 8
    ∷ w / 2 ^ 40 % 2 ^ 8
    ∷ w / 2 ^ 48 % 2 ^ 8
    ∷ w / 2 ^ 56 % 2 ^ 8
    ∷ []

by_shifts : (w : ℕ) → bytes_of 8 w ≡ shifted w
unfolding bytes_of
by_shifts w = rw (shr-shr w 8 8, shr-shr w 16 8, shr-shr w 24 8, shr-shr w 32 8, shr-shr w 40 8, shr-shr w 48 8)

-- those that it writes
pub written : (w : ℕ) → to_le_bytes w64 w ≡ bytes_of 8 w
written w = sym (by_shifts w)

-- those of the number that it reads
pub word_is : (bits : List ℕ) (w : ℕ) → length bits ≡ 8 → ((i : ℕ) → get_or bits i 0 < 256) → w ≡ from_le_bytes w64 bits → bytes_of 8 w ≡ bits
word_is bits w l h e = sym (written w) ∙ le_bytes_8 bits w l h e
