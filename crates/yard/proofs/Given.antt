-- Laws of a line's BITS, read into a buffer.
-- Assumes nothing.
use mathlib.Core.Path.{◌≡◌, refl}
use mathlib.Core.Bool.{Bool, true, false, cond}
use mathlib.Core.List.{List}
use Prim.Native.Nat.{ℕ, ◌≤◌}
use native.Mathlib.Omega.{arith}
use lib.Dec.{leb}
use lib.ListN.{length, take, drop, length-drop, length-map, drop_of_length-le}
use lib.Seq.{take-append_seam}
use borrow.Author.Tests.{le-leb, leb-true}
use Rattle.line_words.specs.Words.{bit_of}
use Rattle.requests.specs.Request.{bits_from, bits_over}

-- a line's BITS fit into a buffer as long as the line
bits_fit : (l : List ℕ) (from : ℕ) (out : List ℕ) → length l ≤ length out → length (bits_from l from) ≤ length out
unfolding bits_from
bits_fit l from out h = rw (length-map (drop from l) bit_of, length-drop from l) (omega arith)

-- what `read_bits` gave back: its count is within the buffer, and a line as short as that has given all its BITS
module _ (l : List ℕ) (from : ℕ) (out : List ℕ) {count : ℕ} (c : count ≡ cond (leb (length (bits_from l from)) (length out)) (length (bits_from l from)) 0) where
  pub count_fits : count ≤ length out
  count_fits = rw c (go (leb (length (bits_from l from)) (length out)) refl)
    where
      go : (t : Bool) → leb (length (bits_from l from)) (length out) ≡ t → cond t (length (bits_from l from)) 0 ≤ length out
      go true e = leb-true _ _ e
      go false e = omega arith

  pub given_bits : {out' : List ℕ} → out' ≡ bits_over l from out → length l ≤ length out → take count out' ≡ bits_from l from
  unfolding bits_over
  given_bits e h =
      let all = le-leb _ _ (bits_fit l from out h) in
      rw (rw all at c, rw all at e) (take-append_seam (bits_from l from) (drop (length (bits_from l from)) out))

-- a line that ends where its BITS would start has none
pub none_given : (l : List ℕ) (from : ℕ) → length l ≤ from → take 0 l ≡ bits_from l from
unfolding bits_from
none_given l from h = rw (drop_of_length-le l h)
