-- Laws of lists of bits (`AreBits`): none, one more, joined, zeros; and, for any bound, of a list's parts (`EachBelow`).
-- Assumes nothing.
use mathlib.Core.List.{List, [], ◌∷◌, ◌++◌}
use Prim.Native.Nat.{ℕ, zero, suc, ◌+◌, ◌<◌}
use lib.Dec.{lit<}
use lib.ListN.{take, drop, replicate}
use lib.Seq.{get_or-drop}
use Rattle.laws.specs.Bits.{EachBelow, AreBits}

pub no_bits : AreBits []
no_bits i = lit< tt

pub with_bit : (b : ℕ) (bs : List ℕ) → b < 2 → AreBits bs → AreBits (b ∷ bs)
with_bit b bs h f zero = h
with_bit b bs h f (suc i) = f i

pub append_bits : (a b : List ℕ) → AreBits a → AreBits b → AreBits (a ++ b)
append_bits [] b ha hb i = hb i
append_bits (x ∷ a) b ha hb zero = ha 0
append_bits (x ∷ a) b ha hb (suc i) = append_bits a b (λ k. ha (suc k)) hb i

pub zero_bits : (n : ℕ) → AreBits (replicate {A = ℕ} n 0)
zero_bits zero i = lit< tt
zero_bits (suc n) zero = lit< tt
zero_bits (suc n) (suc i) = zero_bits n i

-- a front and a rest of a list keep its bound
module _ (m : ℕ) where
  pub take_below : 0 < m → (n : ℕ) (l : List ℕ) → EachBelow m l → EachBelow m (take n l)
  take_below some zero l h i = some
  take_below some (suc n) [] h i = some
  take_below some (suc n) (x ∷ l) h zero = h 0
  take_below some (suc n) (x ∷ l) h (suc i) = take_below some n l (λ k. h (suc k)) i

  pub drop_below : (n : ℕ) (l : List ℕ) → EachBelow m l → EachBelow m (drop n l)
  drop_below n l h i = rw (get_or-drop n l i 0) (h (n + i))
