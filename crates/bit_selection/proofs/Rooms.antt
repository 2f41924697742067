-- Laws of lent rooms: a slice, or a fresh array of N entries x, whose front of n entries is lent to be written and, when it is back, lent to be
-- read.
-- Assumes nothing.
use mathlib.Core.Path.{◌≡◌, sym, ◌∙◌, ap}
use mathlib.Core.List.{List, ◌++◌}
use Prim.Native.Nat.{ℕ, ◌≤◌}
use native.Mathlib.Omega.{arith}
use lib.ListN.{length, take, drop, replicate, length-replicate}
use lib.Seq.{length_front, length-take-le, take_at}

-- the front of n entries came back as `last`
module _ (xs : List ℕ) (n : ℕ) (h : n ≤ length xs) (last : List ℕ) (e : length last ≡ length (take n xs)) where
  lent_length : length last ≡ n
  lent_length = e ∙ length-take-le n xs h

  -- it is what is lent then
  pub lent_front : take n (last ++ drop n xs) ≡ last
  lent_front = take_at last (drop n xs) n lent_length

  pub lent_count : n ≡ length (take n (last ++ drop n xs))
  lent_count = sym (ap length lent_front ∙ lent_length)

  pub lent_within : n ≤ length (last ++ drop n xs)
  lent_within = omega (arith, length_front xs last n e)

module _ (x : ℕ) (N n : ℕ) (h : n ≤ N) where
  room : n ≤ length (replicate N x)
  room = rw (length-replicate N x) h

  module _ (last : List ℕ) (e : length last ≡ length (take n (replicate N x))) where
    pub back_front : take n (last ++ drop n (replicate N x)) ≡ last
    back_front = lent_front (replicate N x) n room last e

    pub back_count : n ≡ length (take n (last ++ drop n (replicate N x)))
    back_count = lent_count (replicate N x) n room last e

    pub back_within : n ≤ length (last ++ drop n (replicate N x))
    back_within = lent_within (replicate N x) n room last e
