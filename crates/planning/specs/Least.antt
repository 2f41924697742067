-- The least G that gives every code block the bits that it needs, by the shares of clause 5.1.4.1.2.
-- Assumes nothing.
use Rattle.std.specs.Prelude.{ℕ, zero, suc, ◌+◌, ◌-◌, ◌*◌, ◌/◌, max}

-- ⌈need / step⌉
unfoldable pub rounded_up : ℕ → ℕ → ℕ
rounded_up step need = (need + (step - 1)) / step

-- the least G' that gives code block r of C so many times N·Q = step bits as it needs: the later code blocks have the larger shares
unfoldable pub symbols_for : (ℕ → ℕ) → ℕ → ℕ → ℕ → ℕ
symbols_for need C step r = C * rounded_up step (need r) - r

-- the largest of f 0, .., f (n − 1)
unfoldable pub largest : (ℕ → ℕ) → ℕ → ℕ
largest f zero = 0
largest f (suc n) = max (largest f n) (f n)

-- the least G' that serves them all
unfoldable pub least_symbols : (ℕ → ℕ) → ℕ → ℕ → ℕ
least_symbols need C step = largest (symbols_for need C step) C

-- the least G
unfoldable pub least_bits : (ℕ → ℕ) → ℕ → ℕ → ℕ → ℕ
least_bits need C Q N = N * Q * least_symbols need C (N * Q)
