-- Zeros in front of data, as the filler of clause 5.1.2 is: the register stays empty, so they change no remainder.
-- Assumes nothing.
use mathlib.Core.Path.{◌≡◌, refl, ◌∙◌, ap}
use mathlib.Core.List.{List, ◌++◌}
use Prim.Native.Nat.{ℕ, zero, suc, ◌^◌}
use native.Mathlib.Nat.{zero-mul, zero-div, zero-mod}
use lib.ListN.{replicate}
use Rattle.check_bits.specs.CheckBits.{crc_step, crc_from, crc}

zero_step : (L g : ℕ) → crc_step L g 0 0 ≡ 0
unfolding crc_step
zero_step L g = rw (zero-div, zero-mul) (zero-mod (2 ^ L))

zeros_from : (L g n : ℕ) (bs : List ℕ) → crc_from L g 0 (replicate {A = ℕ} n 0 ++ bs) ≡ crc_from L g 0 bs
unfolding crc_from
zeros_from L g zero bs = refl
zeros_from L g (suc n) bs = ap (λ (s : ℕ). crc_from L g s (replicate {A = ℕ} n 0 ++ bs)) (zero_step L g) ∙ zeros_from L g n bs

pub zeros_first : (L g n : ℕ) (bs : List ℕ) → crc L g (replicate {A = ℕ} n 0 ++ bs) ≡ crc L g bs
unfolding crc
zeros_first L g n bs = zeros_from L g n bs
