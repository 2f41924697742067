-- `lines::digit_count` meets its contract: the power of ten that is at most n, and the next one, tell its digits.
-- Assumes nothing.
use mathlib.Core.Path.{◌≡◌}
use Prim.Native.Nat.{ℕ, suc, ◌+◌, ◌*◌, ◌^◌, ◌≤◌, ◌<◌, max}
use native.Mathlib.Nat.{pow-suc, pow-le-pow_right}
use native.Mathlib.Numerals.{add-one, sub-one}
use native.Mathlib.Omega.{arith}
use lib.Dec.{lit<}
use Rattle.lines.specs.Digits.{IsDigitCount}
use Rattle.lines.proofs.digit_count.Goals as goal

counted : (n m k : ℕ) → m ≡ max n 1 → 10 ^ k ≤ m → m < 10 * 10 ^ k → IsDigitCount 10 1 n (k + 1)
counted n m k e low high = rw (add-one k) (omega arith, rw (pow-suc 10 k) (omega arith), λ (l : 1 < suc k). rw sub-one (whole l))
  where
    whole : 1 < suc k → 10 ^ k ≤ n
    whole l =
        let some : 1 ≤ k = omega arith in
        let ten : 10 ^ 1 ≤ 10 ^ k = pow-le-pow_right (lit< tt) some in
        omega arith

pub returns-clause-fewest : goal.returns-clause-fewest
returns-clause-fewest c = counted c.args.n c.max.result c.ilog10.result c.max.ensures c.ilog10.ensures.power_le c.ilog10.ensures.next_power_gt
