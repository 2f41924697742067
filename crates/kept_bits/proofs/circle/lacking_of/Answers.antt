-- `circle::lacking_of` meets its contract: the test is the definition's, and what passes can be counted (`Lacking`).
-- Assumes nothing.
use mathlib.Core.Path.{◌≡◌, sym, ◌∙◌, ap}
use mathlib.Core.Bool.{true}
use Prim.Native.Nat.{ℕ, ◌+◌, ◌≤◌, ◌<◌}
use native.Mathlib.Omega.{arith}
use lib.ListN.{length}
use borrow.Author.Tests.{lt-leb, le-leb, leb-false}
use Rattle.rate_matching.specs.SubBlocks.{rows}
use Rattle.rate_matching.specs.Circle.{circle_length}
use Rattle.kept_bits.specs.Circle.{countable}
use Rattle.kept_bits.proofs.Rows.{circle_none, circle_some}
use Rattle.kept_bits.proofs.Lacking.{countable_told}
use Rattle.kept_bits.proofs.circle.lacking_of.Goals.{In-Some, Then-there}
use Rattle.kept_bits.proofs.circle.lacking_of.Goals as goal

-- K is in range, and the circle so long
ranged : (c : In-Some) → (c.args.k ≤ 6144) × (c.in-Some.places ≡ circle_length (rows (c.args.k + 4)))
ranged c =
    let told = circle_some _ (sym c.in-Some.ensures) in
    let same : c.saturating_add.result ≡ c.args.k + 4 = omega (arith, told.0) in
    (omega (arith, told.0, same), told.1 ∙ ap (λ (d : ℕ). circle_length (rows d)) same)

-- past the test
counted : (c : Then-there) → let e = c.args in countable (length e.circle.now) e.k e.f ≡ true
unfolding countable
counted c =
    let told = circle_some _ (sym c.in-Some.ensures) in
    let same : c.saturating_add.result ≡ c.args.k + 4 = omega (arith, told.0) in
    let low : c.args.k ≤ 6144 = omega (arith, told.0, same) in
    simp (le-leb _ _ low, ← (told.1 ∙ ap (λ (d : ℕ). circle_length (rows d)) same), c.if-there.true)

pub returns-in_default : goal.returns-in_default
unfolding countable
returns-in_default c =
    let long = leb-false _ _ (circle_none _ (sym c.in_default.ensures)) in
    let high : 6144 < c.args.k = omega (arith, long, c.saturating_add.ensures) in
    simp (lt-leb _ _ high)

pub lacking_on-requires : goal.lacking_on-requires
lacking_on-requires c = countable_told _ _ _ (counted (goal.at.lacking_on-requires c).Then-there)

pub returns-then-there : goal.returns-then-there
returns-then-there c = c.lacking_on.ensures ∙ rw (counted (goal.at.returns-then-there c).Then-there)

pub returns : goal.returns
unfolding countable
returns c = let r = ranged (goal.at.returns c).In-Some in simp (le-leb _ _ r.0, ← r.1, c.if-there.false)
