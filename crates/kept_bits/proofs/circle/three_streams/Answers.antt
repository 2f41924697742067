-- `circle::three_streams` meets its contract: the test is the definition's, and what passes is shown (`Rows`).
-- Assumes nothing.
use mathlib.Core.Path.{◌≡◌, sym, ◌∙◌}
use mathlib.Core.Bool.{Bool, ◌&&◌, and-eq-true_iff}
use Prim.Native.Nat.{◌/◌}
use native.Mathlib.Omega.{arith}
use lib.Dec.{leb}
use lib.ListN.{length}
use borrow.Author.Tests.{leb-true}
use Rattle.kept_bits.specs.Circle.{showable}
use Rattle.kept_bits.proofs.Rows.{readable_told}
use Rattle.kept_bits.proofs.circle.three_streams.Goals.{After-readable-there}
use Rattle.kept_bits.proofs.circle.three_streams.Goals as goal

-- what is tested is the definition's
tested : (c : After-readable-there) {b : Bool} → let e = c.args in
    c.readable-there.result && leb e.f e.d && leb e.d (length e.out.now / 3) ≡ b → showable (length e.circle.now) e.d e.f (length e.out.now) ≡ b
unfolding showable
tested c t = rw (← c.readable-there.ensures) t

pub put_streams-requires : goal.put_streams-requires
put_streams-requires c =
    let e = c.args in
    let all = (and-eq-true_iff (c.readable-there.result && leb e.f e.d) (leb e.d (length e.out.now / 3))).0 c.if-there-f.true in
    let low = (and-eq-true_iff c.readable-there.result (leb e.f e.d)).0 all.0 in
    (leb-true e.f e.d low.1, omega (arith, leb-true e.d (length e.out.now / 3) all.1), readable_told _ _ _ _ _ (sym c.readable-there.ensures ∙ low.0))

pub returns-then-there-f : goal.returns-then-there-f
returns-then-there-f c = c.put_streams.ensures ∙ rw (tested (goal.at.returns-then-there-f c).After-readable-there c.if-there-f.true)

pub returns-else-there-f : goal.returns-else-there-f
returns-else-there-f c = rw (tested (goal.at.returns-else-there-f c).After-readable-there c.if-there-f.false)
