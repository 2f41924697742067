-- `accept_down` meets its contract: each return by the tests on the way.
-- Assumes nothing.
use mathlib.Core.Path.{◌∙◌, ap}
use mathlib.Core.List.{List, append-nil}
use Prim.Native.Nat.{ℕ}
use native.Mathlib.Omega.{arith}
use lib.ListN.{length}
use borrow.Author.Tests.{le-ltb}
use Rattle.codeword.specs.Build.{build_number}
use Rattle.build_calls.specs.inner.Sending.{number_with}
use Rattle.codeword.proofs.Segmented.{Sized, sized, long_told}
use Rattle.codeword.proofs.SoftShares.{rows_told}
use Rattle.build_calls.proofs.call.accept_down.Goals.{Else-s-eq0}
use Rattle.build_calls.proofs.call.accept_down.Goals as goal

-- past the first test the size is in range
in_range : (c : Else-s-eq0) → Sized (length c.args.block.now) c.args.s
in_range c = sized _ _ c.requires c.if-s-eq0.false

pub overflow_add-s : goal.overflow_add-s
overflow_add-s c = let k = in_range (goal.at.overflow_add-s c).Else-s-eq0 in omega (arith, long_told _ k.size k.told)

pub overflow_mul-s : goal.overflow_mul-s
overflow_mul-s c = let k = in_range (goal.at.overflow_mul-s c).Else-s-eq0 in omega (arith, long_told _ k.size k.told)

pub returns : goal.returns
unfolding number_with
returns c =
    let k = in_range (goal.at.returns c).Else-s-eq0 in
    let a = c.args in
    simp (k.size, le-ltb _ _ (rw (rows_told _ k.told) at c.if-share-s.false))
    (c.accept.ensures ∙ ap (λ (l : List ℕ). build_number l a.grant a.lent) (append-nil a.block.now))
