-- `whole_state` meets its contract: S, M and eight heads, where each stands.
-- Assumes nothing.
use native.Mathlib.Omega.{arith}
use borrow.Author.Tests.{le-ltb}
use Rattle.state_bytes.specs.StateBytes.{heads_from, state_in}
use Rattle.state_bytes.proofs.whole_state.Goals as goal

pub head_from-requires-8 : goal.head_from-requires-8
head_from-requires-8 c = omega (arith, c.requires)

pub returns : goal.returns
unfolding heads_from state_in
returns c =
    rw (
      le-ltb _ _ c.requires,
      c.number_at.ensures,
      c.number_at-2.ensures,
      c.head_from.ensures,
      c.head_from-2.ensures,
      c.head_from-3.ensures,
      c.head_from-4.ensures,
      c.head_from-5.ensures,
      c.head_from-6.ensures,
      c.head_from-7.ensures,
      c.head_from-8.ensures,
    )
