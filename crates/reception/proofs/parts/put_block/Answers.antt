-- `parts::put_block` meets its contract: bits for one turn or less are put, and more turns by a ring (`Rounds`).
-- Assumes nothing.
use mathlib.Core.Path.{◌≡◌}
use Prim.Native.Nat.{◌≤◌}
use native.Mathlib.Omega.{arith}
use lib.ListN.{length}
use Rattle.rate_matching.specs.Walk.{sent_places}
use Rattle.bit_placement.specs.Placement.{turn_in}
use Rattle.bit_placement.proofs.Placed.{placed}
use Rattle.reception.specs.inner.Parts.{part_after}
use Rattle.reception.specs.inner.Sent.{turn_of}
use Rattle.reception.proofs.Sends.{sends_on}
use Rattle.reception.proofs.Rounds.{turn_told, turn_least, turn_few, one_round, ring_round}
use Rattle.reception.proofs.parts.put_block.Goals.{After-turn_length-n, Else-bits-n}
use Rattle.reception.proofs.parts.put_block.Goals as goal

-- how long a turn is
turn : (c : After-turn_length-n) → c.turn_length-n.result ≡ length (turn_of c.args.sent)
turn c = turn_told c.args.sent.sends c.turn_length-n.ensures

-- where there are more: it has one bit at least, and there is a whole one
more : (c : Else-bits-n) → c.turn_length-n.result ≤ length c.args.bits.now
more c = omega (arith, c.if-bits-n.false)

pub returns-then-bits-n : goal.returns-then-bits-n
unfolding part_after sent_places turn_in
returns-then-bits-n c =
    one_round _ _ (turn_least c.args.sent.sends) (omega (arith, c.if-bits-n.true, turn (goal.at.returns-then-bits-n c).After-turn_length-n)) _
    (placed c.args.part.now (sends_on c.args.sent c.requires.0) _ c.put_turn.ensures.part)

pub put_with-requires : goal.put_with-requires
put_with-requires c =
    (c.requires.0, omega (arith, turn (goal.at.put_with-requires c).After-turn_length-n, turn_least c.args.sent.sends), c.if-n-le-SHORT_RING.true, omega arith, more (goal.at.put_with-requires c).Else-bits-n, c.requires.1)

pub returns-then-n-le-SHORT_RING : goal.returns-then-n-le-SHORT_RING
unfolding part_after sent_places turn_in
returns-then-n-le-SHORT_RING c =
    ring_round _ _ (turn (goal.at.returns-then-n-le-SHORT_RING c).After-turn_length-n) (turn_least c.args.sent.sends) (more (goal.at.returns-then-n-le-SHORT_RING c).Else-bits-n) c.requires.1 _ c.put_with.ensures

pub put_with-requires-else-n-le-SHORT_RING : goal.put_with-requires-else-n-le-SHORT_RING
put_with-requires-else-n-le-SHORT_RING c =
    let turn_lem = turn (goal.at.put_with-requires-else-n-le-SHORT_RING c).After-turn_length-n in (
      c.requires.0,
      omega (arith, turn_lem, turn_least c.args.sent.sends),
      omega (arith, turn_lem, turn_few c.args.sent.sends),
      omega arith,
      more (goal.at.put_with-requires-else-n-le-SHORT_RING c).Else-bits-n,
      c.requires.1,
    )

pub returns-else-n-le-SHORT_RING : goal.returns-else-n-le-SHORT_RING
unfolding part_after sent_places turn_in
returns-else-n-le-SHORT_RING c =
    ring_round _ _ (turn (goal.at.returns-else-n-le-SHORT_RING c).After-turn_length-n) (turn_least c.args.sent.sends) (more (goal.at.returns-else-n-le-SHORT_RING c).Else-bits-n) c.requires.1 _
    c.put_with-else-n-le-SHORT_RING.ensures
