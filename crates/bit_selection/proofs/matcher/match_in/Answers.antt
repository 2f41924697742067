-- `matcher::match_in` meets its contract: what is needed of the ring fits it.
-- Assumes nothing.
use Prim.Native.Nat.{ℕ}
use lib.ListN.{length-replicate}
use Rattle.bit_selection.proofs.Block.{room_holds, matched_is}
use Rattle.bit_selection.proofs.matcher.match_in.Goals as goal

pub put_turn-end-requires : goal.put_turn-end-requires
put_turn-end-requires g c = (c.requires.0, rw (length-replicate {A = ℕ} g.row.RING 0) (room_holds _ _ c.requires.1), c.requires.3)

pub returns : goal.returns
returns g c = matched_is _ _ _ _ _ _ c.args.out.now c.requires.0 c.put_turn-end.ensures c.fill.ensures
