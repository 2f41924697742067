-- `write_with` meets its contract: the loop's invariant is `Stretching`, what stands before the stretch of code block r is the codeword's
-- beginning, and that the rooms keep their lengths.
-- Assumes nothing.
use mathlib.Core.List.{◌++◌}
use Rattle.build_calls.proofs.Rooms.{Rooms}
use Rattle.build_calls.proofs.Stretches.{Stretching}
use Rattle.build_calls.proofs.block.Block.write_with.Given as goal

abbrev pub invariant-loop-r : goal.invariant-loop-r
invariant-loop-r g l =
    Stretching l.self.soft (l.self.header.now ++ l.self.payload.now) l.self.grant l.initial.out l.self.segments l.self.segments.blocks l.remainder l.out l.at l.r × Rooms g.row.D l.d0 l.d1 l.d2
