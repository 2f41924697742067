-- `write` meets its contract: K+ is at most 6,144, so the rooms are long enough.
-- Assumes nothing.
use native.Mathlib.Omega.{arith}
use Rattle.codeword.proofs.Segmented.{long_told}
use Rattle.build_calls.proofs.block.Block.write.Goals as goal

pub write_with-requires-else-self-le1024-clause-room : goal.write_with-requires-else-self-le1024-clause-room
write_with-requires-else-self-le1024-clause-room c =
    let b = c.args.self.now in (omega (arith, long_told _ b.accepted.size b.segmented), omega arith)
