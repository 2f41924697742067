-- `send` meets its contract: segmentation, encoder and rate matcher do what they promise one after the other, and the law of a sent code block joins them.
-- Assumes nothing.
use mathlib.Core.List.{◌++◌}
use mathlib.Core.Path.{◌∙◌, ap}
use Prim.Native.Nat.{ℕ, ◌-◌}
use lib.ListN.{length, drop}
use Rattle.turbo.specs.Encode.{block_in}
use Rattle.rate_matching.specs.SubBlocks.{rows}
use Rattle.rate_matching.specs.Circle.{cut_at}
use Rattle.codeword.specs.Codeword.{block_rows, block_cut}
use Rattle.build_calls.proofs.Sent.{sending, row_told, filler_told, fronted, encoded, sent_is}
use Rattle.build_calls.proofs.block.Block.send.Goals as goal

pub returns : goal.returns
unfolding block_cut block_rows
returns c =
    let b = c.args.self.now in
    let rooms = c.requires.roomy in
    let sent = sending b.accepted b.segmented c.requires.below in
    let x = c.args.remainder in
    let empty = c.args.d0.now in
    let d0 = c.code_block.new.c ++ drop (length empty - 4) empty in
    let room = fronted sent x empty rooms.first c.code_block.ensures in
    let row = row_told sent c.row_of-row.ensures in
    let filler = filler_told sent c.filler_of-filler.ensures in
    let fits = encoded sent x (block_in d0) room.bits row filler d0 c.args.d1.now c.args.d2.now room.long rooms.second rooms.third in
    sent_is sent x (block_in d0) room.bits row filler
    (rw fits at c.encode.ensures.first)
    (rw fits at c.encode.ensures.second)
    (rw fits at c.encode.ensures.third)
    _
    (c.cut_at-ncb.ensures ∙ ap (λ (d : ℕ). cut_at b.soft (rows d)) rooms.first)
    c.rate_match.ensures
