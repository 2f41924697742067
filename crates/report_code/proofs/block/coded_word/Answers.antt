-- `block::coded_word` meets its contract: the coded block, packed.
-- Assumes nothing.
use mathlib.Core.Path.{◌∙◌, ap}
use lib.ListN.{length}
use Rattle.report_code.specs.Words.{number_of, word_of}
use Rattle.report_code.proofs.Linear.{block_bits_lem, length_block}
use Rattle.report_code.proofs.block.coded_word.Goals as goal

pub packed-requires : goal.packed-requires
packed-requires c = (rw c.coded_block.ensures (block_bits_lem _), ap length c.coded_block.ensures ∙ length_block _)

pub returns : goal.returns
unfolding word_of
returns c = c.packed.ensures ∙ ap number_of c.coded_block.ensures
