-- `matcher::put_pair` meets its contract: stream 2 alone, and then both by turns (`Ring`).
-- Assumes nothing.
use mathlib.Core.Path.{refl}
use Rattle.bit_selection.proofs.Ring.{alone_within, alone_lent, both_within, both_ask, put_pairs}
use Rattle.bit_selection.proofs.matcher.put_pair.Goals as goal

pub slice_bounds-read_column-end : goal.slice_bounds-read_column-end
slice_bounds-read_column-end c = alone_within c.requires.1.lies _ c.args.ring.now c.requires.3

pub read_column-requires : goal.read_column-requires
read_column-requires c = rw (c.requires.0, alone_lent c.requires.1.lies _ _ c.requires.3) (c.requires.1.alone c.requires.2)

pub slice_bounds-read_pairs-end : goal.slice_bounds-read_pairs-end
slice_bounds-read_pairs-end c =
    both_within c.requires.1.lies _ c.args.ring.now c.requires.3 c.read_column.new.part c.read_column.auto.part

pub read_pairs-requires : goal.read_pairs-requires
read_pairs-requires c =
    both_ask c.requires.1.lies _ c.args.ring.now c.requires.3 c.read_column.new.part c.read_column.auto.part refl c.requires.0 c.requires.1 c.requires.2

pub returns : goal.returns
returns c =
    put_pairs c.requires.1.lies _ c.args.ring.now c.requires.3 c.read_column.new.part c.read_column.auto.part _ _ _ c.read_column.ensures c.read_pairs.ensures
