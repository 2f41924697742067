-- `call_rows::put_codeword_down` meets its contract: the row of what Build gave.
-- Assumes nothing.
use mathlib.Core.Path.{refl}
use Rattle.call_rows.specs.Rooms.{build_room}
use Rattle.call_rows.proofs.Wrote.{fresh, down_row}
use Rattle.call_rows.proofs.put_codeword_down.Goals as goal

pub put_built-requires : goal.put_built-requires
put_built-requires c = (down_row _ _ _ _ _ _ _ _ (fresh build_room refl) c.build_down-built.ensures.number c.build_down-built.ensures.output c.build_down-built.auto.out).0

pub returns : goal.returns
returns c =
    let row = (down_row _ _ _ _ _ _ _ _ (fresh build_room refl) c.build_down-built.ensures.number c.build_down-built.ensures.output c.build_down-built.auto.out).1 in
    record { value = rw row at c.put_built.ensures.value; out_after = rw row at c.put_built.ensures.out_after }
