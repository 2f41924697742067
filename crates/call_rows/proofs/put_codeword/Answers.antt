-- `call_rows::put_codeword` meets its contract: the row of what Build gave.
-- Assumes nothing.
use mathlib.Core.Path.{refl}
use Rattle.call_rows.specs.Rooms.{build_room}
use Rattle.call_rows.proofs.Wrote.{fresh, build_row_lem}
use Rattle.call_rows.proofs.put_codeword.Goals as goal

pub put_built-requires : goal.put_built-requires
put_built-requires c = (build_row_lem _ _ _ (fresh build_room refl) c.build-built.ensures.number c.build-built.ensures.output c.build-built.auto.out).0

pub returns : goal.returns
returns c =
    let row = (build_row_lem _ _ _ (fresh build_room refl) c.build-built.ensures.number c.build-built.ensures.output c.build-built.auto.out).1 in
    record { value = rw row at c.put_built.ensures.value; out_after = rw row at c.put_built.ensures.out_after }
