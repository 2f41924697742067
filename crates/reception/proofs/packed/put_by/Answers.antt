-- `packed::put_by` meets its contract: the circle is unpacked, takes the bits, is counted and packed (`Circles`).
-- Assumes nothing.
use mathlib.Core.Path.{sym, ◌∙◌, ap}
use mathlib.Core.List.{List}
use Prim.Native.Nat.{ℕ}
use Rattle.slots.specs.Circle.{lacking_on}
use Rattle.reception.proofs.Circles.{part_there, part_stored}
use Rattle.reception.proofs.packed.put_by.Goals as goal

pub returns : goal.returns
returns c =
    let a = c.args in
    let told = c.put_circle-lacking.ensures in
    record {
      stored = part_stored _ _ _ _ a.bits.now a.part.now a.circle.now c.requires.1 c.requires.2 c.unpack_places.ensures told.stored c.pack_places.ensures;
      count = told.count
          ∙ ap (λ (l : List ℕ). lacking_on l a.sent.k a.sent.filler)
          (sym (part_there _ _ _ _ a.bits.now a.part.now a.circle.now c.requires.1 c.requires.2 c.unpack_places.ensures told.stored c.pack_places.ensures));
    }
