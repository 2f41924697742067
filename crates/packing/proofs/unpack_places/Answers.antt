use mathlib.Core.Path.{◌∙◌, ap}
use Prim.Native.Nat.{ℕ, ◌/◌, ◌%◌}
use native.Mathlib.Omega.{arith}
use lib.ListN.{get_or, length-set}
use Rattle.packing.proofs.Places.{apart_bytes}
use Rattle.packing.proofs.Changing.{unpacking_start, unpacking_next, unpacking_finish}
use Rattle.packing.proofs.unpack_places.Goals as goal

pub loop-i-init : goal.loop-i-init
loop-i-init c = unpacking_start _ _ _ (omega (arith, c.min-n.ensures)) (omega (arith, c.min-n.ensures))

pub bounds-to-j-in-loop-i : goal.bounds-to-j-in-loop-i
bounds-to-j-in-loop-i c = simp length-set (omega arith)

pub bounds-to-j-in-loop-i-2 : goal.bounds-to-j-in-loop-i-2
bounds-to-j-in-loop-i-2 c = simp length-set (omega arith)

pub bounds-to-j-in-loop-i-3 : goal.bounds-to-j-in-loop-i-3
bounds-to-j-in-loop-i-3 c = simp length-set (omega arith)

pub loop-i-preserved : goal.loop-i-preserved
loop-i-preserved c =
    let told = apart_bytes (get_or c.args.from.now c.loop-i.i 0) in
    let is = c.apart-w.ensures in
    unpacking_next c.loop-i.invariant (omega arith)
    (ap (λ (w : ℕ). w % 256) is ∙ told.0)
    (ap (λ (w : ℕ). w / 256 % 256) is ∙ told.1)
    (ap (λ (w : ℕ). w / 65536 % 256) is ∙ told.2)
    (ap (λ (w : ℕ). w / 16777216 % 256) is ∙ told.3)

pub shape_of-to : goal.shape_of-to
shape_of-to c = c.loop-i.invariant.wrote.long

pub returns : goal.returns
returns c = rw (← c.min-n.ensures) (unpacking_finish c.loop-i.invariant (omega arith))
