-- `packed::put_with` meets its contract: the front of the array is a circle with the places of the bytes.
-- Assumes nothing.
use mathlib.Core.Path.{refl, sym}
use Prim.Native.Nat.{ℕ}
use native.Mathlib.Omega.{arith}
use Rattle.laws.proofs.Parts.{fresh_count}
use Rattle.reception.proofs.Circles.{four_long}
use Rattle.reception.proofs.packed.put_with.Goals as goal

pub put_by-requires : goal.put_by-requires
put_by-requires g c =
    rw (sym (fresh_count {A = ℕ} 0 g.row.P _ c.requires.1)) (record { fits = omega (arith, c.requires.0.fits, four_long c.args.part.now refl) }, refl, c.requires.3)
