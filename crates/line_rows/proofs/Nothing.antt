-- The row that is none: nothing is put.
-- Assumes nothing.
use mathlib.Core.Path.{◌≡◌, sym}
use mathlib.Core.List.{List, []}
use Prim.Native.Nat.{ℕ}
use native.Mathlib.Omega.{arith}
use Rattle.lines.specs.Put.{put_over, put_at, end_at}
use Rattle.lines.proofs.Putting.{put_fits, end_fits}

pub nothing : (out : List ℕ) → (0 ≡ end_at 0 [] out) × (out ≡ put_at 0 [] out)
unfolding put_over
nothing out = (sym (end_fits 0 [] out (omega arith)), sym (put_fits 0 [] out (omega arith)))
