-- What is put over the start of a list where it has room for it.
-- Assumes nothing.
use mathlib.Core.Path.{◌≡◌, ◌∙◌}
use mathlib.Core.List.{List, ◌++◌}
use Prim.Native.Nat.{ℕ, ◌≤◌}
use lib.ListN.{length, take, drop}
use lib.Seq.{take-length}
use borrow.Author.Tests.{le-leb}
use Rattle.octets.specs.Bytes.{copied_over}

pub over : (w out : List ℕ) {out' : List ℕ} → out' ≡ copied_over w out → length w ≤ length out → out' ≡ take (length w) w ++ drop (length w) out
unfolding copied_over
over w out e h = e ∙ rw (le-leb (length w) (length out) h, take-length w)
