-- What a source w that was put over the front of a list leaves (`octets::copy`, where it has room): w and what stood behind it, and w alone where both are as long.
-- In an answer: `copied w _ (over _ _ c.copy.ensures (the room))`, with `over` of octets/proofs/Copied.
-- Assumes nothing.
use mathlib.Core.Path.{◌≡◌, ◌∙◌}
use mathlib.Core.List.{List, ◌++◌, append-nil}
use Prim.Native.Nat.{ℕ}
use lib.ListN.{length, take, drop}
use lib.Seq.{take-length, drop-length}

module _ (w out : List ℕ) {out' : List ℕ} (e : out' ≡ take (length w) w ++ drop (length w) out) where
  pub copied : out' ≡ w ++ drop (length w) out
  copied = e ∙ rw take-length

  pub all_copied : length out ≡ length w → out' ≡ w
  all_copied h = copied ∙ rw (← h, drop-length out, append-nil w)
