-- `block::fill_both` meets its contract: what each slice has of the part, put one after the other (`Both`).
-- Assumes nothing.
use mathlib.Core.Path.{sym, ◌∙◌, ap}
use mathlib.Core.List.{List}
use Prim.Native.Nat.{ℕ, ◌+◌, ◌-◌, ◌≤◌}
use native.Mathlib.Omega.{arith}
use lib.ListN.{length}
use borrow.Rule.Slice.PartMut.{mid_of}
use Rattle.octets.proofs.Copied.{over}
use Rattle.laws.proofs.Copied.{copied}
use Rattle.laws.proofs.Parts.{length_mid}
use Rattle.segmentation.specs.Into.{filled_with}
use Rattle.segmentation.proofs.Both.{Shared, shared, behind, filled_both}
use Rattle.segmentation.proofs.block.fill_both.Goals.{After-fill, After-min-b}
use Rattle.segmentation.proofs.block.fill_both.Goals as goal

-- what the two slices have of the part
parted : (c : After-min-b) → let a = c.args in
    Shared a.first.now a.second.now a.from a.to c.min-a.result c.min-b.result
parted c = shared c.args.first.now c.args.second.now c.min-a.ensures c.min-b.ensures c.requires.0 c.requires.1

-- what is left behind the first slice's part has room for the second's
room : (c : After-fill) → let a = c.args in
    a.zeros + (c.min-b.result - c.min-a.result) + (a.to - c.min-b.result - (a.from - c.min-a.result)) ≤ length c.fill.new.c
room c = omega (arith, c.fill.auto.c, ((shared c.args.first.now c.args.second.now c.min-a.ensures c.min-b.ensures c.requires.0 c.requires.1)).count)

pub returns : goal.returns
returns c =
    let a = c.args in
    let x = mid_of c.min-a.result (c.min-b.result - c.min-a.result) a.first.now in
    let y = mid_of (a.from - c.min-a.result) (a.to - c.min-b.result - (a.from - c.min-a.result)) a.second.now in
    let long = length_mid c.min-a.result c.min-b.result a.first.now (parted (goal.at.returns c).After-min-b).first_end_lem in
    let place = a.zeros + (c.min-b.result - c.min-a.result) in
    let put = c.fill.new.c in
    let room_for : length y ≤ length (mid_of place (length put - place) put) =
    rw (length_mid (a.from - c.min-a.result) (a.to - c.min-b.result) a.second.now (parted (goal.at.returns c).After-min-b).second_end_lem, length_mid place (length put) put (omega arith))
    (behind _ place (length put) (room (goal.at.returns c).After-fill))
    in
    filled_both a.zeros x y a.c.now (ap (λ (n : ℕ). a.zeros + n) (sym long)) c.fill.ensures (copied y _ (over _ _ c.copy.ensures room_for))
    ∙ ap (λ (l : List ℕ). filled_with a.zeros l a.c.now) (parted (goal.at.returns c).After-min-b).joined
