-- `fours::by_fours` meets its contract: what is joined, found and spread is what the law of the quarters says.
-- Assumes nothing.
use mathlib.Core.Path.{◌≡◌, ◌∙◌}
use Prim.Native.Nat.{◌*◌, ◌/◌, ◌≤◌}
use native.Mathlib.Omega.{arith}
use lib.ListN.{length, take}
use Rattle.laws.proofs.Parts.{front_count}
use Rattle.interleaver.proofs.Quarters.{countable, found_spread, quarter_found}
use Rattle.interleaver.proofs.fours.by_fours.Goals.{After-find}
use Rattle.interleaver.proofs.fours.by_fours.Goals as goal

-- a quarter of them is there
quarter : (c : After-find) → let bits = c.args.c.now in
    (length bits / 4 ≤ length c.find.new.y) × (length bits ≡ 4 * length (take (length bits / 4) c.find.new.y))
quarter c =
    quarter_found c.requires.0 c.requires.1 c.join_all.ensures _ _ c.requires.2 c.find.auto.y

pub find-requires : goal.find-requires
find-requires c =
    (countable c.requires.0 c.requires.1 c.join_all.ensures, c.requires.3, c.requires.4)

pub slice_bounds-spread_all-end : goal.slice_bounds-spread_all-end
slice_bounds-spread_all-end c = (quarter (goal.at.slice_bounds-spread_all-end c).After-find).0

pub slice_bounds-spread_all-end-2 : goal.slice_bounds-spread_all-end-2
slice_bounds-spread_all-end-2 c = front_count _ _ (quarter (goal.at.slice_bounds-spread_all-end-2 c).After-find).0

pub spread_all-requires : goal.spread_all-requires
spread_all-requires c =
    let whole = (quarter (goal.at.spread_all-requires c).After-find).1 in (
      omega (arith, c.requires.1.f1_below, c.requires.1.most),
      omega (arith, whole, c.requires.0.most),
      omega (arith, c.join_all.auto.out, c.requires.0.room, whole),
    )

pub returns : goal.returns
returns c =
    c.spread_all.ensures ∙ found_spread c.requires.0 c.requires.1 c.join_all.ensures _ c.requires.2 c.find.ensures
