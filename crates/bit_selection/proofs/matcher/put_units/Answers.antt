-- `matcher::put_units` meets its contract: columns, pairs, or columns and then pairs.
-- Assumes nothing.
use Prim.Native.Nat.{◌≤◌}
use native.Mathlib.Omega.{arith}
use Rattle.bit_selection.proofs.Ring.{columns_room, pairs_room, columns_pairs}
use Rattle.bit_selection.proofs.matcher.put_units.Goals.{Else-from-ge32}
use Rattle.bit_selection.proofs.matcher.put_units.Goals as goal

-- columns and then pairs: the units lie on both sides of unit 32
low : (c : Else-from-ge32) → c.args.from ≤ 32
low c = omega (arith, c.if-from-ge32.false)

high : (c : Else-from-ge32) → 32 ≤ c.args.to
high c = omega (arith, c.if-to-le32.false)

pub put_columns-mid-requires : goal.put_columns-mid-requires
put_columns-mid-requires c =
    let at = (goal.at.put_columns-mid-requires c).Else-from-ge32 in
    (low at, omega arith, c.requires.2, columns_room c.args.n (low at) (high at) c.requires.3)

pub put_pairs-requires-2 : goal.put_pairs-requires-2
put_pairs-requires-2 c =
    let at = (goal.at.put_pairs-requires-2 c).Else-from-ge32 in
    let put = c.put_columns-mid.ensures in
    (omega arith, high at, c.requires.1, put.inside, pairs_room c.args.n (low at) (high at) c.requires.3 put.within c.put_columns-mid.auto.ring)

pub returns : goal.returns
returns c =
    let at = (goal.at.returns c).Else-from-ge32 in
    columns_pairs _ _ _ _ _ _ _ (low at) (high at) c.put_columns-mid.ensures c.put_pairs-2.ensures
