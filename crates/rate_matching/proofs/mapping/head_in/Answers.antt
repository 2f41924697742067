-- `mapping::head_in` meets its contract: a unit begins where its column does, and stream 2 stands one behind stream 1 (`Matrix`).
-- Assumes nothing.
use mathlib.Core.Path.{◌≡◌, sym, ◌∙◌, ap}
use Prim.Native.Nat.{ℕ, ◌+◌, ◌-◌, ◌*◌}
use native.Mathlib.Nat.{mul-le-mul_right}
use native.Mathlib.Omega.{arith}
use Rattle.rate_matching.specs.declared.Unit.{Unit}
use Rattle.rate_matching.specs.SubBlocks.{rows}
use Rattle.rate_matching.specs.Places.{circle_place}
use Rattle.rate_matching.specs.Matrix.{column_head}
use Rattle.rate_matching.specs.Units.{column_unit, pair_unit}
use Rattle.rate_matching.proofs.Matrix.{pair_head, by_turns_lem}
use Rattle.rate_matching.proofs.mapping.head_in.Goals.{After-pair_unit}
use Rattle.rate_matching.proofs.mapping.head_in.Goals as goal

-- where the pair begins
begun : (c : After-pair_unit) → let e = c.args in c.pair_unit.result.begin.0 ≡ column_head (rows e.d) 1 e.c
unfolding pair_unit
begun c = ap (λ (x : Unit). x.begin.0) c.pair_unit.ensures

pub returns-then-stream-eq0 : goal.returns-then-stream-eq0
unfolding column_unit
returns-then-stream-eq0 c =
    let e = c.args in
    ap (λ (x : Unit). x.begin) c.column_unit.ensures ∙ ap (λ (s : ℕ). circle_place (column_head (rows e.d) s e.c)) (sym c.if-stream-eq0.true)

pub overflow_add-result : goal.overflow_add-result
unfolding rows
overflow_add-result c =
    let R = rows c.args.d in
    omega (arith, begun (goal.at.overflow_add-result c).After-pair_unit, pair_head R c.args.c, mul-le-mul_right (2 * R) c.requires.3, c.requires.1, c.requires.2)

pub returns : goal.returns
returns c =
    let e = c.args in
    ap circle_place (ap (λ (n : ℕ). n + (e.stream - 1)) (begun (goal.at.returns c).After-pair_unit) ∙ by_turns_lem (rows e.d) e.stream e.c c.if-stream-eq0.false)
