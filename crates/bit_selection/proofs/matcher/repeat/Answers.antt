use mathlib.Core.Path.{◌≡◌, refl, sym, ap}
use Prim.Native.Nat.{ℕ, ◌+◌, ◌*◌, ◌/◌, ◌≤◌}
use native.Mathlib.Nat.{mod-lt, div-add-mod'}
use native.Mathlib.Omega.{arith}
use lib.ListN.{length}
use Rattle.bit_selection.proofs.Turns.{turn_within, turning_start, turning_next, turning_last}
use Rattle.bit_selection.proofs.matcher.repeat.Goals.{In-loop-turn}
use Rattle.bit_selection.proofs.matcher.repeat.Goals as goal

-- a turn more ends in `out`
within : (c : In-loop-turn) → c.loop-turn.turn * length c.args.ring.now + length c.args.ring.now ≤ length c.args.out.now
within c = turn_within c.loop-turn.turn _ _ _ refl c.loop-turn-test.true

pub loop-turn-init : goal.loop-turn-init
loop-turn-init c = turning_start

pub loop-turn-preserved : goal.loop-turn-preserved
loop-turn-preserved c =
    turning_next c.loop-turn.invariant c.requires (omega (arith, within (goal.at.loop-turn-preserved c).In-loop-turn, c.loop-turn.auto.out)) c.copy_from_slice.ensures.after

pub returns : goal.returns
returns c =
    let n = length c.args.ring.now in
    let all : c.loop-turn.turn ≡ length c.args.out.now / n = omega arith in
    let sum = ap (λ (k : ℕ). k * n) all in
    let left = div-add-mod' (length c.args.out.now) n in
    let few = mod-lt (length c.args.out.now) c.requires in
    rw (sym all) (turning_last c.loop-turn.invariant c.requires (omega (arith, sum, left, c.loop-turn.auto.out)) (omega (arith, sum, left, few, c.loop-turn.auto.out)) (rw (sym all) at c.copy_from_slice-2.ensures.after))
