use mathlib.Core.Path.{◌≡◌}
use Prim.Native.Nat.{min, ◌+◌, ◌*◌}
use native.Mathlib.Omega.{arith}
use lib.ListN.{length}
use Rattle.report_code.specs.Code.{control_bits}
use Rattle.report_code.proofs.Linear.{length_block}
use Rattle.report_code.proofs.Repeating.{start, next, finish}
use Rattle.report_code.proofs.block.control_bits.Goals as goal

pub loop-turn-init : goal.loop-turn-init
loop-turn-init c = let none : min (32 * 0) (length c.args.out.now) ≡ 0 = omega arith in rw none (start (length_block _))

pub loop-turn-preserved : goal.loop-turn-preserved
loop-turn-preserved c =
    let e = c.turn_end-end.ensures in
    let at = 32 * c.loop-turn.turn in
    let here : min at (length c.args.out.now) ≡ at = omega (arith, c.loop-turn-test.true, c.div_ceil-turn-end.ensures) in
    let there : min (32 * (c.loop-turn.turn + 1)) (length c.args.out.now) ≡ c.turn_end-end.result = grind (arith, e.0, e.1, e.2, e.3) in
    rw there (next (rw here at c.loop-turn.invariant) (omega (arith, c.loop-turn-test.true, c.div_ceil-turn-end.ensures)) e.0 (omega (arith, e.1)) e.2 (λ h. e.3 (omega arith)) c.coded_block-bits.ensures c.copy_from_slice.ensures.after)

pub returns : goal.returns
unfolding control_bits
returns c = finish c.loop-turn.invariant (omega (arith, c.div_ceil-turn-end.ensures))
