use Prim.Native.Nat.{◌<◌}
use native.Mathlib.Omega.{arith}
use lib.ListN.{length}
use Rattle.lines.proofs.Numbers.{inside, next, finish}
use Rattle.lines.proofs.put_numbers.Goals.{After-field_end}
use Rattle.lines.proofs.put_numbers.Goals as goal

-- the place of the tab or the newline
in_out : (c : After-field_end) → c.put_decimal-mark.result < length c.put_decimal-mark.new.out
in_out c =
    let head = c.loop-i in
    let small = c.type_inv.numbers head.i in
    inside head.invariant (omega arith) small.fits (c.put_decimal-mark.ensures.value, c.put_decimal-mark.ensures.out_after)

pub bounds-out-mark : goal.bounds-out-mark
bounds-out-mark c = in_out (goal.at.bounds-out-mark c).After-field_end

pub overflow_add-end : goal.overflow_add-end
overflow_add-end c = omega (arith, in_out (goal.at.overflow_add-end c).After-field_end, c.put_decimal-mark.auto.out)

pub loop-i-preserved : goal.loop-i-preserved
loop-i-preserved c =
    let head = c.loop-i in
    let small = c.type_inv.numbers head.i in
    next head.invariant (omega arith) small.fits (c.put_decimal-mark.ensures.value, c.put_decimal-mark.ensures.out_after) c.field_end.ensures

pub returns : goal.returns
returns c =
    let told = finish (omega arith) (omega arith) c.loop-i.invariant in
    record { value = told.0; out_after = told.1 }
