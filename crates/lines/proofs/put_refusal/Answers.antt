-- `lines::put_refusal` meets its contract: `refused`, the number and the newline are put one after another.
-- Assumes nothing.
use mathlib.Core.Path.{◌∙◌}
use native.Mathlib.Omega.{arith}
use Rattle.refusals.proofs.Numbers.{number_most}
use Rattle.lines.proofs.Refusals.{refusal_put}
use Rattle.lines.proofs.put_refusal.Goals as goal

pub returns : goal.returns
returns c =
    let no = c.from-2.ensures ∙ c.from.ensures in
    let told = refusal_put c.args.at c.from-2.result c.args.out.now (omega (arith, no, number_most c.args.refusal)) (omega arith) (c.put_bytes-number.ensures.value, c.put_bytes-number.ensures.out_after) (c.put_decimal-end.ensures.value, c.put_decimal-end.ensures.out_after) (c.put_bytes.ensures.value, c.put_bytes.ensures.out_after) in
    record { value = rw (← no) told.0; out_after = rw (← no) told.1 }
