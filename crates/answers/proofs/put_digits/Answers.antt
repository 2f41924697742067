use mathlib.Core.Path.{sym}
use Prim.Native.Nat.{◌+◌, ◌<◌}
use native.Mathlib.Omega.{arith}
use lib.ListN.{length}
use Rattle.lines.proofs.Putting.{put_none, end_none}
use Rattle.answers.specs.Rows.{digits_of}
use Rattle.answers.proofs.Digits.{digits_length, next, finish}
use Rattle.answers.proofs.put_digits.Goals.{then-out-at-via-then-out-at, then-out-at-via-else-out-at+then-out-at-2}
use Rattle.answers.proofs.put_digits.Goals as goal

pub returns-then-out-at : goal.returns-then-out-at
returns-then-out-at c =
    let args = c.args in
    let long = digits_length args.bits.now in
    let short : length args.out.now < args.at + length (digits_of args.bits.now) =
    elim c.then-out-at.branch [
      | then-out-at-via-then-out-at w ↦ omega arith
      | then-out-at-via-else-out-at+then-out-at-2 w ↦ omega arith
    ] in
    record { value = sym (end_none _ _ _ short); out_after = sym (put_none _ _ _ short) }

pub loop-i-preserved : goal.loop-i-preserved
loop-i-preserved c = next (omega arith) c.loop-i.invariant

pub returns : goal.returns
returns c =
    let told = finish (omega arith) c.loop-i.invariant in
    record { value = told.0; out_after = told.1 }
