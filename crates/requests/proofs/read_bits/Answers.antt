use Rattle.requests.proofs.WrittenBits.{behind, short, all, next}
use Rattle.std.proofs.Common.{arith}
use Rattle.requests.proofs.read_bits.Goals as goal

pub returns-then-out-digits : goal.returns-then-out-digits
returns-then-out-digits c =
    let told = short c.args.line.now c.args.from (behind c.args.line.now c.args.from c.min.ensures) c.args.out.now c.if-out-digits.true in
    record { value = told.0; out_after = told.1 }

pub loop-i-preserved : goal.loop-i-preserved
loop-i-preserved c = next c.loop-i.invariant (omega arith) c.bit_of.ensures

pub returns : goal.returns
returns c =
    let told = all c.args.line.now c.args.from (behind c.args.line.now c.args.from c.min.ensures) c.loop-i.invariant (omega arith) in
    record { value = told.0; out_after = told.1 }
