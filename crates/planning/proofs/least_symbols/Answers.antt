use native.Mathlib.Omega.{arith}
use Rattle.planning.proofs.Looking as looking
use Rattle.planning.proofs.least_symbols.Goals as goal

pub loop-r-init : goal.loop-r-init
loop-r-init c = looking.start c.requires c.segments_for-s.ensures

pub need_of-requires : goal.need_of-requires
need_of-requires c = looking.sizes_fit c.loop-r.invariant c.loop-r-test.true c.size_of-size.ensures c.filler_of-filler.ensures

pub overflow_mul-s : goal.overflow_mul-s
overflow_mul-s c =
    omega (arith, (looking.product_fits c.loop-r.invariant c.loop-r-test.true c.size_of-size.ensures c.filler_of-filler.ensures c.need_of.ensures c.div_ceil-units.ensures).1)

pub overflow_sub-s : goal.overflow_sub-s
overflow_sub-s c =
    (looking.product_fits c.loop-r.invariant c.loop-r-test.true c.size_of-size.ensures c.filler_of-filler.ensures c.need_of.ensures c.div_ceil-units.ensures).0

pub loop-r-preserved : goal.loop-r-preserved
loop-r-preserved c =
    looking.next c.loop-r.invariant c.loop-r-test.true c.size_of-size.ensures c.filler_of-filler.ensures c.need_of.ensures c.div_ceil-units.ensures c.max-least.ensures

pub returns : goal.returns
returns c = looking.finish c.loop-r.invariant c.loop-r-test.false
