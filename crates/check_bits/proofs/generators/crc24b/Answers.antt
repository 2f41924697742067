-- Each entry of the two tables passes the test.
use Rattle.laws.specs.inner.Computed.{all_below}
use Rattle.check_bits.specs.CheckBits.{crc_step, crc_from, g_crc24b}
use Rattle.check_bits.specs.inner.Stride.{after}
use Rattle.check_bits.proofs.Stride.{right, tested}
use Rattle.check_bits.proofs.generators.crc24b.Goals as goal

pub invariant_of-result : goal.invariant_of-result
unfolding all_below right after crc_from crc_step
invariant_of-result c = record { near_is = tested 24 g_crc24b _ tt; far_is = tested 48 g_crc24b _ tt }
