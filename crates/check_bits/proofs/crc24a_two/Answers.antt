-- One run after the other is the run over the joined bits.
use Rattle.check_bits.specs.CheckBits.{g_crc24a}
use Rattle.check_bits.proofs.Register.{check_joined}
use Rattle.check_bits.proofs.crc24a_two.Goals as goal

pub returns : goal.returns
returns c = check_joined 24 g_crc24a _ _ c.crc24a-s.ensures c.crc24a.ensures
