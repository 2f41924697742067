use mathlib.Core.Path.{refl, sym}
use native.Mathlib.Omega.{arith}
use lib.ListN.{length-set}
use Rattle.laws.proofs.Tab.{tab_rest, rest_none}
use Rattle.laws.proofs.Writing.{start, same, finish_all}
use Rattle.report_code.specs.Code.{coded_bit, block}
use Rattle.report_code.specs.Words.{message_bits}
use Rattle.report_code.proofs.Entries.{entry_next}
use Rattle.report_code.proofs.RowMasks.{coded_told}
use Rattle.report_code.proofs.block.coded_block.Goals as goal

pub loop-i-init : goal.loop-i-init
loop-i-init c = (omega arith, refl, same (sym (tab_rest _ _)) start)

pub loop-i-preserved : goal.loop-i-preserved
loop-i-preserved c = (
  omega arith,
  simp length-set c.loop-i.invariant.1,
  entry_next 32 (coded_bit (message_bits 11 c.args.message)) (omega arith) (omega arith)
      (coded_told _ _ c.rows-rows.ensures (omega arith))
      c.loop-i.invariant.2,
)

pub returns : goal.returns
unfolding block
returns c = finish_all (omega arith) (rest_none _ _ _ (omega arith)) c.loop-i.invariant.2
