use mathlib.Core.Path.{refl, sym, ◌∙◌}
use native.Mathlib.Omega.{arith}
use lib.ListN.{length-set}
use Rattle.laws.proofs.Tab.{tab_rest, rest_none}
use Rattle.laws.proofs.Writing.{start, same, finish_all}
use Rattle.report_code.proofs.Entries.{entry_next}
use Rattle.report_code.proofs.Planes.{digit_at, digits_tab}
use Rattle.report_code.proofs.counts.digits_of.Goals as goal

pub loop-i-init : goal.loop-i-init
loop-i-init c = (omega arith, refl, same (sym (tab_rest _ _)) start)

pub loop-i-preserved : goal.loop-i-preserved
unfolding digit_at
loop-i-preserved c = (
  omega arith,
  simp length-set c.loop-i.invariant.1,
  entry_next 32 (digit_at c.args.counts.now c.args.p) (omega arith) (omega arith) refl
      c.loop-i.invariant.2,
)

pub returns : goal.returns
returns c = finish_all (omega arith) (rest_none _ _ _ (omega arith)) c.loop-i.invariant.2 ∙ sym (digits_tab _ _ _ c.requires.1)
