use mathlib.Core.Path.{refl, sym, ◌∙◌, ap}
use native.Mathlib.Omega.{arith}
use lib.ListN.{length-set}
use Rattle.report_code.proofs.CountingUp.{last_more}
use Rattle.report_code.proofs.Entries.{entry_next, entries_kept}
use Rattle.laws.proofs.Tab.{tab_rest}
use Rattle.laws.proofs.Writing.{start, same}
use Rattle.report_code.specs.Words.{word_of}
use Rattle.report_code.specs.inner.Search.{step_word}
use Rattle.report_code.proofs.search.steps_for.Goals as goal

pub loop-k-init : goal.loop-k-init
loop-k-init c = (omega arith, refl, refl, same (sym (tab_rest _ _)) start)

pub loop-k-preserved : goal.loop-k-preserved
unfolding step_word
loop-k-preserved c = (
  omega arith,
  simp length-set c.loop-k.invariant.1,
  last_more _ _ c.loop-k.invariant.2,
  entry_next c.args.o step_word (omega arith) (omega (arith, c.loop-k.invariant.1, c.requires))
      (c.coded_word.ensures ∙ ap word_of c.loop-k.invariant.2)
      c.loop-k.invariant.3,
)

pub returns : goal.returns
returns c = entries_kept 11 _ _ (omega arith) (omega arith) c.loop-k.invariant.3
