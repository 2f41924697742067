use mathlib.Core.Path.{refl, sym, ◌∙◌, ap}
use native.Mathlib.Omega.{arith}
use lib.ListN.{length, length-set}
use Rattle.report_code.specs.Words.{number_of}
use Rattle.report_code.proofs.Entries.{entry_next, entries_kept}
use Rattle.laws.proofs.Tab.{tab_rest}
use Rattle.laws.proofs.Writing.{start, same}
use Rattle.report_code.specs.inner.Counts.{plane}
use Rattle.report_code.proofs.Planes.{digits_bits, length_digits}
use Rattle.report_code.proofs.counts.planes_of.Goals as goal

pub loop-p-init : goal.loop-p-init
loop-p-init c = (omega arith, refl, same (sym (tab_rest _ _)) start)

pub packed-requires : goal.packed-requires
packed-requires c = (rw c.digits_of.ensures (digits_bits _ _), ap length c.digits_of.ensures ∙ length_digits _ _ ∙ c.requires.1)

pub loop-p-preserved : goal.loop-p-preserved
unfolding plane
loop-p-preserved c = (
  omega arith,
  simp length-set c.loop-p.invariant.1,
  entry_next c.args.count (plane c.args.counts.now) (omega arith) (omega (arith, c.loop-p.invariant.1, c.requires.0))
      (c.packed.ensures ∙ ap number_of c.digits_of.ensures)
      c.loop-p.invariant.2,
)

pub returns : goal.returns
returns c = entries_kept 10 _ _ (omega arith) (omega arith) c.loop-p.invariant.2
