-- The number that is written is the eight steps' output (`Stepping`).
use mathlib.Core.Path.{sym, ◌∙◌, ap₂}
use mathlib.Core.List.{◌++◌, append-nil}
use native.Mathlib.Omega.{arith}
use lib.ListN.{drop_of_length-le}
use Rattle.turbo.specs.inner.Eight.{shl}
use Rattle.turbo.proofs.Bytes.{written}
use Rattle.turbo.proofs.Stepping.{eight_outputs, eight_after}
use Rattle.turbo.proofs.steps.eight_steps.Goals as goal

pub returns-clause-outputs : goal.returns-clause-outputs
unfolding shl
returns-clause-outputs c =
    let a = c.args in
    ap₂ ◌++◌ (c.to_le_bytes.ensures ∙ written _) (drop_of_length-le a.bits.now {i = 8} (omega arith))
    ∙ append-nil _
    ∙ sym (eight_outputs a.held c.divided-entering.result c.requires.0 (omega arith) c.word_of.result c.divided-entering.ensures c.word_of.ensures)

pub returns-clause-registers : goal.returns-clause-registers
returns-clause-registers c =
    sym (eight_after c.args.held c.divided-entering.result c.requires.0 (omega arith) c.word_of.result c.divided-entering.ensures c.word_of.ensures)
