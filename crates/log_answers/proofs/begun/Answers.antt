-- `log_answers::begun` meets its contract.
-- Assumes nothing.
use mathlib.Core.Path.{ap, ◌∙◌}
use mathlib.Core.Bool.{false}
use Rattle.slots.specs.Outcome.{Outcome, told}
use Rattle.log_input.specs.declared.Line.{Line}
use Rattle.log_input.specs.Line.{unread_line}
use Rattle.log_answers.specs.declared.Log.{Log}
use Rattle.log_answers.specs.Turn.{first_log}
use Rattle.log_answers.proofs.begun.Goals as goal

abbrev log_of : Outcome → Line → Log
log_of o l = record { step = record { state = o.state; four = false; written = 0 }; line = l }

pub returns : goal.returns
unfolding first_log
returns c =
    ap (log_of (told c.new-outcome.result)) c.unread.ensures ∙ ap (λ (o : Outcome). log_of o unread_line) c.new-outcome.ensures
