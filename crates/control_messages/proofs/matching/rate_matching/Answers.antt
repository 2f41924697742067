-- `matching::rate_matching` meets its contract: the columns, the turn, the turn over and over.
-- Assumes nothing.
use mathlib.Core.Path.{◌∙◌, ap}
use Rattle.control_messages.specs.Working.{in_columns, one_turn}
use Rattle.control_messages.proofs.Interleaving.{length_in_columns}
use Rattle.control_messages.proofs.Turn.{turn_front, repeated}
use Rattle.control_messages.proofs.matching.rate_matching.Goals as goal

pub returns : goal.returns
returns c =
    repeated c.args.out.now (in_columns c.args.d c.args.coded.now) c.requires
    (c.put_streams.ensures
    ∙ ap (one_turn c.args.d) c.interleave.ensures
    ∙ turn_front _ _ (length_in_columns c.args.coded.now c.requires))
    c.turn_after_turn.ensures
