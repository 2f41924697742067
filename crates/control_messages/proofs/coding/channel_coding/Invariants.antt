-- `coding::channel_coding` meets its contract: the three coded bits of one bit a turn.
-- Assumes nothing.
use Rattle.control_messages.specs.Working.{three}
use Rattle.control_messages.proofs.Tabbing.{Tabbing}
use Rattle.control_messages.proofs.coding.channel_coding.Given as goal

abbrev pub invariant-loop-k : goal.invariant-loop-k
invariant-loop-k l = Tabbing (three l.bits) 80 l.initial.coded l.coded l.k
