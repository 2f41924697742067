-- No such byte has been passed, so that the place of the first one is as it was from the start.
use Rattle.std.proofs.Common.{◌≡◌, ◌+◌, drop}
use Rattle.octets.specs.Bytes.{index_of}
use Rattle.octets.proofs.find.Given as goal

abbrev pub invariant-loop-at : goal.invariant-loop-at
invariant-loop-at l = l.at + index_of l.byte (drop l.at l.text) ≡ l.fn.from + index_of l.byte (drop l.fn.from l.text)
