-- What was sent of one code block can be put on a list that has its circle.
-- Assumes nothing.
use Rattle.bit_placement.specs.inner.Along.{Sends}
use mathlib.Core.List.{List}
use Prim.Native.Nat.{ℕ, ◌+◌}
use lib.ListN.{length}
use Rattle.reception.specs.declared.sent.Sent.{Sent}
use Rattle.reception.specs.inner.Sent.{OnCircle}

pub sends_on : (sent : Sent) {places : List ℕ} → OnCircle sent places → Sends (sent.k + 4) sent.filler sent.soft sent.version (length places)
sends_on sent w = record {
  walked = record { least = sent.sends.walked.least; most = sent.sends.walked.most; some = sent.sends.walked.some; filler = sent.sends.walked.filler; fits = w.fits };
  cut = sent.sends.cut;
  version = sent.sends.version;
}
