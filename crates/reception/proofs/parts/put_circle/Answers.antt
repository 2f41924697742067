-- `parts::put_circle` meets its contract: the circle is as long as before, so its data places are counted (`Circles`).
-- Assumes nothing.
use Rattle.reception.proofs.Circles.{circle_counted}
use Rattle.reception.proofs.Sends.{sends_on}
use Rattle.reception.proofs.parts.put_circle.Goals as goal

pub returns : goal.returns
returns c =
    record { stored = c.put_block.ensures; count = circle_counted _ c.args.sent.holds (sends_on c.args.sent c.requires.0) c.put_block.auto.part c.lacking_of.ensures }
