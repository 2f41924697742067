-- `matcher::put_rest` meets its contract: enough bits, or the whole unit, of which the first count.
-- Assumes nothing.
use Rattle.bit_selection.proofs.Rest.{rest_put}
use Rattle.bit_selection.proofs.matcher.put_rest.Goals as goal

pub returns : goal.returns
returns c = rest_put c.requires.3 c.requires.2 c.put_pair.ensures
