-- What the two lent parts came back as, put together (`filled`).
use Rattle.octets.proofs.Copied.{over}
use Rattle.std.proofs.Common.{arith}
use Rattle.std.proofs.lemmas.Grind.{common_steps}
use Rattle.laws.proofs.Copied.{copied}
use Rattle.segmentation.proofs.Tails.{filled}
use Rattle.segmentation.proofs.block.fill.Goals as goal

pub returns : goal.returns
returns c =
    filled c.args.zeros c.args.part.now c.args.c.now c.fill.new.self c.copy.new.to
    c.requires (c.fill.ensures.after (λ y e. e)) (copied c.args.part.now _ (over _ _ c.copy.ensures (grind (arith, common_steps))))
