-- A word of whose bytes only the lowest bits are set is eight bits, and the packing keeps them.
use Rattle.check_bits.proofs.Gathering.{gathers}
use Rattle.check_bits.proofs.gathered.Goals as goal

pub returns : goal.returns
returns c =
    gathers c.args.bits.now (λ i. (c.type_inv.bits i).fits) c.args.from c.requires
    c.eight-a.ensures
    c.eight-b.ensures
    c.eight-c.ensures
    c.if-a-b-ne0.false
    c.packed.ensures
    c.packed-2.ensures
    c.packed-3.ensures
