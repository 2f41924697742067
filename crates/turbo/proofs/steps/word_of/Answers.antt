-- The bytes of the number that the library reads are those that it reads it from.
use Rattle.std.proofs.Common.{◌≡◌, ◌∙◌, arith}
use lib.Seq.{take_all}
use Rattle.turbo.proofs.Bytes.{word_is}
use Rattle.turbo.proofs.steps.word_of.Goals as goal

pub returns : goal.returns
returns c =
    let bits = c.args.bits.now in
    let chunk = rw c.unwrap.ensures at c.first_chunk.ensures.cases in
    let same : c.unwrap.result.now ≡ bits = chunk.same ∙ take_all 8 bits (omega arith) in
    word_is bits c.from_le_bytes.result c.requires (λ i. (c.type_inv.bits i).fits) (rw same at c.from_le_bytes.ensures)
