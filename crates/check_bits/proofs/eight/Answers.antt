-- The library's number is that of the definition.
use Rattle.std.proofs.Common.{◌≡◌, length, take, drop, ◌∙◌, ap}
use Rattle.check_bits.specs.inner.Stride.{word_of}
use Rattle.check_bits.proofs.Gathering.{word_is, part_length}
use Rattle.check_bits.proofs.Running.{from_on}
use Rattle.check_bits.proofs.eight.Goals as goal

pub returns : goal.returns
returns c =
    let bits = c.args.bits.now in
    let from = c.args.from in
    let chunk = rw c.unwrap.ensures at c.first_chunk.ensures.cases in
    let same : c.unwrap.result.now ≡ take 8 (drop from bits) = chunk.same ∙ ap (take 8) (from_on from bits) in
    c.from_le_bytes.ensures ∙ word_is c.unwrap.result.now (ap length same ∙ part_length bits 8 from c.requires) ∙ ap word_of same
