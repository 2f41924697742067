-- The words' bits, and behind them those of the last word that they lack (`Few`).
use Rattle.check_bits.proofs.Few.{word_lt, below_16, two_small, from_16}
use borrow.Author.Rules.{rules}
use Rattle.check_bits.proofs.gathered_few.Goals as goal

pub returns-then-k-lt16 : goal.returns-then-k-lt16
returns-then-k-lt16 c =
    below_16 c.args.bits.now (λ i. (c.type_inv.bits i).fits)
    c.eight-a.ensures
    c.eight-z.ensures
    c.if-a-z-ne0.false
    c.packed.ensures
    c.packed-then-k-lt16.ensures
    c.requires.0
    c.if-k-lt16.true
    c.with_last.ensures

pub with_last-requires-2 : goal.with_last-requires-2
with_last-requires-2 c =
    (two_small (word_lt c.eight-a.result c.packed-2.ensures) (word_lt c.eight-b.result c.packed-3.ensures), search rules)

pub returns : goal.returns
returns c =
    from_16 c.args.bits.now (λ i. (c.type_inv.bits i).fits)
    c.eight-a.ensures
    c.eight-z.ensures
    c.if-a-z-ne0.false
    c.packed-2.ensures
    c.packed-4.ensures
    c.eight-b.ensures
    c.if-b-ne0.false
    c.packed-3.ensures
    c.if-k-lt16.false
    c.requires.1
    c.with_last-2.ensures
