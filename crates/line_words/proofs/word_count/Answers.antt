-- `line_words::word_count` meets its contract: a line has one word more than blanks.
-- Assumes nothing.
use Rattle.std.proofs.Common.{◌≡◌, eqb, count_by, rules}
use Rattle.line_words.specs.Words.{blank}
use Rattle.line_words.proofs.WordLaws.{words_counted}
use Rattle.line_words.proofs.word_count.Goals as goal

pub returns : goal.returns
returns c =
    let n : c.count.result ≡ count_by (λ b. eqb b blank) c.args.line.now = search rules in
    rw n (words_counted c.args.line.now)
