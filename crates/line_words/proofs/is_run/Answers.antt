-- `line_words::is_run` meets its contract: `all` asks each byte whether it is a digit.
-- Assumes nothing.
use Rattle.std.proofs.Common.{◌≡◌, ◌∙◌, rules, arith, tests}
use Rattle.std.specs.List.{list_all}
use Rattle.std.proofs.lemmas.Iterator.{YieldsList-from_slice}
use Rattle.std.proofs.lemmas.Iterator.Search.{all_from_yields_List}
use Rattle.std.specs.Char.{is_ascii_digit}
use Rattle.std.proofs.lemmas.Bool.Decides.{nat_tests}
use Rattle.line_words.specs.Words.{is_run}
use Rattle.line_words.proofs.Runs.{digits_all}
use Rattle.line_words.proofs.is_run.Goals as goal

pub returns-then-not-is_empty : goal.returns-then-not-is_empty
unfolding is_run
returns-then-not-is_empty c =
    let all : c.all.result ≡ list_all is_ascii_digit c.args.bytes.now =
    all_from_yields_List is_ascii_digit _ _ c.all.result c.all.ensures.ran (YieldsList-from_slice c.args.bytes.now c.iter.ensures.rest) (λ x b q k. search (rules, tests)) in
    rw (all ∙ digits_all c.args.bytes.now) (grind (arith, nat_tests))

pub returns-else-not-is_empty : goal.returns-else-not-is_empty
unfolding is_run
returns-else-not-is_empty c = grind (arith, nat_tests)
