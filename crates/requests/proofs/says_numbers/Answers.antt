-- `requests::says_numbers` meets its contract: `all` asks each word behind the verb.
-- Assumes nothing.
use Rattle.std.proofs.Common.{◌+◌, ◌∙◌, refl, rules, arith, tests}
use Rattle.std.proofs.lemmas.Iterator.{YieldsList-from_range}
use Rattle.std.proofs.lemmas.Iterator.Search.{all_from_yields_List}
use Rattle.requests.specs.Numbers.{says_number}
use Rattle.requests.proofs.Forms.{said_all}
use Rattle.requests.proofs.says_numbers.Goals as goal

pub returns : goal.returns
returns c =
    let line = c.args.line.now in
    let form = c.args.form in
    all_from_yields_List (λ i. says_number line form (i + 1)) _ _ c.all.result c.all.ensures.ran (YieldsList-from_range 0 form.numbers form.numbers refl (omega arith)) (λ x b q k. search (rules, tests))
    ∙ said_all line form 0 form.numbers
