-- `line_words::word` meets its contract: the parts between blanks are the words.
-- Assumes nothing.
use denote.Ref.{Bor}
use Rattle.std.specs.List.{slice_get}
use Rattle.std.proofs.Common.{◌≡◌, ◌∙◌, ℕ, Option, None, Some, option_map, unwrap_or, List, [], eqb, ap, refl, get_or, rules, tests}
use Rattle.std.proofs.lemmas.Option.{unwrap_or-slice_get}
use Rattle.std.proofs.lemmas.Iterator.Consumers.{nth_from_yields_List}
use Rattle.std.proofs.lemmas.Iterator.Splits.{YieldsList-from_slice_split}
use Rattle.line_words.specs.Words.{blank, words_of, word_at}
use Rattle.line_words.proofs.WordLaws.{words_split}
use Rattle.line_words.proofs.word.Goals as goal

-- the part that is given, or else an empty one
chosen : (given : Option (Bor (List ℕ))) (i : ℕ) (ws : List (List ℕ)) (other : Bor (List ℕ)) → other.now ≡ []
    → option_map (λ (x : Bor (List ℕ)). x.now) given ≡ slice_get ws i → (unwrap_or given other).now ≡ get_or ws i []
chosen None i ws other none e = none ∙ ap (λ (o : Option (List ℕ)). unwrap_or o []) e ∙ unwrap_or-slice_get ws i []
chosen (Some w) i ws other none e = ap (λ (o : Option (List ℕ)). unwrap_or o []) e ∙ unwrap_or-slice_get ws i []

pub returns : goal.returns
unfolding word_at
returns c =
    let line = c.args.line.now in
    let part = nth_from_yields_List _ _ _ c.nth.ensures.ran
    (YieldsList-from_slice_split _ (λ b. eqb b blank) line c.split.ensures.rest c.split.ensures.done c.split.ensures.closure (λ x b q k. search (rules, tests))) in
    rw c.unwrap_or.ensures (chosen c.nth.result c.args.i (words_of line) _ refl (rw words_split at part))
