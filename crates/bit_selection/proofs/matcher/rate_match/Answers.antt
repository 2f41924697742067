-- `matcher::rate_match` meets its contract: an empty `out` and a refusal stay as they are, else the block is matched.
-- Assumes nothing.
use mathlib.Core.Path.{sym, ◌∙◌}
use Rattle.rate_matching.proofs.MatchableBlocks.{matchable_told}
use Rattle.bit_selection.proofs.Block.{nothing_is, refused_is}
use Rattle.bit_selection.proofs.matcher.rate_match.Goals as goal

pub returns-then-out-eq0 : goal.returns-then-out-eq0
returns-then-out-eq0 c = nothing_is _ _ _ _ _ _ _ c.if-out-eq0.true

pub returns-then-not-matchable : goal.returns-then-not-matchable
returns-then-not-matchable c = refused_is _ _ _ _ _ _ _ (sym c.matchable.ensures ∙ c.if-not-matchable.true)

pub invariant_of-match_block : goal.invariant_of-match_block
invariant_of-match_block c = record { fits = (matchable_told (sym c.matchable.ensures ∙ c.if-not-matchable.false)).fits }
