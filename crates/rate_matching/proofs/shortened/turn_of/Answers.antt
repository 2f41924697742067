-- `shortened::turn_of` meets its contract: the share gives N_cb, and the test decides.
-- Assumes nothing.
use mathlib.Core.Path.{◌≡◌, sym, ◌∙◌, ap}
use mathlib.Core.Bool.{true}
use Rattle.std.specs.declared.option.Option.TheVariants.{Some}
use Rattle.rate_matching.specs.Turns.{matchable}
use Rattle.rate_matching.proofs.Turns.{turn_none, turn_told}
use Rattle.rate_matching.proofs.shortened.turn_of.Goals.{Else-not-matchable}
use Rattle.rate_matching.proofs.shortened.turn_of.Goals as goal

-- past the test: what it tells
told : (c : Else-not-matchable) → let e = c.args in matchable e.d e.d e.d e.filler c.cut_at-ncb.result e.version ≡ true
told c = sym c.matchable.ensures ∙ c.if-not-matchable.false

pub returns-then-not-matchable : goal.returns-then-not-matchable
returns-then-not-matchable c = turn_none _ _ _ _ c.cut_at-ncb.ensures (sym c.matchable.ensures ∙ c.if-not-matchable.true)

pub returns : goal.returns
returns c = ap Some c.turn_in.ensures ∙ turn_told _ _ _ _ c.cut_at-ncb.ensures (told (goal.at.returns c).Else-not-matchable)
