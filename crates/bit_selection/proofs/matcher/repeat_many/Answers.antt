-- `matcher::repeat_many` meets its contract: whole turns, repeated, are the turn repeated.
-- Assumes nothing.
use mathlib.Core.Path.{sym, ◌∙◌, ap}
use mathlib.Core.List.{List}
use Prim.Native.Nat.{ℕ}
use lib.ListN.{length}
use Rattle.laws.specs.Lists.{tab}
use Rattle.rate_matching.specs.Walk.{turn_after_turn}
use Rattle.laws.proofs.Parts.{fresh_count}
use Rattle.bit_selection.proofs.Rooms.{back_front}
use Rattle.bit_selection.proofs.Turns.{turns_fit, turns_some, many_turns}
use Rattle.bit_selection.proofs.matcher.repeat_many.Goals as goal

pub returns : goal.returns
returns c =
    let front = back_front 0 2048 _ (turns_fit 2048 (length c.args.ring.now)) c.repeat.new.out c.repeat.auto.out in
    let count = fresh_count {A = ℕ} 0 2048 _ (turns_fit 2048 (length c.args.ring.now)) in
    c.repeat-2.ensures
    ∙ ap (λ (l : List ℕ). tab (length c.args.out.now) (turn_after_turn l)) (front ∙ c.repeat.ensures ∙ ap (λ (k : ℕ). tab k (turn_after_turn c.args.ring.now)) (sym count))
    ∙ many_turns c.args.ring.now _ _ (turns_some 2048 _ c.requires.0 c.requires.1)
