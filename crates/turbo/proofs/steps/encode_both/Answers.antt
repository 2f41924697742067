-- Eight bytes of each stream a turn.
use mathlib.Core.Path.{◌≡◌, ◌∙◌, ap}
use Prim.Native.Nat.{ℕ, ◌*◌, ◌+◌}
use native.Mathlib.Omega.{arith}
use Rattle.turbo.specs.inner.Eight.{reach, eights, encoded_front, front_end}
use Rattle.turbo.proofs.InEights.{begin, turn, moved}
use Rattle.turbo.proofs.steps.encode_both.Goals.{After-loop-turn}
use Rattle.turbo.proofs.steps.encode_both.Goals as goal

pub loop-turn-init : goal.loop-turn-init
loop-turn-init c = (begin _, begin _)

pub loop-turn-preserved : goal.loop-turn-preserved
loop-turn-preserved c =
    let p = c.loop-turn.invariant in
    let first = c.eight_steps-s.ensures in
    let second = c.eight_steps-t.ensures in
    let on : 8 * c.loop-turn.turn + 8 ≡ 8 * (c.loop-turn.turn + 1) = omega arith in (
      moved on (turn p.0 (omega arith) first.small first.outputs first.registers),
      moved on (turn p.1 (omega arith) second.small second.outputs second.registers),
    )

-- the loop ends where both streams have no eight bytes more
all : (c : After-loop-turn) → 8 * c.loop-turn.turn ≡ reach c.args.first.now c.args.second.now
unfolding eights
all c = omega arith

pub returns-clause-one : goal.returns-clause-one
returns-clause-one c = c.loop-turn.invariant.0.outputs ∙ ap (λ (n : ℕ). encoded_front n c.args.first.now) (all (goal.at.returns-clause-one c).After-loop-turn)

pub returns-clause-two : goal.returns-clause-two
returns-clause-two c = c.loop-turn.invariant.1.outputs ∙ ap (λ (n : ℕ). encoded_front n c.args.second.now) (all (goal.at.returns-clause-two c).After-loop-turn)

pub returns-clause-ends : goal.returns-clause-ends
returns-clause-ends c =
    let whole = all (goal.at.returns-clause-ends c).After-loop-turn in (
      c.registers_of.ensures ∙ c.loop-turn.invariant.0.registers ∙ ap (λ (n : ℕ). front_end n c.args.first.now) whole,
      c.registers_of-2.ensures ∙ c.loop-turn.invariant.1.registers ∙ ap (λ (n : ℕ). front_end n c.args.second.now) whole,
    )
