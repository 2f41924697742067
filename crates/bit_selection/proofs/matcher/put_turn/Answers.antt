-- `matcher::put_turn` meets its contract: the whole units from the start on, the one that is cut and those before the start are one turn.
-- Assumes nothing.
use mathlib.Core.Path.{◌≡◌, refl, sym, ◌∙◌}
use Prim.Native.Nat.{◌<◌}
use native.Mathlib.Omega.{arith}
use lib.ListN.{length}
use Rattle.rate_matching.specs.Units.{unit_at}
use Rattle.rate_matching.proofs.UnitPlaces.{pair_found}
use Rattle.bit_selection.proofs.Block.{turn_there, Turned, first_needs, whole_high, cut_found, rest_needs, last_needs, turn_in, turn_uncut}
use Rattle.bit_selection.proofs.matcher.put_turn.Goals.{After-unwrap-turn, After-unwrap-cut}
use Rattle.bit_selection.proofs.matcher.put_turn.Goals as goal

told : (c : After-unwrap-turn) → let of = c.args.of in Turned of.d0.now of.d1.now of.d2.now of.filler c.args.ncb c.args.version c.unwrap-turn.result
told c = record { test = c.requires.0; found = sym c.unwrap-turn.ensures ∙ c.turn_of.ensures }

-- the unit that is cut
found : (c : After-unwrap-cut) → let of = c.args.of in c.unwrap-cut.result ≡ unit_at (length of.d0.now) of.filler c.unwrap-turn.result.whole
found c =
    pair_found _ _ c.pair_unit_at.ensures c.unwrap-cut.ensures
    (whole_high (record { test = c.requires.0; found = sym c.unwrap-turn.ensures ∙ c.turn_of.ensures }))

pub unwrap-turn-requires : goal.unwrap-turn-requires
unwrap-turn-requires c = rw (c.turn_of.ensures ∙ sym (turn_there _ _ _ _ _ _ c.requires.0)) refl

pub put_units-n-requires : goal.put_units-n-requires
put_units-n-requires c = first_needs (told (goal.at.put_units-n-requires c).After-unwrap-turn) c.requires.1

pub put_units-requires : goal.put_units-requires
put_units-requires c =
    last_needs (told (goal.at.put_units-requires c).After-unwrap-turn) c.requires.1 c.put_units-n.auto.ring c.put_units-n.ensures.within (omega arith) c.put_units-n.ensures.inside refl

pub returns-then-turn-eq0 : goal.returns-then-turn-eq0
returns-then-turn-eq0 c =
    turn_uncut (told (goal.at.returns-then-turn-eq0 c).After-unwrap-turn) c.requires.2 c.if-turn-eq0.true c.put_units-n.ensures c.put_units.ensures

pub overflow_sub-turn : goal.overflow_sub-turn
overflow_sub-turn c = whole_high (told (goal.at.overflow_sub-turn c).After-unwrap-turn)

pub unwrap-cut-requires : goal.unwrap-cut-requires
unwrap-cut-requires c =
    let some : 0 < c.unwrap-turn.result.rest = omega (arith, c.if-turn-eq0.false) in
    rw (c.pair_unit_at.ensures ∙ cut_found (told (goal.at.unwrap-cut-requires c).After-unwrap-turn) some) refl

pub put_rest-m-requires : goal.put_rest-m-requires
put_rest-m-requires c =
    let some : 0 < c.unwrap-turn.result.rest = omega (arith, c.if-turn-eq0.false) in
    rest_needs (told (goal.at.put_rest-m-requires c).After-unwrap-turn) c.requires.1 c.put_units-n.auto.ring c.put_units-n.ensures.within some c.put_units-n.ensures.inside (found (goal.at.put_rest-m-requires c).After-unwrap-cut)

pub put_units-requires-2 : goal.put_units-requires-2
put_units-requires-2 c =
    last_needs (told (goal.at.put_units-requires-2 c).After-unwrap-turn) c.requires.1 c.put_units-n.auto.ring c.put_units-n.ensures.within c.put_rest-m.ensures.within c.put_rest-m.ensures.inside c.put_rest-m.auto.ring

pub returns : goal.returns
returns c =
    turn_in (told (goal.at.returns c).After-unwrap-turn) c.requires.2 (found (goal.at.returns c).After-unwrap-cut) c.put_units-n.ensures c.put_rest-m.ensures c.put_units-2.ensures
