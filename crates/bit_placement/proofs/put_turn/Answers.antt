-- `put_turn` meets its contract: its two tests tell that the turn can be put (`Placed`), and the units from the start to the cut, the one that is cut and those
-- before the start are the turn (`Walking`).
-- Assumes nothing.
use mathlib.Core.Path.{◌≡◌, refl, ◌∙◌}
use mathlib.Core.List.{◌++◌}
use Prim.Native.Nat.{◌+◌, ◌<◌}
use native.Mathlib.Omega.{arith}
use lib.ListN.{length, take}
use Rattle.rate_matching.specs.SubBlocks.{rows}
use Rattle.rate_matching.specs.Shape.{shape, bit_places}
use Rattle.rate_matching.specs.Units.{unit_at, unit_places, unit_start}
use Rattle.rate_matching.proofs.UnitPlaces.{unit_there, unit_found}
use Rattle.bit_placement.specs.inner.Along.{Put, Sends}
use Rattle.bit_placement.proofs.Along.{put_append, put_as, put_long}
use Rattle.bit_placement.proofs.Walking.{walked_still, unit_within_lem, whole_in, cut_there, round_is, round_uncut}
use Rattle.bit_placement.proofs.Placed.{unsent, long_there, long_is, none_sent, too_short, sends_found, turn_put}
use Rattle.bit_placement.proofs.put_turn.Goals.{After-unwrap-cut, After-put_rest, Else-part-unwrap, Else-turn-eq0}
use Rattle.bit_placement.proofs.put_turn.Goals as goal

-- the turn can be put
sends : (c : Else-part-unwrap) → let e = c.args in Sends e.d e.filler e.soft e.version (length e.part.now)
sends c = sends_found c.in-Some.ensures c.circle_length.ensures c.unwrap.ensures c.if-part-unwrap.false

-- a unit is cut
low : (c : Else-turn-eq0) → c.in-Some.turn.whole < 64
low c =
    let s = sends_found c.in-Some.ensures c.circle_length.ensures c.unwrap.ensures c.if-part-unwrap.false in
    cut_there s c.in-Some.ensures (omega (arith, c.if-turn-eq0.false))

found : (c : After-unwrap-cut) → c.unwrap-cut.result ≡ unit_at c.args.d c.args.filler c.in-Some.turn.whole
found c = unit_found _ _ _ c.unit_at.ensures c.unwrap-cut.ensures

-- the first two stretches
two : (c : After-put_rest) → let e = c.args in
    let t = c.in-Some.turn in
    Put (bit_places (shape e.d e.filler) (unit_start (rows e.d) t.start) (unit_start (rows e.d) t.whole) ++ take t.rest (unit_places c.unwrap-cut.result))
    e.bits.now e.part.now c.put_rest.new.part (c.put_units-first.result + c.put_rest.result)
two c = put_append c.put_units-first.ensures c.put_rest.ensures

pub returns-in_default : goal.returns-in_default
returns-in_default c =
    let told = none_sent _ _ _ _ _ _ (unsent _ _ _ _ c.in_default.ensures) in
    record { part = told.0; count = told.1 }

pub unwrap-requires : goal.unwrap-requires
unwrap-requires c = rw (c.circle_length.ensures ∙ long_there _ _ _ _ c.in-Some.ensures) refl

pub returns-then-part-unwrap : goal.returns-then-part-unwrap
returns-then-part-unwrap c =
    let told = too_short _ _ _ _ _ _ (omega (arith, long_is _ _ _ _ c.in-Some.ensures c.circle_length.ensures c.unwrap.ensures, c.if-part-unwrap.true)) in
    record { part = told.0; count = told.1 }

pub invariant_of-of : goal.invariant_of-of
invariant_of-of c =
    let w = (sends (goal.at.invariant_of-of c).Else-part-unwrap).walked in
    record { sized = record { least = w.least; most = w.most; some = w.some; filler = w.filler } }

pub put_units-first-requires : goal.put_units-first-requires
put_units-first-requires c =
    let s = sends (goal.at.put_units-first-requires c).Else-part-unwrap in
    let w = whole_in s c.in-Some.ensures in
    (s.walked.fits, w.0, w.1)

pub put_units-requires : goal.put_units-requires
put_units-requires c =
    let s = sends (goal.at.put_units-requires c).Else-part-unwrap in
    let w = whole_in s c.in-Some.ensures in
    ((walked_still s.walked (put_long c.put_units-first.ensures)).fits, omega arith, omega (arith, w))

pub returns-then-turn-eq0 : goal.returns-then-turn-eq0
returns-then-turn-eq0 c =
    let s = sends (goal.at.returns-then-turn-eq0 c).Else-part-unwrap in
    let told = turn_put _ s (put_as (round_uncut s c.in-Some.ensures c.if-turn-eq0.true) (put_append c.put_units-first.ensures c.put_units.ensures)) in
    record { part = told.0; count = told.1 }

pub unwrap-cut-requires : goal.unwrap-cut-requires
unwrap-cut-requires c =
    let at = goal.at.unwrap-cut-requires c in
    let w = (sends at.Else-part-unwrap).walked in
    rw (c.unit_at.ensures ∙ unit_there w.most w.filler (low at.Else-turn-eq0)) refl

pub put_rest-requires : goal.put_rest-requires
put_rest-requires c =
    let at = goal.at.put_rest-requires c in
    unit_within_lem (walked_still (sends at.Else-part-unwrap).walked (put_long c.put_units-first.ensures)) _ (low at.Else-turn-eq0) (found at.After-unwrap-cut)

pub put_units-requires-2 : goal.put_units-requires-2
put_units-requires-2 c =
    let at = goal.at.put_units-requires-2 c in
    let s = sends at.Else-part-unwrap in
    ((walked_still s.walked (put_long (two at.After-put_rest))).fits, omega arith, omega (arith, whole_in s c.in-Some.ensures))

pub returns : goal.returns
returns c =
    let at = goal.at.returns c in
    let s = sends at.Else-part-unwrap in
    let told = turn_put _ s (put_as (round_is s c.in-Some.ensures (found at.After-unwrap-cut)) (put_append (two at.After-put_rest) c.put_units-2.ensures)) in
    record { part = told.0; count = told.1 }
