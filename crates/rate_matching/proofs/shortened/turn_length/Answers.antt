-- `shortened::turn_length` meets its contract: the share gives N_cb, the test decides, and the bits before N_cb are counted (`TurnLength`).
-- Assumes nothing.
use mathlib.Core.Path.{◌≡◌, sym, ◌∙◌, ap, ap₂}
use mathlib.Core.Bool.{true}
use Prim.Native.Nat.{ℕ, ◌+◌}
use native.Mathlib.Omega.{arith}
use lib.ListN.{length}
use Rattle.rate_matching.specs.declared.Turn.{Turn}
use Rattle.rate_matching.specs.SubBlocks.{rows}
use Rattle.rate_matching.specs.Circle.{circle_length}
use Rattle.rate_matching.specs.Shape.{shape, bit_places}
use Rattle.rate_matching.specs.Units.{unit_start, whole_units}
use Rattle.rate_matching.specs.Turns.{matchable, units_of}
use Rattle.rate_matching.proofs.Cut.{whole_least, whole_most}
use Rattle.rate_matching.proofs.MatchableBlocks.{Matchable, matchable_told, rows_few}
use Rattle.rate_matching.proofs.TurnLength.{bits_few, whole_circle, cut_circle_lem, length_none, length_told}
use Rattle.rate_matching.proofs.shortened.turn_length.Goals.{After-bits_to, After-turn_in-turn, Else-not-matchable}
use Rattle.rate_matching.proofs.shortened.turn_length.Goals as goal

-- past the test: what it tells
passed : (c : Else-not-matchable) → let e = c.args in matchable e.d e.d e.d e.filler c.cut_at-ncb.result 0 ≡ true
passed c = sym c.matchable.ensures ∙ c.if-not-matchable.false

told : (c : Else-not-matchable) → let e = c.args in Matchable e.d e.d e.d e.filler c.cut_at-ncb.result 0
told c = matchable_told (passed c)

-- the turn's whole units
whole : (c : After-turn_in-turn) → c.turn_in-turn.result.whole ≡ whole_units c.cut_at-ncb.result (rows c.args.d)
unfolding units_of
whole c = ap (λ (t : Turn). t.whole) c.turn_in-turn.ensures

-- the sum of both
sum : (c : After-bits_to) → let e = c.args in
    c.bits_to.result + c.turn_in-turn.result.rest ≡ length (bit_places (shape e.d e.filler) 0 c.cut_at-ncb.result)
unfolding units_of
sum c =
    let k = matchable_told (sym c.matchable.ensures ∙ c.if-not-matchable.false) in
    let e = c.args in
    ap₂ ◌+◌ (c.bits_to.ensures ∙ ap (λ (u : ℕ). length (bit_places (shape e.d e.filler) 0 (unit_start (rows e.d) u))) ((ap (λ (t : Turn). t.whole) c.turn_in-turn.ensures))) (ap (λ (x : Turn). x.rest) c.turn_in-turn.ensures)
    ∙ cut_circle_lem k.fits.most k.fits.filler k.fits.some k.cut

pub returns-then-not-matchable : goal.returns-then-not-matchable
returns-then-not-matchable c = length_none _ _ _ c.cut_at-ncb.ensures (sym c.matchable.ensures ∙ c.if-not-matchable.true)

pub overflow_mul-rows_of : goal.overflow_mul-rows_of
overflow_mul-rows_of c = omega (arith, c.rows_of.ensures, rows_few (told (goal.at.overflow_mul-rows_of c).Else-not-matchable))

pub overflow_mul-result : goal.overflow_mul-result
overflow_mul-result c = omega (arith, (told (goal.at.overflow_mul-result c).Else-not-matchable).fits.most)

pub overflow_mul-result-then-ncb-rows_of : goal.overflow_mul-result-then-ncb-rows_of
overflow_mul-result-then-ncb-rows_of c = let f = (told (goal.at.overflow_mul-result-then-ncb-rows_of c).Else-not-matchable).fits in omega (arith, f.filler, f.most)

pub overflow_sub-result : goal.overflow_sub-result
overflow_sub-result c = omega (arith, (told (goal.at.overflow_sub-result c).Else-not-matchable).fits.filler)

pub returns-then-ncb-rows_of : goal.returns-then-ncb-rows_of
unfolding circle_length
returns-then-ncb-rows_of c =
    let f = (told (goal.at.returns-then-ncb-rows_of c).Else-not-matchable).fits in
    let e = c.args in
    length_told _ _ _ c.cut_at-ncb.ensures (passed (goal.at.returns-then-ncb-rows_of c).Else-not-matchable)
    (sym (whole_circle f.most f.filler f.some)
    ∙ ap (λ (n : ℕ). length (bit_places (shape e.d e.filler) 0 n)) (omega (arith, c.if-ncb-rows_of.true, c.rows_of.ensures)))

pub bits_to-requires : goal.bits_to-requires
bits_to-requires c = let m = told (goal.at.bits_to-requires c).Else-not-matchable in (m.fits, omega (arith, whole (goal.at.bits_to-requires c).After-turn_in-turn, whole_least m.cut), omega (arith, whole (goal.at.bits_to-requires c).After-turn_in-turn, whole_most m.cut))

pub overflow_add-result : goal.overflow_add-result
unfolding circle_length
overflow_add-result c =
    let m = told (goal.at.overflow_add-result c).Else-not-matchable in
    omega (arith, sum (goal.at.overflow_add-result c).After-bits_to, bits_few m.fits.most m.fits.filler m.fits.some c.cut_at-ncb.result, m.cut.most, rows_few m)

pub returns : goal.returns
returns c =
    length_told _ _ _ c.cut_at-ncb.ensures (passed (goal.at.returns c).Else-not-matchable) (sum (goal.at.returns c).After-bits_to)
