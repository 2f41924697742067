-- `circle::lacking_on` meets its contract: all of stream 0 is what stands before the data places, what lacks of them, and what stands behind them (`Lacking`).
-- Assumes nothing.
use mathlib.Core.Path.{◌≡◌, refl, sym, ◌∙◌, ap}
use Prim.Native.Nat.{◌+◌, ◌*◌}
use native.Mathlib.Omega.{arith}
use Rattle.laws.proofs.Parts.{front_count}
use Rattle.std.specs.declared.option.Option.TheVariants.{Some}
use Rattle.rate_matching.specs.declared.Unit.{Unit}
use Rattle.rate_matching.specs.SubBlocks.{rows}
use Rattle.rate_matching.specs.Matrix.{matrix_within}
use Rattle.rate_matching.proofs.UnitPlaces.{column_there, unit_last}
use Rattle.slots.specs.Circle.{lacking_on}
use Rattle.kept_bits.proofs.Rows.{found_is, matrix_some}
use Rattle.kept_bits.proofs.Lacking.{tail_last, bits_first, stream_fits, front_needs, back_needs, all_parts}
use Rattle.kept_bits.proofs.circle.lacking_on.Goals.{After-unwrap, After-unwrap-data, After-unwrap-tail, After-count_row-back}
use Rattle.kept_bits.proofs.circle.lacking_on.Goals as goal

-- where stream 0 ends, which is on the circle
end_is : (c : After-unwrap) → c.unwrap.result.end.0 ≡ 32 * rows (c.args.k + 4)
end_is c =
    let w = c.requires.1.sized in
    let there = column_there {F = 0} {c = 31} w.most (omega (arith, w.least)) (omega arith) in
    ap (λ (u : Unit). u.end.0) (found_is _ c.unwrap.ensures (c.column_unit_at.ensures ∙ there)) ∙ unit_last (c.args.k + 4)

-- where the data places begin, and the tail bits
data_is : (c : After-unwrap-data) → Some c.unwrap-data.result ≡ matrix_within (c.args.k + 4) (0, c.args.f)
data_is c = sym c.unwrap-data.ensures ∙ c.matrix_place.ensures

tail_is : (c : After-unwrap-tail) → Some c.unwrap-tail.result ≡ matrix_within (c.args.k + 4) (0, c.args.k)
tail_is c = sym c.unwrap-tail.ensures ∙ c.matrix_place-2.ensures

-- the counts add up
parts : (c : After-count_row-back) → c.count_missing-all.result ≡ c.count_before-front.result + (lacking_on c.args.circle.now c.args.k c.args.f + c.count_row-back.result)
parts c =
    let w = c.requires.1.sized in
    let there = column_there {F = 0} {c = 31} w.most (omega (arith, w.least)) (omega arith) in
    let end = ap (λ (u : Unit). u.end.0) (found_is _ c.unwrap.ensures (c.column_unit_at.ensures ∙ there)) ∙ unit_last (c.args.k + 4) in
    all_parts c.args.circle.now c.requires.0 c.requires.1 (sym c.unwrap-tail.ensures ∙ c.matrix_place-2.ensures) (sym c.unwrap-data.ensures ∙ c.matrix_place.ensures)
    end c.count_missing-all.ensures c.count_before-front.ensures c.count_row-back.ensures

pub unwrap-requires : goal.unwrap-requires
unwrap-requires c =
    let w = c.requires.1.sized in
    let there = column_there {F = 0} {c = 31} w.most (omega (arith, w.least)) (omega arith) in
    rw (c.column_unit_at.ensures ∙ there) refl

pub slice_bounds-count_missing-end : goal.slice_bounds-count_missing-end
slice_bounds-count_missing-end c =
    front_count _ _ (omega (arith, end_is (goal.at.slice_bounds-count_missing-end c).After-unwrap, stream_fits c.args.circle.now c.requires.0 c.requires.1))

pub unwrap-data-requires : goal.unwrap-data-requires
unwrap-data-requires c = rw (c.matrix_place.ensures ∙ matrix_some c.requires.1.sized 0 c.args.f (omega arith) (omega (arith, c.requires.0))) refl

pub count_before-front-requires : goal.count_before-front-requires
count_before-front-requires c =
    let d = data_is (goal.at.count_before-front-requires c).After-unwrap-data in
    (c.requires.1.sized, (bits_first c.args.circle.now c.requires.0 c.requires.1 d).0, front_needs c.args.circle.now c.requires.0 c.requires.1 d)

pub unwrap-tail-requires : goal.unwrap-tail-requires
unwrap-tail-requires c = rw (c.matrix_place-2.ensures ∙ matrix_some c.requires.1.sized 0 c.args.k (omega arith) (omega arith)) refl

pub count_row-back-requires : goal.count_row-back-requires
count_row-back-requires c =
    let t = tail_is (goal.at.count_row-back-requires c).After-unwrap-tail in (
      c.requires.1.sized,
      omega (arith, (tail_last c.args.circle.now c.requires.0 c.requires.1 t).0),
      back_needs c.args.circle.now c.requires.0 c.requires.1 t,
    )

pub overflow_sub-result : goal.overflow_sub-result
overflow_sub-result c = omega (arith, parts (goal.at.overflow_sub-result c).After-count_row-back)

pub overflow_sub-result-2 : goal.overflow_sub-result-2
overflow_sub-result-2 c = omega (arith, parts (goal.at.overflow_sub-result-2 c).After-count_row-back)

pub returns : goal.returns
returns c = omega (arith, parts (goal.at.returns c).After-count_row-back)
