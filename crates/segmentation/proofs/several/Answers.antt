-- The numbers are those of the segmentation, and no sum wraps (`Worked`).
use native.Mathlib.Nat.{mul-le-mul}
use native.Mathlib.Omega.{arith}
use Rattle.segmentation.proofs.Worked.{Sums, need_by, shorts_by, row_positive, sums, worked}
use Rattle.segmentation.proofs.several.Goals.{After-size_at-short}
use Rattle.segmentation.proofs.several.Goals as goal

-- at the sums
here : (c : After-size_at-short) → let C = c.div_ceil-blocks.result in
    let long = c.first_row-found.result.size in
    Sums C (need_by c.args.b C) long c.size_at-short.result (shorts_by c.args.b C long c.size_at-short.result)
here c = sums c.requires.0 c.requires.1 c.div_ceil-blocks.ensures c.first_row-found.ensures.0 c.first_row-found.ensures.1 c.size_at-short.ensures

pub overflow_sub-row : goal.overflow_sub-row
overflow_sub-row c = row_positive c.requires.0 c.requires.1 c.div_ceil-blocks.ensures c.first_row-found.ensures.0 c.first_row-found.ensures.1

pub overflow_mul-shorts : goal.overflow_mul-shorts
overflow_mul-shorts c = omega (arith, mul-le-mul (here (goal.at.overflow_mul-shorts c).After-size_at-short).few (here (goal.at.overflow_mul-shorts c).After-size_at-short).most)

pub overflow_sub-shorts : goal.overflow_sub-shorts
overflow_sub-shorts c = (here (goal.at.overflow_sub-shorts c).After-size_at-short).enough

pub overflow_sub-shorts-2 : goal.overflow_sub-shorts-2
overflow_sub-shorts-2 c = omega (arith, (here (goal.at.overflow_sub-shorts-2 c).After-size_at-short).below)

pub nonzero_div-shorts : goal.nonzero_div-shorts
nonzero_div-shorts c = omega (arith, (here (goal.at.nonzero_div-shorts c).After-size_at-short).below)

pub overflow_sub-longs : goal.overflow_sub-longs
overflow_sub-longs c = omega (arith, (here (goal.at.overflow_sub-longs c).After-size_at-short).fewer)

pub overflow_mul-result : goal.overflow_mul-result
overflow_mul-result c = record { fits = (here (goal.at.overflow_mul-result c).After-size_at-short).long_part }

pub overflow_mul-result-2 : goal.overflow_mul-result-2
overflow_mul-result-2 c = record { fits = (here (goal.at.overflow_mul-result-2 c).After-size_at-short).short_part }

pub overflow_add-result : goal.overflow_add-result
overflow_add-result c = record { fits = (here (goal.at.overflow_add-result c).After-size_at-short).all }

pub overflow_sub-result : goal.overflow_sub-result
overflow_sub-result c = (here (goal.at.overflow_sub-result c).After-size_at-short).total

pub returns : goal.returns
returns c =
    worked c.requires.0 c.requires.1 c.div_ceil-blocks.ensures c.first_row-found.ensures.0 c.first_row-found.ensures.1 c.size_at-short.ensures
