-- `circle::gather_stream` meets its contract: what is gathered row by row is what the circle keeps for the stream's places (`Rows`).
-- Assumes nothing.
use mathlib.Core.Path.{◌≡◌, refl, sym, ◌∙◌}
use Prim.Native.Nat.{◌+◌, ◌*◌, ◌<◌}
use borrow.Author.Tests.{eq-eqb, ne_eqb}
use Rattle.rate_matching.specs.Matrix.{row_step, written_at}
use Rattle.kept_bits.proofs.Rows.{heads, found_is, along, kept_along, heads_there, matrix_some, matrix_there}
use Rattle.kept_bits.proofs.circle.gather_stream.Goals.{After-unwrap-heads, After-unwrap, Joined-from-eq0, then-from-eq0, else-from-eq0}
use Rattle.kept_bits.proofs.circle.gather_stream.Goals as goal

heads_are : (c : After-unwrap-heads) → c.unwrap-heads.result ≡ heads c.args.d c.args.from.0
heads_are c = found_is _ c.unwrap-heads.ensures (c.column_heads.ensures ∙ heads_there c.requires)

step_is : (c : Joined-from-eq0) → c.if-from-eq0.step ≡ row_step c.args.from.0
unfolding row_step
step_is c =
    elim c.if-from-eq0.branch [
      | then-from-eq0 w ↦ rw (eq-eqb _ 0 w.if-from-eq0.true) w.step-is
      | else-from-eq0 w ↦ rw (ne_eqb _ 0 w.if-from-eq0.false) w.step-is
    ]

place : (c : After-unwrap) → let m = c.unwrap.result in (m.column < 32) × (32 * m.row + m.column ≡ written_at c.args.d c.args.from)
place c = let w = c.requires in matrix_there w.sized _ _ w.stream w.begin (sym c.unwrap.ensures ∙ c.matrix_place.ensures)

pub unwrap-heads-requires : goal.unwrap-heads-requires
unwrap-heads-requires c = rw (c.column_heads.ensures ∙ heads_there c.requires) refl

pub unwrap-requires : goal.unwrap-requires
unwrap-requires c = let w = c.requires in rw (c.matrix_place.ensures ∙ matrix_some w.sized _ _ w.stream w.begin) refl

pub gather-requires : goal.gather-requires
gather-requires c =
    let at = goal.at.gather-requires c in
    rw (heads_are at.After-unwrap-heads, step_is at.Joined-from-eq0, (place at.After-unwrap).1) ((place at.After-unwrap).0, along c.requires)

pub returns : goal.returns
returns c =
    let at = goal.at.returns c in
    c.gather.ensures ∙ rw (heads_are at.After-unwrap-heads, step_is at.Joined-from-eq0, (place at.After-unwrap).1) (kept_along c.args.circle.now c.requires)
