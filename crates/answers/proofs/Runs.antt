-- Laws of a row that is put piece by piece where all of it fits, and the lengths of the rows of bits.
-- In an answer: `row_put (piece w (c.CALLEE.ensures ..) (.. (begin _ _ (the row fits))))`, the last piece outermost.
-- Assumes nothing.
use mathlib.Core.Path.{◌≡◌, sym, ◌∙◌}
use mathlib.Core.List.{List, [], ◌++◌}
use Prim.Native.Nat.{ℕ, ◌+◌, ◌≤◌}
use native.Mathlib.Omega.{arith}
use lib.ListN.{length, length-append}
use Rattle.laws.proofs.Writing.{Writing, start, count}
use Rattle.lines.specs.Put.{put_at, end_at}
use Rattle.lines.specs.Row.{row_of, end_of}
use Rattle.lines.proofs.Putting.{put, looked, put_fits, end_fits, all_put}
use Rattle.answers.specs.Rows.{run_row, runs_row}
use Rattle.answers.proofs.Digits.{digits_length}

pub run_length : (bits : List ℕ) → length (run_row bits) ≡ 4 + length bits
unfolding run_row row_of end_of
run_length bits = simp (length-append, digits_length) (omega arith)

pub runs_length : (a b c : List ℕ) → length (runs_row a b c) ≡ 6 + length a + length b + length c
unfolding runs_row row_of end_of
runs_length a b c = simp (length-append, digits_length) (omega arith)

-- the pieces up to place i are put, `future` is still to come of the row
pub record Pieces (out₀ out : List ℕ) (i : ℕ) (future row : List ℕ) : Type 0 where
  pub room : length row ≤ length out₀
  pub within : i ≤ length out
  pub writing : Writing out₀ out i future row

pub begin : (row out : List ℕ) → length row ≤ length out → Pieces out out 0 row row
begin row out h = record { room = h; within = omega arith; writing = start }

pub piece : {out₀ out out' : List ℕ} {i r : ℕ} (w : List ℕ) {future row : List ℕ} → (r ≡ end_at i w out) × (out' ≡ put_at i w out) → Pieces out₀ out i (w ++ future) row
    → Pieces out₀ out' r future row
piece {out₀} {out} {out'} {i} {r} w {future} {row} e p = record {
  room = p.room;
  within = omega (arith, (looked i w out fit e).0, fit, after.long, p.writing.long);
  writing = after;
}
  where
    fit : i + length w ≤ length out
    fit = omega (arith, count p.within p.writing, length-append w future, p.room, p.writing.long)

    after : Writing out₀ out' r future row
    after = put w fit p.writing e

pub row_put : {out₀ out : List ℕ} {r : ℕ} {row : List ℕ} → Pieces out₀ out r [] row → (r ≡ end_at 0 row out₀) × (out ≡ put_at 0 row out₀)
row_put {out₀} {out} {r} {row} p =
    let all = all_put {at = 0} row (omega arith) p.within p.writing in
    let fit : 0 + length row ≤ length out₀ = omega (arith, p.room) in
    (all.0 ∙ sym (end_fits 0 row out₀ fit), all.1 ∙ sym (put_fits 0 row out₀ fit))
