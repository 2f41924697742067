-- Laws of the rows that one call of sizes_rows writes: one line more, and where it stops.
-- Assumes nothing.
use mathlib.Core.Path.{◌≡◌, refl, sym, ◌∙◌, ap}
use mathlib.Core.List.{List, [], ◌∷◌, ◌++◌}
use Prim.Native.Nat.{ℕ, suc, ◌+◌, ◌-◌, ◌≤◌, ◌<◌, min}
use native.Mathlib.Omega.{arith}
use lib.ListN.{length, take, drop, drop_of_length-le}
use borrow.Author.Tests.{le-leb, lt-leb}
use Rattle.std.specs.Prelude.{Some, None, Result}
use Rattle.laws.proofs.Writing.{Writing, start as begun, same, finish as written_out, count}
use Rattle.refusals.specs.declared.Refusal.{Refusal}
use Rattle.segmentation.specs.declared.Sizes.{Sizes}
use Rattle.segmentation.specs.Sizes.{sizes_answer}
use Rattle.lines.specs.declared.Progress.{Progress}
use Rattle.lines.specs.Line.{line_of}
use Rattle.lines.specs.Put.{put_over}
use Rattle.lines.specs.Row.{decimal_of, row_of, dash, refused, answer_fields, line_fields, sizes_row}
use Rattle.lines.specs.Text.{lines_of, rows_of, line_end, line_at, line_next, start_after, row_room, answered, answered_lines, written_rows, rows_over, progress_of}
use Rattle.lines.proofs.Lines.{lines_at}
use Rattle.lines.proofs.Putting.{wrote, over_room}

-- the row of a line, by what the line says
pub row_read : (l : List ℕ) {A : ℕ} {answer : Result Sizes Refusal} → line_of 5 l ≡ Some A → answer ≡ sizes_answer A → row_of (answer_fields A answer) ≡ sizes_row l
unfolding sizes_row line_fields
row_read l e f = rw (e, f)

pub row_unreadable : (l : List ℕ) → line_of 5 l ≡ None → row_of (dash ∷ refused ∷ decimal_of 15 ∷ []) ≡ sizes_row l
unfolding sizes_row line_fields
row_unreadable l e = rw e

module _ (text : List ℕ) (from room : ℕ) where
  -- the line at `from` is answered
  pub lines_more : from < length text → row_room ≤ room
      → answered_lines text from room ≡ suc (answered_lines text (line_next text from) (room - length (sizes_row (line_at text from))))
  unfolding answered_lines answered
  lines_more h g = rw (lines_at text from h) (simp (le-leb row_room room g))

  rows_more : from < length text → row_room ≤ room
      → written_rows text from room ≡ sizes_row (line_at text from) ++ written_rows text (line_next text from) (room - length (sizes_row (line_at text from)))
  unfolding written_rows rows_of
  rows_more h g = rw (lines_more h g) (rw (lines_at text from h))

  -- no line is answered where none is left, or where the room may be too small
  pub lines_past : length text ≤ from → answered_lines text from room ≡ 0
  unfolding answered_lines answered lines_of
  lines_past h = rw (drop_of_length-le text h)

  pub lines_full : room < row_room → answered_lines text from room ≡ 0
  unfolding answered_lines answered
  lines_full h = full (lines_of (drop from text))
    where
      full : (ls : List (List ℕ)) → answered room ls ≡ 0
      full [] = refl
      full (l ∷ ls) = simp (lt-leb row_room room h)

  rows_none : answered_lines text from room ≡ 0 → written_rows text from room ≡ []
  unfolding written_rows rows_of
  rows_none e = rw e

-- after some lines of a call: what the definition still writes and where it still goes is what the whole call does
pub record Answering (text : List ℕ) (from : ℕ) (out₀ out : List ℕ) (next written : ℕ) : Type 0 where
  pub writing : Writing out₀ out written (written_rows text next (length out₀ - written)) (written_rows text from (length out₀))
  pub place : start_after text next (answered_lines text next (length out₀ - written)) ≡ start_after text from (answered_lines text from (length out₀))
  pub room : written ≤ length out₀

pub start : (text : List ℕ) (from : ℕ) (out : List ℕ) → Answering text from out out from 0
start text from out = record {
  writing = same (ap (λ (r : ℕ). written_rows text from r) (sym all)) begun;
  place = ap (λ (r : ℕ). start_after text from (answered_lines text from r)) all;
  room = omega arith;
}
  where
    all : length out - 0 ≡ length out
    all = omega arith

-- the row of the line at `next` is put
next_line : {text : List ℕ} {from : ℕ} {out₀ out out' : List ℕ} {next written written' : ℕ} → Answering text from out₀ out next written
    → next < length text → row_room ≤ length out - written
    → (written' ≡ written + length (sizes_row (line_at text next))) × (out' ≡ put_over written (sizes_row (line_at text next)) out) → length out' ≡ length out
    → Answering text from out₀ out' (line_next text next) written'
unfolding start_after
next_line {text} {from} {out₀} {out} {out'} {next} {written} {written'} a h g e k = record {
  writing = same (ap (λ (r : ℕ). written_rows text (line_next text next) r) less) (wrote row fit (same (rows_more text next left h enough) a.writing) e);
  place = sym (ap (λ (r : ℕ). start_after text (line_next text next) (answered_lines text (line_next text next) r)) less)
      ∙ sym (ap (λ (n : ℕ). start_after text next n) (lines_more text next left h enough))
      ∙ a.place;
  room = omega (arith, fit, e.0, a.writing.long);
}
  where
    left : ℕ
    left = length out₀ - written

    row : List ℕ
    row = sizes_row (line_at text next)

    enough : row_room ≤ left
    enough = omega (arith, a.writing.long)

    fit : written + length row ≤ length out
    fit = over_room written row out (omega (arith, a.room, a.writing.long)) e.1 k

    less : left - length row ≡ length out₀ - written'
    less = omega (arith, e.0)

-- the same by places: the line ends at `end`
pub turn : {text : List ℕ} {from : ℕ} {out₀ out out' : List ℕ} {next next' written written' : ℕ} (end : ℕ) → Answering text from out₀ out next written
    → next < length text → row_room ≤ length out - written → end ≡ line_end text next → next' ≡ min (end + 1) (length text)
    → (written' ≡ written + length (sizes_row (take (end - next) (drop next text)))) × (out' ≡ put_over written (sizes_row (take (end - next) (drop next text))) out)
    → length out' ≡ length out → Answering text from out₀ out' next' written'
unfolding line_at line_next
turn end a h g q n e k = rw (n, q) (next_line a h g (rw q at e) k)

-- no further line is answered
pub finish : {text : List ℕ} {from : ℕ} {out₀ out : List ℕ} {next written : ℕ} → Answering text from out₀ out next written
    → answered_lines text next (length out₀ - written) ≡ 0
    → (◌≡◌ {A = Progress} (record { next = next; written = written }) (progress_of text from (length out₀))) × (out ≡ rows_over text from out₀)
unfolding progress_of rows_over start_after
finish {text} {from} {out₀} {out} {next} {written} a e = (made place ends, written_out refl done ∙ ap (λ (n : ℕ). written_rows text from (length out₀) ++ drop n out₀) ends)
  where
    made : {n m p q : ℕ} → n ≡ p → m ≡ q → ◌≡◌ {A = Progress} (record { next = n; written = m }) (record { next = p; written = q })
    made f g = rw (f, g)

    place : next ≡ start_after text from (answered_lines text from (length out₀))
    place = sym (ap (λ (n : ℕ). start_after text next n) e) ∙ a.place

    done : Writing out₀ out written [] (written_rows text from (length out₀))
    done = same (rows_none text next (length out₀ - written) e) a.writing

    ends : written ≡ length (written_rows text from (length out₀))
    ends = omega (arith, count (omega (arith, a.room, a.writing.long)) done)
