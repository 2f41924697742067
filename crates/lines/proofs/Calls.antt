-- Laws of successive calls of sizes_rows: each goes on where the one before stopped, and together they write what the sizes program prints.
-- Assumes nothing.
use mathlib.Core.Path.{◌≡◌, refl, sym, ◌∙◌, ap}
use mathlib.Core.Bool.{Bool, true, false, cond}
use mathlib.Core.List.{List, [], ◌∷◌, ◌++◌, append_assoc}
use Prim.Native.Nat.{ℕ, zero, suc, ◌-◌, ◌≤◌, ◌<◌}
use native.Mathlib.Nat.{le_trans}
use native.Mathlib.Omega.{arith}
use lib.Dec.{leb, ltb}
use lib.ListN.{length, take, drop, length-append, drop_of_length-le}
use borrow.Author.Tests.{ltb-true, ltb-false}
use Rattle.lines.specs.Row.{sizes_row}
use Rattle.lines.specs.Text.{lines_of, rows_of, header, sizes_output, line_at, line_next, start_after, row_room, answered, answered_lines, written_rows, rows_over, progress_of, calls_from}
use Rattle.lines.proofs.Lines.{end_from, lines_at, next_more}
use Rattle.lines.proofs.Rows.{lines_more, lines_past}

rows_append : (a b : List (List ℕ)) → rows_of (a ++ b) ≡ rows_of a ++ rows_of b
unfolding rows_of
rows_append [] b = refl
rows_append (l ∷ a) b = ap (λ (r : List ℕ). sizes_row l ++ r) (rows_append a b) ∙ sym (append_assoc (sizes_row l) (rows_of a) (rows_of b))

answered_le : (room : ℕ) (ls : List (List ℕ)) → answered room ls ≤ length ls
unfolding answered
answered_le room [] = omega arith
answered_le room (l ∷ ls) = go (leb row_room room) (answered_le (room - length (sizes_row l)) ls)
  where
    go : (b : Bool) → answered (room - length (sizes_row l)) ls ≤ length ls → cond b (suc (answered (room - length (sizes_row l)) ls)) 0 ≤ suc (length ls)
    go true h = omega arith
    go false h = omega arith

-- no line is left past the end
no_lines : (text : List ℕ) (from : ℕ) → length text ≤ from → lines_of (drop from text) ≡ []
unfolding lines_of
no_lines text from h = rw (drop_of_length-le text h)

-- the first k lines and those after them
lines_split : (k : ℕ) (text : List ℕ) (from : ℕ) → k ≤ length (lines_of (drop from text))
    → lines_of (drop from text) ≡ take k (lines_of (drop from text)) ++ lines_of (drop (start_after text from k) text)
unfolding start_after
lines_split zero text from h = refl
lines_split (suc k) text from h =
    go (ltb from (length text)) refl (λ (g : k ≤ length (lines_of (drop (line_next text from) text))). lines_split k text (line_next text from) g)
  where
    go : (b : Bool) → ltb from (length text) ≡ b
        → (k ≤ length (lines_of (drop (line_next text from) text)) → lines_of (drop (line_next text from) text)
        ≡ take k (lines_of (drop (line_next text from) text)) ++ lines_of (drop (start_after text (line_next text from) k) text))
        → lines_of (drop from text) ≡ take (suc k) (lines_of (drop from text)) ++ lines_of (drop (start_after text (line_next text from) k) text)
    go true e rest =
        let first = lines_at text from (ltb-true from (length text) e) in
        rw first (ap (λ (ls : List (List ℕ)). line_at text from ∷ ls) (rest (omega (arith, ap length first, h))))
    go false e rest = let none : ⊥ = omega (arith, ap length (no_lines text from (ltb-false from (length text) e)), h) in absurd none

-- what one call writes, and what is left for the calls after it
pub rows_split : (text : List ℕ) (from room : ℕ) → rows_of (lines_of (drop from text)) ≡ written_rows text from room ++ rows_of (lines_of (drop (progress_of text from room).next text))
unfolding written_rows progress_of answered_lines
rows_split text from room = ap rows_of (lines_split k text from (answered_le room (lines_of (drop from text)))) ∙ rows_append (take k (lines_of (drop from text))) (lines_of (drop (start_after text from k) text))
  where
    k : ℕ
    k = answered room (lines_of (drop from text))

next_from : (text : List ℕ) (from : ℕ) → from ≤ length text → from ≤ line_next text from
unfolding line_next
next_from text from h = omega (arith, end_from text from)

next_within : (text : List ℕ) (from : ℕ) → line_next text from ≤ length text
unfolding line_next
next_within text from = omega arith

after_from : (k : ℕ) (text : List ℕ) (from : ℕ) → from ≤ length text → from ≤ start_after text from k
unfolding start_after
after_from zero text from h = omega arith
after_from (suc k) text from h = le_trans (next_from text from h) (after_from k text (line_next text from) (next_within text from))

-- a call with room for a row answers a line where one is left
pub goes_on : (text : List ℕ) (from room : ℕ) → from < length text → row_room ≤ room → from < (progress_of text from room).next
unfolding progress_of start_after
goes_on text from room h g =
    rw (lines_more text from room h g)
    (omega (arith, next_more text from h, after_from (answered_lines text (line_next text from) (room - length (sizes_row (line_at text from)))) text (line_next text from) (next_within text from)))

-- a call with nothing left stays where it is
pub stays : (text : List ℕ) (from room : ℕ) → length text ≤ from → (progress_of text from room).next ≡ from
unfolding progress_of start_after
stays text from room h = rw (lines_past text from room h)

-- an output that kept its length holds what was written
pub written_within : (text : List ℕ) (from : ℕ) (out : List ℕ) → length (rows_over text from out) ≡ length out → (progress_of text from (length out)).written ≤ length out
unfolding rows_over progress_of
written_within text from out h = omega (arith, length-append (written_rows text from (length out)) (drop (length (written_rows text from (length out))) out))

-- as many calls as the text has bytes write the rest
pub calls_rest : (n : ℕ) (text : List ℕ) (from room : ℕ) → row_room ≤ room → length text - from ≤ n → calls_from text room n from ≡ rows_of (lines_of (drop from text))
unfolding calls_from rows_of
calls_rest zero text from room g h = ap rows_of (sym (no_lines text from (omega arith)))
calls_rest (suc n) text from room g h =
    ap (λ (r : List ℕ). written_rows text from room ++ r) (calls_rest n text (progress_of text from room).next room g less) ∙ sym (rows_split text from room)
  where
    less : length text - (progress_of text from room).next ≤ n
    less = go (ltb from (length text)) refl
      where
        go : (b : Bool) → ltb from (length text) ≡ b → length text - (progress_of text from room).next ≤ n
        go true e = omega (arith, goes_on text from room (ltb-true from (length text) e) g)
        go false e = omega (arith, stays text from room (ltb-false from (length text) e), ltb-false from (length text) e)

-- the header and what the calls write are what the sizes program prints
pub calls_whole : (text : List ℕ) (n room : ℕ) → row_room ≤ room → length text ≤ n → header ++ calls_from text room n 0 ≡ sizes_output text
unfolding sizes_output
calls_whole text n room g h = ap (λ (r : List ℕ). header ++ r) (calls_rest n text 0 room g (omega arith))
