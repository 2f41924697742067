-- The unfinished line of a log's text that is read in pieces, and whether the text's lines end in carriage returns.
-- Assumes nothing.
use Rattle.std.specs.Prelude.{Bool, false, cond, List, ℕ, ◌-◌, min, eqb, get_or, take, drop}
use Rattle.lines.specs.Text.{line_end}

-- so much of a line shows that it is too long to be read
abbrev pub most_kept : ℕ
most_kept = 200001

-- the bytes of the unfinished line at `from`, of a text that is read up to `end`, as far as they are kept
unfoldable pub unfinished : List ℕ → ℕ → ℕ → List ℕ
unfinished text from end = take (min (end - from) most_kept) (drop from text)

-- whether the first line's last byte is a carriage return
unfoldable pub ends_in_return : List ℕ → Bool
ends_in_return text = cond (eqb (line_end text 0) 0) false (eqb (get_or text (line_end text 0 - 1) 0) 13)
