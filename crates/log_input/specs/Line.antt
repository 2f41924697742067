-- A line of a log's text that is read in pieces: the one after it in what is read, and what a read makes of an unfinished one; the text then.
-- Assumes nothing.
use Rattle.std.specs.Prelude.{Bool, true, false, not, cond, List, ◌++◌, ℕ, ◌+◌, ◌-◌, ◌≤◌, eqb, ltb, leb, length, take, drop, set}
use Rattle.lines.specs.Text.{line_end}
use Rattle.log_text.specs.Unfinished.{unfinished}
use Rattle.log_input.specs.declared.Line.{Line}

-- it lies within a text of so many bytes
pub record Stands (line : Line) (size : ℕ) : Type 0 where
  pub starts : line.from ≤ line.to
  pub ends : line.to ≤ line.end
  pub fits : line.end ≤ size

-- ---- three lines that are known

-- before the first read
abbrev pub unread_line : Line
unread_line = record { from = 0; to = 0; end = 0; over = false }

-- no line is left
abbrev pub nothing_left : Line
nothing_left = record { from = 0; to = 0; end = 0; over = true }

-- an unfinished one at the text's front
abbrev pub kept_line : ℕ → Line
kept_line kept = record { from = 0; to = kept; end = kept; over = false }

-- ---- the next line in what is read

-- unfinished, where the input is not over
unfoldable pub goes_on : Line → Bool
goes_on line = cond (ltb line.to line.end) false (not line.over)

-- the input is over, and no byte is left of it
unfoldable pub none_left : Line → Bool
none_left line = cond line.over (eqb line.end 0) false

-- the line at `from` of a text that is read up to `end`, where no newline stands before `seen`
unfoldable pub line_in : List ℕ → ℕ → ℕ → ℕ → Bool → Line
line_in text from seen end over = record { from = from; to = line_end (take end text) seen; end = end; over = over }

-- the line behind it, or itself where it is unfinished
unfoldable pub following : Line → List ℕ → Line
following line text =
    cond (ltb line.to line.end) (line_in text (line.to + 1) (line.to + 1) line.end line.over) line

-- an unfinished line goes to the text's front, and where the input is over it is none
unfoldable pub settled : Line → List ℕ → Line
settled line text =
    cond (ltb line.to line.end)
    line
    (cond line.over nothing_left (kept_line (length (unfinished text line.from line.end))))

-- the text then
unfoldable pub text_settled : Line → List ℕ → List ℕ
text_settled line text =
    cond (ltb line.to line.end)
    text
    (cond line.over
    text
    (unfinished text line.from line.end ++ drop (length (unfinished text line.from line.end)) text))

unfoldable pub line_after : Line → List ℕ → Line
line_after line text = cond (ltb (length text) line.end) nothing_left (settled (following line text) text)

unfoldable pub text_after : Line → List ℕ → List ℕ
text_after line text = cond (ltb (length text) line.end) text (text_settled (following line text) text)

-- ---- after a read behind the kept bytes

-- what no newline ended is the last line
unfoldable pub last_line : ℕ → Line
last_line kept = cond (eqb kept 0) nothing_left (record { from = 0; to = kept; end = kept + 1; over = true })

-- and is ended
unfoldable pub text_ended : ℕ → List ℕ → List ℕ
text_ended kept text = cond (eqb kept 0) text (set text kept 10)

-- the line where `count` bytes came, none at the input's end
unfoldable pub line_with : ℕ → ℕ → List ℕ → Line
line_with kept count text = cond (eqb count 0) (last_line kept) (line_in text 0 kept (kept + count) false)

unfoldable pub text_with : ℕ → ℕ → List ℕ → List ℕ
text_with kept count text = cond (eqb count 0) (text_ended kept text) text

-- the room behind the kept bytes has to have held them
unfoldable pub line_read : ℕ → ℕ → List ℕ → Line
line_read kept count text =
    cond (leb (length text) kept) nothing_left (cond (ltb (length text - kept) count) nothing_left (line_with kept count text))

unfoldable pub text_read : ℕ → ℕ → List ℕ → List ℕ
text_read kept count text = cond (leb (length text) kept) text (cond (ltb (length text - kept) count) text (text_with kept count text))

-- ---- the line with what a read brought

-- it does not lie within a text of so many bytes
unfoldable pub outside : Line → ℕ → Bool
outside line size =
    cond (ltb line.to line.from) true (cond (ltb line.end line.to) true (ltb size line.end))

-- a read goes behind a line that goes on, and no other
unfoldable pub line_now : Line → ℕ → List ℕ → Line
line_now line count text =
    cond (outside line (length text)) nothing_left (cond (goes_on line) (line_read line.end count text) line)

unfoldable pub text_now : Line → ℕ → List ℕ → List ℕ
text_now line count text =
    cond (outside line (length text)) text (cond (goes_on line) (text_read line.end count text) text)
