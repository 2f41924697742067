-- The row that tells the call of a line of the yard's log, by its verb.
-- Assumes nothing.
use Rattle.std.specs.Prelude.{List, [], ℕ}
use Rattle.segmentation.specs.Sizes.{sizes_answer}
use Rattle.planning.specs.Worst.{worst_answer}
use Rattle.codeword.specs.Shares.{grant}
use Rattle.slots.specs.Outcome.{Outcome}
use Rattle.requests.specs.declared.Verb.{Verb}
use Rattle.requests.specs.declared.Verb.TheVariants.{New, Open, OpenDown, Close, Receive, Read, Streams, Build, BuildDown, Sizes, Worst, Pack, Unpack, Nothing, Unreadable}
use Rattle.answers.specs.Rows.{answer_row, refusal_row}
use Rattle.answers.specs.SizesRow.{sizes_row}
use Rattle.answers.specs.WorstRow.{worst_row}
use Rattle.call_rows.specs.Rows.{at, share_row, read_row, streams_row, build_row, build_down_row}

-- the row that tells the outcome or, of the state and the places then, what was asked for: none for a line that asks for nothing or for a change of
-- form, 15 for one that can't be read
unfoldable pub row_by : Verb → List ℕ → ℕ → List ℕ → Outcome → List ℕ → List ℕ
row_by New n terminal bits o places = answer_row o.answer
row_by Open n terminal bits o places = answer_row o.answer
row_by OpenDown n terminal bits o places = share_row o (at n 0)
row_by Close n terminal bits o places = answer_row o.answer
row_by Receive n terminal bits o places = answer_row o.answer
row_by Read n terminal bits o places = read_row o.state places (at n 0) terminal
row_by Streams n terminal bits o places = streams_row o.state places (at n 0) terminal (at n 2)
row_by Build n terminal bits o places = build_row bits (grant (at n 0) (at n 1) (at n 2) (at n 3))
row_by BuildDown n terminal bits o places =
    build_down_row bits (at n 0) (at n 1) (at n 2) (at n 3) (at n 4) (grant (at n 5) (at n 6) (at n 7) (at n 8))
row_by Sizes n terminal bits o places = sizes_row (sizes_answer (at n 0))
row_by Worst n terminal bits o places = worst_row (worst_answer (at n 0) (at n 1) (at n 2))
row_by Pack n terminal bits o places = []
row_by Unpack n terminal bits o places = []
row_by Nothing n terminal bits o places = []
row_by Unreadable n terminal bits o places = refusal_row 15
