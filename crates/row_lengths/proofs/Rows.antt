-- No row that answers a line of a log is longer than 172,804 bytes, whatever the line, the state and the stores are, so that `replay_line` writes every
-- answer whole into an output of that length.
-- Assumes nothing.
use mathlib.Core.Path.{◌≡◌, ◌∙◌, ap}
use mathlib.Core.Bool.{Bool, true, false, cond}
use mathlib.Core.List.{List, ◌++◌}
use Prim.Native.Nat.{ℕ, ◌+◌, ◌^◌, ◌≤◌, ◌<◌}
use native.Mathlib.Nat.{zero-add}
use native.Mathlib.Omega.{arith}
use lib.Dec.{eqb}
use lib.ListN.{length, take, drop}
use lib.Seq.{take-append_seam}
use borrow.Author.Tests.{le-ltb}
use Rattle.slots.specs.declared.State.{State}
use Rattle.slots.specs.Outcome.{Done}
use Rattle.packing.specs.Store.{places_in}
use Rattle.lines.specs.Put.{put_over}
use Rattle.lines.proofs.Putting.{put_fits, end_fits}
use Rattle.requests.specs.declared.Verb.{Verb}
use Rattle.requests.specs.declared.Verb.TheVariants.{New, Open, OpenDown, Close, Receive, Read, Streams, Build, BuildDown, Sizes, Worst, Pack, Unpack, Nothing, Unreadable}
use Rattle.requests.specs.Request.{request_of}
use Rattle.codeword.specs.Shares.{grant}
use Rattle.answers.specs.Rows.{answer_row, refusal_row}
use Rattle.call_rows.specs.Rows.{at}
use Rattle.line_calls.specs.Call.{outcome_by, store_by}
use Rattle.line_rows.specs.Row.{row_by}
use Rattle.form_changes.specs.Change.{form_number}
use Rattle.form_changes.specs.Line.{change_of, change_row}
use Rattle.std.specs.Prelude.{Option, None, Some}
use Rattle.yard.specs.Step.{by_change, row_made, bits_of, call_row, row_of_line, out_after, longest_row, step_within, out_within}
use Rattle.yard.proofs.Lines.{step_row}
use Rattle.row_lengths.proofs.Refusals.{form_most}
use Rattle.row_lengths.proofs.Answers.{done_length}
use Rattle.row_lengths.proofs.Sizes.{sizes_length, worst_length}
use Rattle.row_lengths.proofs.Asked.{soft_small}
use Rattle.row_lengths.proofs.Slots.{new_length, open_length, close_length, receive_length, share_length, read_length, streams_length}
use Rattle.row_lengths.proofs.Builds.{refusal_length, build_length, build_down_length}

-- the row of a call, by its verb
made_within : (v : Verb) (n : List ℕ) (terminal : ℕ) (bits : List ℕ) (state : State) (four : Bool) (store : List ℕ) → at n 6 < 2 ^ 64
    → length (row_made v n terminal bits state four store) ≤ longest_row
unfolding row_made row_by outcome_by store_by
made_within New n terminal bits state four store small = omega (arith, new_length (at n 0) (at n 1))
made_within Open n terminal bits state four store small = omega (arith, open_length state (length (places_in four store)) (at n 0) terminal (at n 2))
made_within OpenDown n terminal bits state four store small =
    omega (arith, share_length state (length (places_in four store)) (at n 0) terminal (at n 2) (at n 3) (at n 4) (at n 5) (at n 6) (at n 7) small)
made_within Close n terminal bits state four store small = omega (arith, close_length state (at n 0) terminal)
made_within Receive n terminal bits state four store small =
    omega (arith, receive_length state (at n 0) terminal (at n 2) (at n 3) (at n 4) bits (places_in four store))
made_within Read n terminal bits state four store small = omega (arith, read_length state (places_in four store) (at n 0) terminal)
made_within Streams n terminal bits state four store small = omega (arith, streams_length state (places_in four store) (at n 0) terminal (at n 2))
made_within Build n terminal bits state four store small = build_length bits (grant (at n 0) (at n 1) (at n 2) (at n 3))
made_within BuildDown n terminal bits state four store small =
    build_down_length bits (at n 0) (at n 1) (at n 2) (at n 3) (at n 4) (grant (at n 5) (at n 6) (at n 7) (at n 8))
made_within Sizes n terminal bits state four store small = omega (arith, sizes_length (at n 0))
made_within Worst n terminal bits state four store small = omega (arith, worst_length (at n 0) (at n 1) (at n 2))
made_within Pack n terminal bits state four store small = omega arith
made_within Unpack n terminal bits state four store small = omega arith
made_within Nothing n terminal bits state four store small = omega arith
made_within Unreadable n terminal bits state four store small = omega (arith, refusal_length 15 (omega arith))

-- the row of a change of form
change_within : (state : State) (plain packed : ℕ) → length (change_row state plain packed) ≤ longest_row
unfolding change_row
change_within state plain packed = go (eqb (form_number state plain packed) 0)
  where
    go : (t : Bool) → length (cond t (answer_row Done) (refusal_row (form_number state plain packed))) ≤ longest_row
    go true = omega (arith, done_length)
    go false = omega (arith, refusal_length (form_number state plain packed) (form_most state plain packed))

module _ (state : State) (four : Bool) (plain packed line : List ℕ) where
  -- No row is longer, `longest_row` being 172,804.
  pub row_within : length (row_of_line state four plain packed line) ≤ longest_row
  unfolding row_of_line call_row
  row_within = go (change_of (request_of line).verb)
    where
      go : (asked : Option Bool) → length (by_change asked (λ to. change_row state (length plain) (length packed)) (call_row state four (cond four packed plain) line)) ≤ longest_row
      go (Some to) = change_within state (length plain) (length packed)
      go None =
          made_within (request_of line).verb (request_of line).numbers (at (request_of line).numbers 1) (bits_of line) state four (cond four packed plain) (soft_small line)

  -- In the words of the contract of `replay_line`, for an output that is long enough.
  module _ (out : List ℕ) (long : longest_row ≤ length out) where
    fits : 0 + length (row_of_line state four plain packed line) ≤ length out
    fits = omega (arith, row_within)

    -- What it tells that it wrote is the length of the row.
    pub written_whole : (step_within state four plain packed line out).written ≡ length (row_of_line state four plain packed line)
    unfolding step_within
    written_whole =
        rw (le-ltb (length out) longest_row long)
        (step_row state four plain packed line out ∙ end_fits 0 (row_of_line state four plain packed line) out fits ∙ zero-add _)

    -- The row stands at the front of the output, and what stood behind it stays.
    pub output_whole : out_within state four plain packed line out
        ≡ row_of_line state four plain packed line ++ drop (length (row_of_line state four plain packed line)) out
    unfolding out_within out_after put_over
    output_whole =
        rw (le-ltb (length out) longest_row long)
        (put_fits 0 (row_of_line state four plain packed line) out fits
        ∙ ap (λ (n : ℕ). row_of_line state four plain packed line ++ drop n out) (zero-add (length (row_of_line state four plain packed line))))

    -- So the bytes that were written are the row.
    pub answered_whole : take (step_within state four plain packed line out).written (out_within state four plain packed line out)
        ≡ row_of_line state four plain packed line
    answered_whole =
        rw (written_whole, output_whole)
        (take-append_seam (row_of_line state four plain packed line) (drop (length (row_of_line state four plain packed line)) out))
