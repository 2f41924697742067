-- A turn of a log as it comes in: what a read brought, the answer to the line that stands there, and the line after it. An unfinished line waits.
-- Assumes nothing.
use Rattle.std.specs.Prelude.{Bool, false, cond, List, ℕ, ◌-◌, eqb, take, drop}
use Rattle.slots.specs.Calls.{new_outcome}
use Rattle.log_input.specs.declared.Line.{Line}
use Rattle.log_input.specs.Line.{unread_line, line_now, text_now, line_after, text_after, none_left}
use Rattle.yard.specs.declared.Step.{Step}
use Rattle.yard.specs.Step.{step_within, plain_within, packed_within, out_within}
use Rattle.log_answers.specs.declared.Log.{Log}

-- before the first read: the state of a refused New, plain rooms
unfoldable pub first_log : Log
first_log = record { step = record { state = (new_outcome 0 0).state; four = false; written = 0 }; line = unread_line }

-- ---- the answer to a line of the text

-- its bytes
unfoldable pub bytes_of : Line → List ℕ → List ℕ
bytes_of line text = take (line.to - line.from) (drop line.from text)

-- the step that it makes: none while it is unfinished
unfoldable pub step_answered : Step → Line → List ℕ → List ℕ → List ℕ → List ℕ → Step
step_answered before line text plain packed out =
    cond (eqb line.to line.end)
    (record { state = before.state; four = before.four; written = 0 })
    (step_within before.state before.four plain packed (bytes_of line text) out)

-- the two stores and the output afterwards, where the output has `size` bytes
unfoldable pub plain_answered : Step → Line → List ℕ → List ℕ → List ℕ → ℕ → List ℕ
plain_answered before line text plain packed size =
    cond (eqb line.to line.end) plain (plain_within before.state before.four plain packed (bytes_of line text) size)

unfoldable pub packed_answered : Step → Line → List ℕ → List ℕ → List ℕ → ℕ → List ℕ
packed_answered before line text plain packed size =
    cond (eqb line.to line.end) packed (packed_within before.state before.four plain packed (bytes_of line text) size)

unfoldable pub out_answered : Step → Line → List ℕ → List ℕ → List ℕ → List ℕ → List ℕ
out_answered before line text plain packed out =
    cond (eqb line.to line.end) out (out_within before.state before.four plain packed (bytes_of line text) out)

-- ---- a turn after a read that brought `count` bytes

-- the log then
unfoldable pub log_turned : Log → ℕ → List ℕ → List ℕ → List ℕ → List ℕ → Log
log_turned log count text plain packed out =
    record {
      step = step_answered log.step (line_now log.line count text) (text_now log.line count text) plain packed out;
      line = line_after (line_now log.line count text) (text_now log.line count text);
    }

-- the text, the two stores and the output
unfoldable pub text_turned : Log → ℕ → List ℕ → List ℕ
text_turned log count text = text_after (line_now log.line count text) (text_now log.line count text)

unfoldable pub plain_turned : Log → ℕ → List ℕ → List ℕ → List ℕ → ℕ → List ℕ
plain_turned log count text plain packed size =
    plain_answered log.step (line_now log.line count text) (text_now log.line count text) plain packed size

unfoldable pub packed_turned : Log → ℕ → List ℕ → List ℕ → List ℕ → ℕ → List ℕ
packed_turned log count text plain packed size =
    packed_answered log.step (line_now log.line count text) (text_now log.line count text) plain packed size

unfoldable pub out_turned : Log → ℕ → List ℕ → List ℕ → List ℕ → List ℕ → List ℕ
out_turned log count text plain packed out =
    out_answered log.step (line_now log.line count text) (text_now log.line count text) plain packed out

-- how many turns are left after one of so many: none where the answer could not be written (`going` is false) or no line is left
unfoldable pub turns_left : ℕ → Bool → Line → ℕ
turns_left turns going line = cond (eqb turns 0) 0 (cond (none_left line) 0 (cond going (turns - 1) 0))
