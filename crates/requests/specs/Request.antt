-- What a line of the yard's log asks for: a call with its numbers and the place of its BITS, or nothing, or what can't be read (number 15).
-- Assumes nothing.
use Rattle.std.specs.Prelude.{Bool, cond, not, ◌&&◌, ◌||◌, Option, None, Some, List, ◌++◌, map, ℕ, ◌+◌, ◌-◌, eqb, leb, ltb, length, drop, get_or, replicate}
use Rattle.line_words.specs.Words.{words_of, word_at, is_run, bit_of}
use Rattle.requests.specs.declared.Verb.{Verb}
use Rattle.requests.specs.declared.Verb.TheVariants.{Nothing, Unreadable}
use Rattle.requests.specs.declared.Form.{Form}
use Rattle.requests.specs.declared.Request.{Request}
use Rattle.requests.specs.Verbs.{verb_of, form_of}
use Rattle.requests.specs.Numbers.{said_from, number_at, fields}

-- the bytes of the longest line that is read, its newline not counted
abbrev pub longest_line : ℕ
longest_line = 200000

-- an empty line and a line beginning with `#`, of any length, give no answer
unfoldable pub is_silent : List ℕ → Bool
is_silent l = eqb (length l) 0 || eqb (get_or l 0 0) 35

-- the words of a line are the verb, its numbers and, where it has them, BITS
unfoldable pub right_words : List ℕ → Form → Bool
right_words l f = eqb (length (words_of l)) (f.numbers + 1 + cond f.bits 1 0) && said_from l f 1 f.numbers

-- a terminal is a 16-bit number
unfoldable pub right_terminal : List ℕ → Form → Bool
right_terminal l f = not f.terminal || leb (number_at l f 2) 65535

unfoldable pub right_bits : List ℕ → Form → Bool
right_bits l f = not f.bits || is_run (word_at l (f.numbers + 1))

-- the line asks for a call
unfoldable pub well_formed : List ℕ → Form → Bool
well_formed l f = right_words l f && (right_terminal l f && right_bits l f)

-- a request without numbers or bits
unfoldable pub bare : Verb → Request
bare v = record { verb = v; numbers = replicate {A = ℕ} 9 0; bits = 0 }

-- a call's numbers, and the start of its last word if that is BITS, else the line's end
abbrev pub call : List ℕ → Verb → Form → Request
call l v f = record { verb = v; numbers = fields l f; bits = length l - length (word_at l (f.numbers + 1)) }

-- the call with this verb, whose form is given, where there is one and the line has it
unfoldable pub asked_by : List ℕ → Verb → Option Form → Request
asked_by l v None = bare Unreadable
asked_by l v (Some f) = cond (well_formed l f) (call l v f) (bare Unreadable)

unfoldable pub asked_for : List ℕ → Verb → Request
asked_for l v = asked_by l v (form_of v)

-- what a line, without its newline, asks for
unfoldable pub request_of : List ℕ → Request
request_of l =
    cond (is_silent l) (bare Nothing)
    (cond (ltb longest_line (length l)) (bare Unreadable) (asked_for l (verb_of (word_at l 0))))

-- the bits that the digits from a place on stand for
unfoldable pub bits_from : List ℕ → ℕ → List ℕ
bits_from l from = map bit_of (drop from l)

-- the output with them over its front, where they fit
unfoldable pub bits_over : List ℕ → ℕ → List ℕ → List ℕ
bits_over l from out =
    cond (leb (length (bits_from l from)) (length out)) (bits_from l from ++ drop (length (bits_from l from)) out) out
