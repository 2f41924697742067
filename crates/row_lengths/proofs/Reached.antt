-- A line that is answered by a row of 172,804 bytes, whatever the state and the stores are: `build 2 1 0 172800 0`, a block of one bit in 172,800.
-- Assumes nothing.
use mathlib.Core.Path.{◌≡◌, refl}
use mathlib.Core.Bool.{Bool}
use mathlib.Core.List.{List, [], ◌∷◌}
use Prim.Native.Nat.{ℕ}
use lib.ListN.{length}
use Rattle.refusals.specs.Refusals.{first_of}
use Rattle.segmentation.specs.Segmentation.{blocks}
use Rattle.segmentation.specs.Sizes.{bad_size}
use Rattle.codeword.specs.Shares.{grant, symbols}
use Rattle.codeword.specs.Build.{bad_modulation, bad_layers, bad_symbol, bad_length, bad_version, bad_bits, build_rules, build_number}
use Rattle.slots.specs.declared.State.{State}
use Rattle.lines.specs.Line.{is_digit, read_on, too_long, leading_zero, line_of}
use Rattle.lines.specs.Text.{onto}
use Rattle.requests.specs.declared.Verb.TheVariants.{Build}
use Rattle.line_words.specs.Words.{words_of, word_at, same_bytes, all_digits, is_run, bit_of}
use Rattle.requests.specs.Verbs.{stateless, verb_of, form_of}
use Rattle.requests.specs.Numbers.{digits_at, read_word, says_number, number_at, said_from, field, fields}
use Rattle.requests.specs.Request.{is_silent, right_words, right_terminal, right_bits, well_formed, asked_by, asked_for, request_of, bits_from}
use Rattle.call_rows.specs.Rooms.{build_room}
use Rattle.line_rows.specs.Row.{row_by}
use Rattle.form_changes.specs.Line.{change_of}
use Rattle.yard.specs.Step.{row_made, bits_of, call_row, row_of_line, longest_row}
use Rattle.row_lengths.proofs.Builds.{build_exactly}

-- `build 2 1 0 172800 0`
unfoldable pub longest_answered : List ℕ
longest_answered =
    98 ∷ 117 ∷ 105 ∷ 108 ∷ 100 ∷ 32 ∷ 50 ∷ 32 ∷ 49 ∷ 32 ∷ 48 ∷ 32 ∷ 49 ∷ 55 ∷ 50 ∷ 56 ∷ 48 ∷ 48 ∷ 32 ∷ 48 ∷ []

asks : request_of longest_answered ≡ record { verb = Build; numbers = 2 ∷ 1 ∷ 0 ∷ 172800 ∷ 0 ∷ 0 ∷ 0 ∷ 0 ∷ 0 ∷ []; bits = 19 }
unfolding longest_answered request_of is_silent asked_for asked_by well_formed right_words right_terminal right_bits words_of word_at onto same_bytes all_digits is_run is_digit stateless verb_of form_of fields field number_at said_from says_number digits_at read_word line_of leading_zero too_long read_on
asks = refl

accepted : build_number (0 ∷ []) (grant 2 1 0 172800) build_room ≡ 0
unfolding build_number build_rules first_of bad_size bad_symbol bad_modulation bad_layers bad_length bad_version bad_bits symbols blocks
accepted = refl

pub longest_reached : (state : State) (four : Bool) (plain packed : List ℕ) → length (row_of_line state four plain packed longest_answered) ≡ longest_row
unfolding longest_answered row_of_line call_row row_made row_by change_of bits_of bits_from bit_of
longest_reached state four plain packed = rw asks (build_exactly (0 ∷ []) (grant 2 1 0 172800) accepted)
