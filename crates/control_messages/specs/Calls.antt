-- The two calls of 02, E5: their numbers, in the order 20, 3, 5, 2, and what they leave, on refusal as on success.
-- Assumes nothing.
use Rattle.std.specs.Prelude.{Bool, cond, ◌||◌, List, [], ◌∷◌, ◌++◌, ℕ, eqb, ltb, length, drop}
use Rattle.std.specs.declared.result.Result.{Result}
use Rattle.std.specs.declared.result.Result.TheVariants.{Ok, Err}
use Rattle.refusals.specs.declared.Refusal.{Refusal}
use Rattle.refusals.specs.Refusals.{Rule, rule, first_of, given_by}
use Rattle.codeword.specs.Build.{output_rule, bits_rule}
use Rattle.control_messages.specs.Message.{message}
use Rattle.control_messages.specs.Ownership.{owner_of}

-- number 20: a payload is 1 to 64 bits, and a run of payload and check 17 to 80
unfoldable pub bad_payload : ℕ → Bool
bad_payload n = eqb n 0 || ltb 64 n

unfoldable pub bad_run : ℕ → Bool
bad_run n = ltb n 17 || ltb 80 n

-- number 3: an output of 0 or above 4,096 bits
unfoldable pub bad_length : ℕ → Bool
bad_length E = eqb E 0 || ltb 4096 E

-- the rules by their names; those of an output that is too short and of given bits are Build's
abbrev pub payload_rule : ℕ → Rule
payload_rule n = rule (bad_payload n) 20

abbrev pub run_rule : ℕ → Rule
run_rule n = rule (bad_run n) 20

abbrev pub message_rule : ℕ → Rule
message_rule E = rule (bad_length E) 3

-- the refusals of building; size is the length of the output
unfoldable pub control_rules : List ℕ → ℕ → ℕ → List Rule
control_rules a E size = payload_rule (length a) ∷ message_rule E ∷ output_rule E size ∷ bits_rule a ∷ []

unfoldable pub control_number : List ℕ → ℕ → ℕ → ℕ
control_number a E size = first_of (control_rules a E size)

-- the output afterwards: the message over its first E bytes, or as it was
unfoldable pub control_output : List ℕ → ℕ → ℕ → List ℕ → List ℕ
control_output a t E out = cond (eqb (control_number a E (length out)) 0) (message a t E ++ drop E out) out

-- the refusals of the way back
unfoldable pub whose_rules : List ℕ → List Rule
whose_rules run = run_rule (length run) ∷ bits_rule run ∷ []

unfoldable pub whose_number : List ℕ → ℕ
whose_number run = first_of (whose_rules run)

-- whose the run is, or the refusal
unfoldable pub whose_answer : List ℕ → Result ℕ Refusal
whose_answer run = given_by (whose_number run) (owner_of run)

-- the terminal number that an answer names; where it names none, what was there before
unfoldable pub terminal_of : Result ℕ Refusal → ℕ → ℕ
terminal_of (Ok t) before = t
terminal_of (Err refusal) before = before
