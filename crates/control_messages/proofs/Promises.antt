-- The promises of 02, E5, in its words, with their premises in full.
-- Assumes nothing.
use mathlib.Core.Path.{◌≡◌, refl, sym}
use mathlib.Core.List.{List}
use Prim.Native.Nat.{ℕ, ◌+◌, ◌*◌, ◌≤◌, ◌<◌}
use native.Mathlib.Omega.{arith}
use lib.ListN.{length, get_or}
use borrow.Author.Tests.{le-ltb, lt-ltb}
use Rattle.std.specs.declared.result.Result.TheVariants.{Ok}
use Rattle.laws.specs.Bits.{AreBits}
use Rattle.codeword.proofs.Accepted.{bits_good}
use Rattle.rate_matching.specs.Places.{stream_of}
use Rattle.rate_matching.specs.Walk.{loop, on_circle, sent_places, is_bit, holds_bit, Among}
use Rattle.rate_matching.proofs.Walk.{loop_is_selected}
use Rattle.control_messages.specs.Attachment.{attached}
use Rattle.control_messages.specs.TailBiting.{generator0, generator1, generator2, parity_stream}
use Rattle.control_messages.specs.RateMatching.{control_column, control_circle, matched, lies_at}
use Rattle.control_messages.specs.Printed.{printed_control_columns}
use Rattle.control_messages.specs.Message.{coded, message}
use Rattle.control_messages.specs.Ownership.{payload_of, Fits, owner_of}
use Rattle.control_messages.specs.Calls.{bad_run, whose_answer, whose_number}
use Rattle.control_messages.specs.Working.{Sized}
use Rattle.control_messages.proofs.Columns.{control_column_printed}
use Rattle.control_messages.proofs.Encoding.{length_parity_stream}
use Rattle.control_messages.proofs.Attached.{length_attached, attached_bits}
use Rattle.control_messages.proofs.Whole.{streams_bits}
use Rattle.control_messages.proofs.Owners.{payload_attached, owner_attached, fits_only, fits_owner}
use Rattle.control_messages.proofs.Numbers.{whose_is, named_answer}
use Rattle.control_messages.proofs.Sent.{lies_there, lies_lt, sent_once}

-- ---- the columns

-- table 5.1.4-2 as printed
pub columns_printed : (c : ℕ) → c < 32 → control_column c ≡ get_or printed_control_columns c 0
columns_printed = control_column_printed

-- ---- whose a run is

module _ (run : List ℕ) (z : Sized (length run)) (h : AreBits run) where
  accepted : whose_number run ≡ 0
  unfolding bad_run
  accepted = sym (whose_is run (rw (le-ltb (length run) 17 z.least, le-ltb 80 (length run) z.most)) (bits_good run h))

  -- exactly one terminal number fits any such word, and it is the one answered
  pub one_terminal_fits : (t : ℕ) × Fits run t × ((u : ℕ) → Fits run u → u ≡ t) × (whose_answer run ≡ Ok t)
  one_terminal_fits = (
    owner_of run,
    fits_owner run (omega (arith, z.least)) h,
    fits_only run,
    sym (named_answer run accepted refl),
  )

-- a payload of 1 to 64 bits and a terminal number
module _ (a : List ℕ) (t : ℕ) (some : 0 < length a) (few : length a ≤ 64) (bits : AreBits a) (small : t < 65536) where
  -- the coded bits, D of them in each of the three streams
  abbrev c : List ℕ
  c = attached a t

  long : length c ≡ length a + 16
  long = length_attached a t

  sized : Sized (length c)
  sized = record { least = omega (arith, long); most = omega (arith, long) }

  -- the payload and check of its message come back as its own
  pub comes_back : (whose_answer c ≡ Ok t) × (payload_of c ≡ a)
  comes_back = (
    sym (named_answer c (accepted c sized (attached_bits a t bits)) (sym (owner_attached a t small))),
    payload_attached a t small,
  )

  abbrev circle : List ℕ
  circle = control_circle (parity_stream generator0 c) (parity_stream generator1 c) (parity_stream generator2 c)

  -- the standard's own loop round the circle, with turns enough, sends the message
  pub standards_loop : (fuel E : ℕ) → E * length circle ≤ fuel → loop fuel circle 0 0 E ≡ message a t E
  unfolding message coded matched holds_bit is_bit stream_of
  standards_loop fuel E turns =
      let b = streams_bits c (omega (arith, long)) (attached_bits a t bits) in
      let there = lies_there (length c) (parity_stream generator0 c) (parity_stream generator1 c) (parity_stream generator2 c)
      (length_parity_stream generator0 c) (length_parity_stream generator1 c) (length_parity_stream generator2 c) 0 0 (omega arith) (omega (arith, long)) in
      let within = lies_lt (length c) (parity_stream generator0 c) (parity_stream generator1 c) (parity_stream generator2 c)
      (length_parity_stream generator0 c) (length_parity_stream generator1 c) (length_parity_stream generator2 c) 0 0 (omega arith) (omega (arith, long)) in
      loop_is_selected circle 0 (omega (arith, within)) fuel E (lies_at (length c) 0 0) within (rw there (lt-ltb _ _ (b.0 0))) turns

  -- a message with E at least 3·(payload + 16) sends every coded bit at least once: the place of the circle that holds it is among those sent
  module _ (E s i : ℕ) (enough : 3 * (length a + 16) ≤ E) (stream : s < 3) (place : i < length a + 16) where
    inside : i < length c
    inside = rw long place

    pub every_coded_bit_sent : Among (lies_at (length c) s i) (sent_places circle 0 E)
    every_coded_bit_sent =
        let b = streams_bits c (omega (arith, long)) (attached_bits a t bits) in
        sent_once (length c) (parity_stream generator0 c) (parity_stream generator1 c) (parity_stream generator2 c)
        (length_parity_stream generator0 c) (length_parity_stream generator1 c) (length_parity_stream generator2 c)
        sized b.0 b.1 b.2 E s i (omega (arith, long)) stream inside

    pub coded_bit_there : on_circle circle (lies_at (length c) s i) ≡ get_or (stream_of (parity_stream generator0 c) (parity_stream generator1 c) (parity_stream generator2 c) s) i 0
    coded_bit_there =
        lies_there (length c) (parity_stream generator0 c) (parity_stream generator1 c) (parity_stream generator2 c)
        (length_parity_stream generator0 c) (length_parity_stream generator1 c) (length_parity_stream generator2 c) s i stream inside
