-- `new` meets its contract: 5, or S, M and 32 numbers that are 0 over the first 272 bytes.
-- Assumes nothing.
use mathlib.Core.Path.{◌∙◌, ap}
use mathlib.Core.List.{List, ◌++◌}
use Prim.Native.Nat.{ℕ}
use native.Mathlib.Omega.{arith}
use borrow.Author.Tests.{lt-ltb, le-ltb}
use lib.ListN.{drop}
use lib.Seq.{length-take-le}
use Rattle.laws.proofs.Parts.{front_count}
use Rattle.slots.specs.Outcome.{Outcome}
use Rattle.slots.specs.Answers.{number_of}
use Rattle.state_bytes.specs.Numbers.{in_bytes}
use Rattle.state_bytes.specs.StateBytes.{state_bytes, new_number, new_bytes}
use Rattle.state_bytes.proofs.Bytes.{whole_over}
use Rattle.state_bytes.proofs.Finished.{closed_numbers}
use Rattle.state_bytes.proofs.new.Goals as goal

pub returns-then-bytes-lt-STATE_LEN : goal.returns-then-bytes-lt-STATE_LEN
unfolding new_number new_bytes
returns-then-bytes-lt-STATE_LEN c = record { value = rw (lt-ltb _ _ c.if-bytes-lt-STATE_LEN.true); bytes_after = rw (lt-ltb _ _ c.if-bytes-lt-STATE_LEN.true) }

pub slice_bounds-put_numbers-end-3 : goal.slice_bounds-put_numbers-end-3
slice_bounds-put_numbers-end-3 c = front_count 272 c.args.bytes.now c.if-bytes-lt-STATE_LEN.false

pub returns : goal.returns
unfolding new_number new_bytes state_bytes
returns c =
    let bytes = c.args.bytes.now in record {
      value = rw (le-ltb _ _ c.if-bytes-lt-STATE_LEN.false) (c.number.ensures ∙ ap (λ (o : Outcome). number_of o.answer) c.new-outcome.ensures);
      bytes_after = rw (le-ltb _ _ c.if-bytes-lt-STATE_LEN.false, ← c.new-outcome.ensures)
          (ap (λ (l : List ℕ). l ++ drop 272 bytes)
          (c.put_numbers.ensures ∙ whole_over 8 _ _ (omega arith) (length-take-le 272 bytes c.if-bytes-lt-STATE_LEN.false) ∙ ap (in_bytes 8) (closed_numbers _ _ _ c.new-outcome.ensures)));
    }
