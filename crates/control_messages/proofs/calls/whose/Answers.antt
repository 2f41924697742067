-- `calls::whose` meets its contract: a refusal, or the payload's own check with the carried one added.
-- Assumes nothing.
use mathlib.Core.Path.{sym}
use mathlib.Core.List.{List}
use Prim.Native.Nat.{ℕ, ◌≤◌}
use native.Mathlib.Omega.{arith}
use lib.ListN.{length}
use Rattle.std.proofs.lemmas.Result.{err_from_is_err_and}
use Rattle.laws.specs.Bits.{AreBits}
use Rattle.refusals.proofs.Numbers.{given_err}
use Rattle.control_messages.specs.Calls.{whose_answer}
use Rattle.control_messages.proofs.Numbers.{whose_sized, whose_bits, named_answer}
use Rattle.control_messages.proofs.Owners.{fits_owner, part_long, part_bits, owner_worked}
use Rattle.control_messages.proofs.calls.whose.Goals.{In_ok-accept_run}
use Rattle.control_messages.proofs.calls.whose.Goals as goal

abbrev given : In_ok-accept_run → List ℕ
given c = c.args.run.now

-- past the `?` the number is 0, so there are 17 to 80 bits
enough : (c : In_ok-accept_run) → 16 ≤ length (given c)
enough c = omega (arith, (whose_sized (given c) (sym c.in_ok-accept_run.ensures)).least)

bits : (c : In_ok-accept_run) → AreBits (given c)
bits c = whose_bits (given c) (sym c.in_ok-accept_run.ensures)

pub returns-in_err-accept_run : goal.returns-in_err-accept_run
unfolding whose_answer
returns-in_err-accept_run c =
    let p = err_from_is_err_and c.from_residual.result c.from_residual.ensures.1 in
    rw (p.1, p.2) (given_err _ c.in_err-accept_run.ensures)

pub overflow_sub-end : goal.overflow_sub-end
overflow_sub-end c = enough (goal.at.overflow_sub-end c).In_ok-accept_run

pub number_of-carried-requires : goal.number_of-carried-requires
number_of-carried-requires c =
    let here = (goal.at.number_of-carried-requires c).In_ok-accept_run in
    (part_long (given here) (enough here) (bits here), part_bits (given here) (enough here) (bits here))

pub overflow_cast-result : goal.overflow_cast-result
overflow_cast-result c =
    let here = (goal.at.overflow_cast-result c).In_ok-accept_run in
    record { fits = rw (owner_worked (given here) (enough here) (bits here) c.crc16-own.ensures c.number_of-carried.ensures) (fits_owner (given here) (enough here) (bits here)).terminal }

pub returns : goal.returns
returns c =
    let here = (goal.at.returns c).In_ok-accept_run in
    named_answer (given here) (sym c.in_ok-accept_run.ensures) (owner_worked (given here) (enough here) (bits here) c.crc16-own.ensures c.number_of-carried.ensures)
