-- `yard::call_line` meets its contract: the call has the line's BITS, by the laws of `Given` and `Calls`.
-- Assumes nothing.
use Prim.Native.Nat.{◌≤◌}
use native.Mathlib.Omega.{arith}
use lib.ListN.{length}
use Rattle.laws.proofs.Parts.{front_count}
use Rattle.requests.specs.Request.{longest_line}
use Rattle.call_rows.proofs.Wrote.{fresh}
use Rattle.yard.proofs.Given.{count_fits, given_bits, none_given}
use Rattle.yard.proofs.Calls.{line_called}
use Rattle.yard.proofs.call_line.Goals.{After-read_bits-count}
use Rattle.yard.proofs.call_line.Goals as goal

pub returns-then-line-from : goal.returns-then-line-from
returns-then-line-from c =
    let told = line_called c.args.line.now c.requires (λ short. none_given c.args.line.now c.args.request.bits c.if-line-from.true) _ _ _ _ (c.call_with.ensures.value, (c.call_with.ensures.store_after, c.call_with.ensures.out_after)) in
    record { value = told.0; store_after = told.1.0; out_after = told.1.1 }

-- the bits stand within their room
within : (c : After-read_bits-count) → c.read_bits-count.result ≤ length c.read_bits-count.new.out
within c =
    omega (arith, count_fits c.args.line.now c.args.request.bits c.bits_buffer-given.result c.read_bits-count.ensures.value, c.read_bits-count.auto.out)

pub slice_bounds-given-end : goal.slice_bounds-given-end
slice_bounds-given-end c = within (goal.at.slice_bounds-given-end c).After-read_bits-count

pub slice_bounds-call_with-end-2 : goal.slice_bounds-call_with-end-2
slice_bounds-call_with-end-2 c = front_count _ _ (within (goal.at.slice_bounds-call_with-end-2 c).After-read_bits-count)

pub returns : goal.returns
returns c =
    let told = line_called c.args.line.now c.requires
    (λ short. given_bits c.args.line.now c.args.request.bits _ c.read_bits-count.ensures.value c.read_bits-count.ensures.out_after (omega (arith, short, fresh longest_line c.bits_buffer-given.ensures)))
    _ _ _ _ (c.call_with-2.ensures.value, (c.call_with-2.ensures.store_after, c.call_with-2.ensures.out_after)) in
    record { value = told.0; store_after = told.1.0; out_after = told.1.1 }
