-- `yard::call_with` meets its contract: the call, and then its row, by the laws of `Calls`.
-- Assumes nothing.
use Rattle.yard.proofs.Calls.{made}
use Rattle.yard.proofs.call_with.Goals as goal

pub returns : goal.returns
returns c =
    let told = made _ _ _ _ _ _ _ _ c.make_call-outcome.ensures.value c.make_call-outcome.ensures.store_after (c.put_row-written.ensures.value, c.put_row-written.ensures.out_after) in
    record { value = told.0; store_after = told.1.0; out_after = told.1.1 }
