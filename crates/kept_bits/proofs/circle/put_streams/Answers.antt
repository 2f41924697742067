use Rattle.kept_bits.proofs.Rows.{any_stream}
use Rattle.kept_bits.proofs.Runs.{running_start, run_long, running_next}
use Rattle.kept_bits.proofs.circle.put_streams.Goals as goal

pub loop-s-init : goal.loop-s-init
loop-s-init c = running_start _ _ _ _ c.requires.1

pub stream-requires : goal.stream-requires
stream-requires c =
    let more = c.loop-s-test.true in (
      c.requires.0,
      run_long c.loop-s.invariant more,
      any_stream c.requires.2 more,
    )

pub loop-s-preserved : goal.loop-s-preserved
loop-s-preserved c = running_next c.loop-s.invariant c.loop-s-test.true c.stream.ensures
