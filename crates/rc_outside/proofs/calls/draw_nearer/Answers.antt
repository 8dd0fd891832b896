use Rattle.std.proofs.Common.{rules}
use Rattle.std.proofs.lemmas.List.Edits.{map_over_more}
use Rattle.rc_outside.specs.Failures.{one_call_nearer}
use Rattle.rc_outside.proofs.calls.draw_nearer.Goals as goal

pub loop-failure-preserved : goal.loop-failure-preserved
loop-failure-preserved c =
    rw c.after.ensures (map_over_more (one_call_nearer c.args.call) c.args.fails.now c.loop-failure.fails c.loop-failure.failure-index _ c.loop-failure-test.true c.loop-failure.invariant (search rules))
