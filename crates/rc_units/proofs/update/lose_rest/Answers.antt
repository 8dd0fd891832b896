use Rattle.rc_position.specs.Position.{Clustered}
use Rattle.rc_units.specs.Update.{lost_behind}
use Rattle.rc_units.proofs.Writing.{step-set}
use Rattle.rc_units.proofs.update.lose_rest.Goals as goal

pub loop-entry-preserved : goal.loop-entry-preserved
loop-entry-preserved c =
    step-set (lost_behind (Clustered c.args.place.now)) c.args.entries.now c.loop-entry.entries c.loop-entry.entry-index c.entry-item.result c.lose_behind.new.entry
    c.loop-entry-test.true c.loop-entry.invariant c.lose_behind.ensures
