use Rattle.std.proofs.Common.{arith}
use Rattle.rc_core.proofs.Dropping.{dropped_by_index}
use Rattle.rc_core.proofs.Putting.{dropped_left}
use Rattle.rc_core.proofs.plain.drop_entry.Goals as goal

pub returns-clause-value : goal.returns-clause-value
returns-clause-value c =
    dropped_left c.args.entries.now.items c.remove-dropped.new.self.items c.args.index c.index_mut.result.now c.index_mut.result.now c.mark_of_lost.result c.mark_of_lost.ensures
    c.remove-dropped.ensures.by_index.2 (omega (arith, c.requires)) (omega (arith, c.requires, c.remove-dropped.ensures.len)) c.index_mut.ensures.value

pub returns-clause-dropped : goal.returns-clause-dropped
returns-clause-dropped c = dropped_by_index c.args.entries.now.items _ c.args.index (omega (arith, c.requires))
    (dropped_left c.args.entries.now.items c.remove-dropped.new.self.items c.args.index c.index_mut.result.now c.index_mut.result.now c.mark_of_lost.result c.mark_of_lost.ensures
    c.remove-dropped.ensures.by_index.2 (omega (arith, c.requires)) (omega (arith, c.requires, c.remove-dropped.ensures.len)) c.index_mut.ensures.value)
