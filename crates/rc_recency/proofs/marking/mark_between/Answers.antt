use Rattle.std.proofs.Common.{refl, arith}
use Rattle.rc_core.specs.Change.{entry_changed}
use Rattle.rc_version.specs.Versions.{mark_after, marked_between}
use Rattle.rc_recency.proofs.Aligned.{positions-each}
use Rattle.rc_recency.specs.laws.Held.{standing-as, stands}
use Rattle.rc_recency.proofs.Marked.{between-bytes, held-marked}
use Rattle.rc_recency.proofs.marking.mark_between.Goals as goal

pub mark_between-requires : goal.mark_between-requires
mark_between-requires g c = let q = c.requires.version in
    (omega arith, (c.requires.ascend, ((standing-as q.0 c.args.region.now q.1 q.2 q.3 q.4 q.5 q.6 q.7 c.args.v q.8).entries, q.7, stands q.0 c.args.region.now q.1 q.2 q.3 q.4 q.5 q.6 q.7 c.args.v q.8, q.9, q.10)))

pub returns-clause-changed : goal.returns-clause-changed
returns-clause-changed g c = λ slots registry counts m id j k d h. let e = c.mark_between.ensures in let old = c.args.region.now in let from = c.args.from.now in let to = c.args.to.now in
    held-marked slots old c.mark_between.new.region registry counts m id j k d c.args.v h (marked_between (mark_after c.args.marking) from to) (e.marked (standing-as slots old registry counts m id j k d c.args.v h).entries d (stands slots old registry counts m id j k d c.args.v h)) e.kept
    c.known.ensures.summed c.known-2.ensures.well c.known-2.ensures.summed (between-bytes (mark_after c.args.marking) from to d) (positions-each (entry_changed (mark_after c.args.marking) from to) (λ x. refl) d.entries) e.live e.statics
