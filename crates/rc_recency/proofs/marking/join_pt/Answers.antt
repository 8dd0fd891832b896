use Rattle.std.proofs.Common.{refl, arith}
use Rattle.rc_core.specs.Steps.{join_pt}
use Rattle.rc_recency.specs.laws.Held.{standing-as, stands}
use Rattle.rc_recency.proofs.Marked.{held-rewritten}
use Rattle.rc_recency.proofs.marking.join_pt.Goals as goal

pub join_pt-requires : goal.join_pt-requires
join_pt-requires g c = let q = c.requires in
    (omega arith, ((standing-as q.0 c.args.region.now q.1 q.2 q.3 q.4 q.5 q.6 q.7 c.args.v q.8).entries, q.7, stands q.0 c.args.region.now q.1 q.2 q.3 q.4 q.5 q.6 q.7 c.args.v q.8))

pub returns-clause-changed : goal.returns-clause-changed
returns-clause-changed g c = λ slots registry counts m id j k d h. let e = c.join_pt.ensures in let old = c.args.region.now in
    held-rewritten slots old c.join_pt.new.region registry counts m id j k d c.args.v h (join_pt c.args.tomb) (e.joined (standing-as slots old registry counts m id j k d c.args.v h).entries d (stands slots old registry counts m id j k d c.args.v h)) e.kept
    c.known.ensures.summed c.known-2.ensures.well c.known-2.ensures.summed refl refl c.args.v e.rewritten
