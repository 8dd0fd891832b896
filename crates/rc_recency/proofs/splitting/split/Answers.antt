use Rattle.std.proofs.Common.{◌+◌, ◌≤◌, Some, sym, subst, arith}
use Rattle.rc_rowcode.specs.Objects.{dummy_size}
use Rattle.lsa_pool.specs.Room.{spare_of}
use Rattle.rc_memory.specs.Changes.{member_at}
use Rattle.rc_recency.specs.laws.Held.{standing-as, stands}
use Rattle.rc_recency.proofs.Renewed.{split-made, split-off, split-pushed, split-there}
use Rattle.rc_recency.proofs.splitting.split.Goals as goal

pub entry_at-requires : goal.entry_at-requires
entry_at-requires g c = let q = c.requires.version in
    (omega arith, ((standing-as c.args.list.now c.args.region.now q.0 q.1 q.2 q.3 q.4 q.5 q.6 c.args.v q.7).entries, q.6, stands c.args.list.now c.args.region.now q.0 q.1 q.2 q.3 q.4 q.5 q.6 c.args.v q.7))

pub split-r-requires : goal.split-r-requires
split-r-requires g c = let q = c.requires.version in
    (omega arith, (c.requires.limits, (c.requires.room, ((standing-as c.args.list.now c.args.region.now q.0 q.1 q.2 q.3 q.4 q.5 q.6 c.args.v q.7).entries, q.6, stands c.args.list.now c.args.region.now q.0 q.1 q.2 q.3 q.4 q.5 q.6 c.args.v q.7))))

pub push_cached-requires : goal.push_cached-requires
push_cached-requires g c = let q = c.requires.version in let old = c.args.region.now in let s = c.split-r.ensures in
    let none = c.in-None.ensures (standing-as c.args.list.now old q.0 q.1 q.2 q.3 q.4 q.5 q.6 c.args.v q.7).entries q.6 (stands c.args.list.now old q.0 q.1 q.2 q.3 q.4 q.5 q.6 c.args.v q.7) in
    let l = split-made c.args.list.now old q.0 q.1 q.2 q.3 q.4 q.5 q.6 c.args.v q.7 c.args.x.now c.args.kind g.row.S c.split-r.new.region c.split-r.result none s.split c.known.ensures.summed s.well c.known-in-None.ensures.summed in
    (omega arith, (q.0, q.1, l.0.memory, member_at q.3 q.4 (Some c.args.x.now), l.0.held, l.1, split-off c.args.list.now old q.0 q.1 q.2 q.3 q.4 q.5 q.6 c.args.v q.7 c.args.x.now c.args.kind g.row.S c.split-r.new.region c.split-r.result none s.split c.known.ensures.summed s.well c.known-in-None.ensures.summed))

pub returns-in-Some-clause-changed : goal.returns-in-Some-clause-changed
returns-in-Some-clause-changed g c = λ registry counts m id j k d h.
    split-there c.args.list.now c.args.region.now registry counts m id j k d c.args.v h c.args.x.now c.args.kind c.in-Some.r
    (c.in-Some.ensures (standing-as c.args.list.now c.args.region.now registry counts m id j k d c.args.v h).entries d (stands c.args.list.now c.args.region.now registry counts m id j k d c.args.v h))

pub returns-in-None-clause-changed : goal.returns-in-None-clause-changed
returns-in-None-clause-changed g c = λ registry counts m id j k d h. let old = c.args.region.now in let s = c.split-r.ensures in
    let none = c.in-None.ensures (standing-as c.args.list.now old registry counts m id j k d c.args.v h).entries d (stands c.args.list.now old registry counts m id j k d c.args.v h) in
    let l = split-made c.args.list.now old registry counts m id j k d c.args.v h c.args.x.now c.args.kind g.row.S c.split-r.new.region c.split-r.result none s.split c.known.ensures.summed s.well c.known-in-None.ensures.summed in
    split-pushed c.args.list.now old registry counts m id j k d c.args.v h c.args.x.now c.args.kind g.row.S c.split-r.new.region c.split-r.result none s.split c.known.ensures.summed s.well c.known-in-None.ensures.summed
    c.push_cached.new.region c.push_cached.ensures.relisted (c.push_cached.ensures.pushed registry counts l.0.memory (member_at id j (Some c.args.x.now)) l.0.held l.1)

pub returns-in-Some-clause-spare : goal.returns-in-Some-clause-spare
returns-in-Some-clause-spare g c = omega arith

pub returns-in-None-clause-spare : goal.returns-in-None-clause-spare
returns-in-None-clause-spare g c = subst (λ us. spare_of g.row.S c.args.region.now.usages ≤ spare_of g.row.S us + dummy_size c.args.x.now) (sym c.push_cached.ensures.relisted.objects.usages) c.split-r.ensures.split.spare
