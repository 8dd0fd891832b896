use Rattle.std.proofs.Common.{◌+◌, ◌≤◌, Some, sym, subst, arith}
use Rattle.rc_rowcode.specs.Objects.{dummy_size}
use Rattle.lsa_pool.specs.Room.{spare_of}
use Rattle.rc_memory.specs.Changes.{member_at}
use Rattle.rc_version.specs.laws.Objects.{holds-stands}
use Rattle.rc_recency.specs.laws.Held.{standing-as, stands}
use Rattle.rc_recency.proofs.Renewed.{split-made, split-off, split-pushed, split-there}
use Rattle.rc_recency.proofs.splitting.split_like.Goals as goal

pub entry_like-requires : goal.entry_like-requires
entry_like-requires g c = let q = c.requires.version in let y = c.requires.room in
    (omega arith, (((standing-as c.args.list.now c.args.region.now q.0 q.1 q.2 q.3 q.4 q.5 q.6 c.args.v q.7).entries, q.6, stands c.args.list.now c.args.region.now q.0 q.1 q.2 q.3 q.4 q.5 q.6 c.args.v q.7), (y.0.position, holds-stands c.args.region.now c.args.e y.0 y.1)))

pub split_like-made-requires : goal.split_like-made-requires
split_like-made-requires g c = let q = c.requires.version in
    (omega arith, (c.requires.room, ((standing-as c.args.list.now c.args.region.now q.0 q.1 q.2 q.3 q.4 q.5 q.6 c.args.v q.7).entries, q.6, stands c.args.list.now c.args.region.now q.0 q.1 q.2 q.3 q.4 q.5 q.6 c.args.v q.7)))

pub push_cached-requires : goal.push_cached-requires
push_cached-requires g c = let q = c.requires.version in let y = c.requires.room in let x = y.0.position in let old = c.args.region.now in let s = c.split_like-made.ensures in
    let none = c.in-None.ensures (standing-as c.args.list.now old q.0 q.1 q.2 q.3 q.4 q.5 q.6 c.args.v q.7).entries q.6 x (stands c.args.list.now old q.0 q.1 q.2 q.3 q.4 q.5 q.6 c.args.v q.7) (holds-stands old c.args.e y.0 y.1) in
    let l = split-made c.args.list.now old q.0 q.1 q.2 q.3 q.4 q.5 q.6 c.args.v q.7 x c.args.kind g.row.S c.split_like-made.new.region c.split_like-made.result none (s.split y.0 y.1) c.known.ensures.summed s.well c.known-in-None.ensures.summed in
    (omega arith, (q.0, q.1, l.0.memory, member_at q.3 q.4 (Some x), l.0.held, l.1, split-off c.args.list.now old q.0 q.1 q.2 q.3 q.4 q.5 q.6 c.args.v q.7 x c.args.kind g.row.S c.split_like-made.new.region c.split_like-made.result none (s.split y.0 y.1) c.known.ensures.summed s.well c.known-in-None.ensures.summed))

pub returns-in-Some-clause-changed : goal.returns-in-Some-clause-changed
returns-in-Some-clause-changed g c = λ registry counts m id j k d y h held.
    split-there c.args.list.now c.args.region.now registry counts m id j k d c.args.v h y.position c.args.kind c.in-Some.r
    (c.in-Some.ensures (standing-as c.args.list.now c.args.region.now registry counts m id j k d c.args.v h).entries d y.position (stands c.args.list.now c.args.region.now registry counts m id j k d c.args.v h) (holds-stands c.args.region.now c.args.e y held))

pub returns-in-None-clause-changed : goal.returns-in-None-clause-changed
returns-in-None-clause-changed g c = λ registry counts m id j k d y h held. let old = c.args.region.now in let s = c.split_like-made.ensures in let x = y.position in
    let none = c.in-None.ensures (standing-as c.args.list.now old registry counts m id j k d c.args.v h).entries d x (stands c.args.list.now old registry counts m id j k d c.args.v h) (holds-stands old c.args.e y held) in
    let l = split-made c.args.list.now old registry counts m id j k d c.args.v h x c.args.kind g.row.S c.split_like-made.new.region c.split_like-made.result none (s.split y held) c.known.ensures.summed s.well c.known-in-None.ensures.summed in
    split-pushed c.args.list.now old registry counts m id j k d c.args.v h x c.args.kind g.row.S c.split_like-made.new.region c.split_like-made.result none (s.split y held) c.known.ensures.summed s.well c.known-in-None.ensures.summed
    c.push_cached.new.region c.push_cached.ensures.relisted (c.push_cached.ensures.pushed registry counts l.0.memory (member_at id j (Some x)) l.0.held l.1)

pub returns-in-Some-clause-spare : goal.returns-in-Some-clause-spare
returns-in-Some-clause-spare g c = λ y held. omega arith

pub returns-in-None-clause-spare : goal.returns-in-None-clause-spare
returns-in-None-clause-spare g c = λ y held.
    subst (λ us. spare_of g.row.S c.args.region.now.usages ≤ spare_of g.row.S us + dummy_size y.position) (sym c.push_cached.ensures.relisted.objects.usages) (c.split_like-made.ensures.split y held).spare
