use Rattle.std.proofs.Common.{None, refl, ap, ◌∙◌, arith}
use Rattle.lsa_pool.specs.Room.{spare_of}
use Rattle.rc_core.specs.Continuity.{without_statics}
use Rattle.rc_memory.specs.Changes.{AtAlone, member_at}
use Rattle.rc_memory.specs.Memory.{listed_as}
use Rattle.rc_recency.specs.laws.Held.{standing-as, stands, static-found}
use Rattle.rc_recency.proofs.Made.{later-static}
use Rattle.rc_recency.proofs.Renewed.{held-mid, held-without, mid-entries, stands-mid, unlisted-mid}
use Rattle.rc_recency.proofs.statics.drop_static.Goals as goal

pub static_row-requires : goal.static_row-requires
static_row-requires g c = let q = c.requires in let old = c.args.region.now in
    (omega arith, ((standing-as c.args.list.now old q.0 q.1 q.2 q.3 q.4 q.5 q.6 c.args.v q.7).entries, q.6, stands c.args.list.now old q.0 q.1 q.2 q.3 q.4 q.5 q.6 c.args.v q.7))

pub take_found-requires : goal.take_found-requires
take_found-requires g c = let q = c.requires in let old = c.args.region.now in
    (omega arith, (q.0, q.1, q.2, member_at q.3 q.4 None, q.7.held, static-found c.args.list.now old q.0 q.1 q.2 q.3 q.4 q.5 q.6 c.args.v q.7 c.static_row.result c.static_row.ensures.named))

pub drop_static-requires : goal.drop_static-requires
drop_static-requires g c =
    let q = c.requires in let h = q.7 in let old = c.args.region.now in let mid = c.take_found.new.region in
    let t = c.take_found.ensures.taken q.0 q.1 q.2 (member_at q.3 q.4 None) h.held (static-found c.args.list.now old q.0 q.1 q.2 q.3 q.4 q.5 q.6 c.args.v h c.static_row.result c.static_row.ensures.named) in
    (omega arith, ((mid-entries c.args.list.now old mid q.0 q.1 q.2 q.3 q.4 q.5 q.6 c.args.v h None t, q.6, stands-mid c.args.list.now old mid q.0 q.1 q.2 q.3 q.4 q.5 q.6 c.args.v h None t), λ s named. unlisted-mid c.args.list.now old mid q.0 q.1 q.2 q.3 q.4 q.5 q.6 c.args.v h None t s named))

pub returns-clause-changed : goal.returns-clause-changed
returns-clause-changed g c = λ registry counts m id j k d h.
    let old = c.args.region.now in let mid = c.take_found.new.region in
    let t = c.take_found.ensures.taken registry counts m (member_at id j None) h.held (static-found c.args.list.now old registry counts m id j k d c.args.v h c.static_row.result c.static_row.ensures.named) in
    let new = c.drop_static.new.region in let e = c.drop_static.ensures in
    let entries = mid-entries c.args.list.now old mid registry counts m id j k d c.args.v h None t in let is = stands-mid c.args.list.now old mid registry counts m id j k d c.args.v h None t in
    held-without c.args.list.now old mid registry counts m id j k d c.args.v h None t without_statics (AtAlone (member_at id j None)) c.take_found.ensures.relisted new
    (later-static c.args.list.now mid new registry counts (listed_as t.list mid m) id j k d c.args.v (held-mid c.args.list.now old mid registry counts m id j k d c.args.v h None t) e.kept c.known.ensures.summed c.known-2.ensures.well c.known-2.ensures.summed
    without_statics (e.dropped entries d is) (e.live entries d is) refl t.off)

pub returns-clause-spare : goal.returns-clause-spare
returns-clause-spare g c = c.drop_static.ensures.spare ∙ ap (spare_of g.row.S) c.take_found.ensures.relisted.objects.usages
