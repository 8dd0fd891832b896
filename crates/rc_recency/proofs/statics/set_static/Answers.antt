use Rattle.std.proofs.Common.{◌≡◌, ◌≤◌, Some, None, refl, sym, subst, arith}
use Rattle.lsa_pool.specs.Room.{spare_of}
use Rattle.rc_rowcode.specs.Objects.{static_size}
use Rattle.rc_core.specs.Steps.{set_statics}
use Rattle.rc_memory.specs.Changes.{AtAlone, member_at}
use Rattle.rc_memory.specs.Memory.{listed_as}
use Rattle.rc_recency.specs.laws.Held.{standing-as, stands, static-found}
use Rattle.rc_recency.proofs.Made.{later-static-with}
use Rattle.rc_recency.proofs.Renewed.{held-mid, held-renewed, mid-entries, off-later, spare-kept, stands-mid, unlisted-mid}
use Rattle.rc_recency.proofs.statics.set_static.Goals as goal

pub static_row-requires : goal.static_row-requires
static_row-requires g c = let q = c.requires in let old = c.args.region.now in
    (omega arith, ((standing-as c.args.list.now old q.0 q.1 q.2 q.3 q.4 q.5 q.6 c.args.v q.8).entries, q.6, stands c.args.list.now old q.0 q.1 q.2 q.3 q.4 q.5 q.6 c.args.v q.8))

pub take_found-requires : goal.take_found-requires
take_found-requires g c = let q = c.requires in let old = c.args.region.now in
    (omega arith, (q.0, q.1, q.2, member_at q.3 q.4 None, q.8.held, static-found c.args.list.now old q.0 q.1 q.2 q.3 q.4 q.5 q.6 c.args.v q.8 c.static_row.result c.static_row.ensures.named))

pub set_static-requires : goal.set_static-requires
set_static-requires g c =
    let q = c.requires in let h = q.8 in let old = c.args.region.now in let mid = c.take_found.new.region in
    let t = c.take_found.ensures.taken q.0 q.1 q.2 (member_at q.3 q.4 None) h.held (static-found c.args.list.now old q.0 q.1 q.2 q.3 q.4 q.5 q.6 c.args.v h c.static_row.result c.static_row.ensures.named) in (
      omega arith,
      (
        (mid-entries c.args.list.now old mid q.0 q.1 q.2 q.3 q.4 q.5 q.6 c.args.v h None t, q.6, stands-mid c.args.list.now old mid q.0 q.1 q.2 q.3 q.4 q.5 q.6 c.args.v h None t),
        (
          (λ s named. unlisted-mid c.args.list.now old mid q.0 q.1 q.2 q.3 q.4 q.5 q.6 c.args.v h None t s named),
          (q.7, q.9, q.10, subst (λ us. static_size q.7 ≤ spare_of g.row.S us) (sym c.take_found.ensures.relisted.objects.usages) q.11),
        ),
      ),
    )

pub static_row-requires-2 : goal.static_row-requires-2
static_row-requires-2 g c =
    let q = c.requires in let h = q.8 in let old = c.args.region.now in let mid = c.take_found.new.region in
    let t = c.take_found.ensures.taken q.0 q.1 q.2 (member_at q.3 q.4 None) h.held (static-found c.args.list.now old q.0 q.1 q.2 q.3 q.4 q.5 q.6 c.args.v h c.static_row.result c.static_row.ensures.named) in
    let entries = mid-entries c.args.list.now old mid q.0 q.1 q.2 q.3 q.4 q.5 q.6 c.args.v h None t in
    (omega arith, (entries, set_statics (Some q.7) c.args.flag q.6, c.set_static.ensures.set entries q.6 q.7 (stands-mid c.args.list.now old mid q.0 q.1 q.2 q.3 q.4 q.5 q.6 c.args.v h None t) q.9))

pub push_cached-requires : goal.push_cached-requires
push_cached-requires g c =
    let q = c.requires in let h = q.8 in let old = c.args.region.now in let mid = c.take_found.new.region in
    let t = c.take_found.ensures.taken q.0 q.1 q.2 (member_at q.3 q.4 None) h.held (static-found c.args.list.now old q.0 q.1 q.2 q.3 q.4 q.5 q.6 c.args.v h c.static_row.result c.static_row.ensures.named) in
    let next = c.set_static.new.region in let e = c.set_static.ensures in
    let entries = mid-entries c.args.list.now old mid q.0 q.1 q.2 q.3 q.4 q.5 q.6 c.args.v h None t in let is = stands-mid c.args.list.now old mid q.0 q.1 q.2 q.3 q.4 q.5 q.6 c.args.v h None t in
    let named = (c.static_row-2.ensures.named c.in-Some.s).0 c.in-Some.is in
    let l = later-static-with c.args.list.now mid next q.0 q.1 (listed_as t.list mid q.2) q.3 q.4 q.5 q.6 c.args.v (held-mid c.args.list.now old mid q.0 q.1 q.2 q.3 q.4 q.5 q.6 c.args.v h None t) e.kept c.known.ensures.summed c.known-2.ensures.well c.known-2.ensures.summed
    (set_statics (Some q.7) c.args.flag) (e.set entries q.6 q.7 is q.9) (e.live entries q.6 q.7 is q.9) refl t.off c.in-Some.s named in
    (omega arith, (q.0, q.1, l.0.memory, member_at q.3 q.4 None, l.0.held, l.1, off-later c.args.list.now old mid q.0 q.1 q.2 q.3 q.4 q.5 q.6 c.args.v h None t (set_statics (Some q.7) c.args.flag) (AtAlone (member_at q.3 q.4 None)) c.take_found.ensures.relisted next c.in-Some.s l))

pub unreachable-requires : goal.unreachable-requires
unreachable-requires g c =
    let q = c.requires in let h = q.8 in let old = c.args.region.now in let mid = c.take_found.new.region in
    let t = c.take_found.ensures.taken q.0 q.1 q.2 (member_at q.3 q.4 None) h.held (static-found c.args.list.now old q.0 q.1 q.2 q.3 q.4 q.5 q.6 c.args.v h c.static_row.result c.static_row.ensures.named) in
    let entries = mid-entries c.args.list.now old mid q.0 q.1 q.2 q.3 q.4 q.5 q.6 c.args.v h None t in
    let none : Some q.7 ≡ None = c.in-None.ensures.held entries (set_statics (Some q.7) c.args.flag q.6) (c.set_static.ensures.set entries q.6 q.7 (stands-mid c.args.list.now old mid q.0 q.1 q.2 q.3 q.4 q.5 q.6 c.args.v h None t) q.9) in cc

pub returns-clause-changed : goal.returns-clause-changed
returns-clause-changed g c = λ registry counts m id j k d row h code off.
    let old = c.args.region.now in let mid = c.take_found.new.region in
    let t = c.take_found.ensures.taken registry counts m (member_at id j None) h.held (static-found c.args.list.now old registry counts m id j k d c.args.v h c.static_row.result c.static_row.ensures.named) in
    let next = c.set_static.new.region in let e = c.set_static.ensures in
    let entries = mid-entries c.args.list.now old mid registry counts m id j k d c.args.v h None t in let is = stands-mid c.args.list.now old mid registry counts m id j k d c.args.v h None t in
    let named = (c.static_row-2.ensures.named c.in-Some.s).0 c.in-Some.is in
    let l = later-static-with c.args.list.now mid next registry counts (listed_as t.list mid m) id j k d c.args.v (held-mid c.args.list.now old mid registry counts m id j k d c.args.v h None t) e.kept c.known.ensures.summed c.known-2.ensures.well c.known-2.ensures.summed
    (set_statics (Some row) c.args.flag) (e.set entries d row is code) (e.live entries d row is code) refl t.off c.in-Some.s named in
    let z = held-renewed c.args.list.now old mid registry counts m id j k d c.args.v h None t (set_statics (Some row) c.args.flag) (AtAlone (member_at id j None)) c.take_found.ensures.relisted next c.in-Some.s l
    c.args.kind c.push_cached.new.region c.push_cached.ensures.relisted (c.push_cached.ensures.pushed registry counts l.0.memory (member_at id j None) l.0.held l.1) off in
    (z.0, z.1, (z.2.0, z.2.1))

pub returns-clause-spare : goal.returns-clause-spare
returns-clause-spare g c = λ row code.
    spare-kept g.row.S c.args.list.now c.args.region.now c.take_found.new.region c.set_static.new.region c.push_cached.new.region (static_size row) c.take_found.ensures.relisted c.push_cached.ensures.relisted (c.set_static.ensures.spare row code)
