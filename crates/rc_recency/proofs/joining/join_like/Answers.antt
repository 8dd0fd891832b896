use Rattle.std.proofs.Common.{Some, None, inl, inr, refl, arith}
use Rattle.rc_rowcode.specs.Objects.{static_size}
use Rattle.rc_core.specs.Change.{joined_onto}
use Rattle.rc_core.specs.Steps.{join_statics, row_joined}
use Rattle.rc_version.specs.Versions.{joined_bytes}
use Rattle.rc_version.specs.laws.Objects.{holds-same, static-same}
use Rattle.rc_memory.specs.Changes.{AtAlone, member_at}
use Rattle.rc_memory.specs.Memory.{listed_as}
use Rattle.rc_recency.specs.laws.Held.{entry-found, standing-as, stands, static-found}
use Rattle.rc_recency.proofs.Made.{later-joined, later-static-with}
use Rattle.rc_recency.proofs.Renewed.{held-mid, held-renewed, mid-entries, off-later, room-kept, spare-kept, stands-mid, unlisted-mid}
use Rattle.rc_recency.proofs.joining.join_like.Goals as goal

pub found_like-requires : goal.found_like-requires
found_like-requires g c = let q = c.requires in let h = q.7 in let old = c.args.region.now in
    (omega arith, (((standing-as c.args.list.now old q.0 q.1 q.2 q.3 q.4 q.5 q.6 c.args.v h).entries, q.6, stands c.args.list.now old q.0 q.1 q.2 q.3 q.4 q.5 q.6 c.args.v h), elim q.8 [ inl a ↦ inl (a.0, a.2) | inr a ↦ inr (a.0, a.1) ]))

pub take_found-requires : goal.take_found-requires
take_found-requires g c = let q = c.requires in let h = q.7 in let old = c.args.region.now in
    elim q.8 [
      | inl a ↦ (omega arith, (q.0, q.1, q.2, member_at q.3 q.4 (Some a.0.position), h.held, entry-found c.args.list.now old q.0 q.1 q.2 q.3 q.4 q.5 q.6 c.args.v h a.0.position c.found_like.result (c.found_like.ensures.entry (standing-as c.args.list.now old q.0 q.1 q.2 q.3 q.4 q.5 q.6 c.args.v h).entries q.6 a.0 (stands c.args.list.now old q.0 q.1 q.2 q.3 q.4 q.5 q.6 c.args.v h) a.2)))
      | inr a ↦ (omega arith, (q.0, q.1, q.2, member_at q.3 q.4 None, h.held, static-found c.args.list.now old q.0 q.1 q.2 q.3 q.4 q.5 q.6 c.args.v h c.found_like.result (λ s. c.found_like.ensures.statics a.0 s a.1)))
    ]

pub join_like-made-requires : goal.join_like-made-requires
join_like-made-requires g c = let q = c.requires in let h = q.7 in let old = c.args.region.now in let mid = c.take_found.new.region in let same = c.take_found.ensures.relisted.objects in
    elim q.8 [
      | inl a ↦ let found = entry-found c.args.list.now old q.0 q.1 q.2 q.3 q.4 q.5 q.6 c.args.v h a.0.position c.found_like.result (c.found_like.ensures.entry (standing-as c.args.list.now old q.0 q.1 q.2 q.3 q.4 q.5 q.6 c.args.v h).entries q.6 a.0 (stands c.args.list.now old q.0 q.1 q.2 q.3 q.4 q.5 q.6 c.args.v h) a.2) in let t = c.take_found.ensures.taken q.0 q.1 q.2 (member_at q.3 q.4 (Some a.0.position)) h.held found in (
        omega arith,
        inl (
          a.0,
          a.1,
          mid-entries c.args.list.now old mid q.0 q.1 q.2 q.3 q.4 q.5 q.6 c.args.v h (Some a.0.position) t,
          q.6,
          holds-same old mid c.args.e a.0 (same.bodies c.args.e) a.2,
          a.3,
          a.4,
          record {
            version = stands-mid c.args.list.now old mid q.0 q.1 q.2 q.3 q.4 q.5 q.6 c.args.v h (Some a.0.position) t;
            room = room-kept g.row.S old mid _ _ _ same.usages a.5;
            unlisted = λ r on at. unlisted-mid c.args.list.now old mid q.0 q.1 q.2 q.3 q.4 q.5 q.6 c.args.v h (Some a.0.position) t r (on, at);
          },
        ),
      )
      | inr a ↦ let found = static-found c.args.list.now old q.0 q.1 q.2 q.3 q.4 q.5 q.6 c.args.v h c.found_like.result (λ s. c.found_like.ensures.statics a.0 s a.1) in let t = c.take_found.ensures.taken q.0 q.1 q.2 (member_at q.3 q.4 None) h.held found in (
        omega arith,
        inr (
          a.0,
          mid-entries c.args.list.now old mid q.0 q.1 q.2 q.3 q.4 q.5 q.6 c.args.v h None t,
          q.6,
          static-same old mid c.args.e a.0 (same.bodies c.args.e) a.1,
          record {
            version = stands-mid c.args.list.now old mid q.0 q.1 q.2 q.3 q.4 q.5 q.6 c.args.v h None t;
            room = room-kept g.row.S old mid _ _ _ same.usages a.2;
            unlisted = λ s named. unlisted-mid c.args.list.now old mid q.0 q.1 q.2 q.3 q.4 q.5 q.6 c.args.v h None t s named;
          },
        ),
      )
    ]

pub push_cached-requires : goal.push_cached-requires
push_cached-requires g c = let q = c.requires in let h = q.7 in let old = c.args.region.now in let mid = c.take_found.new.region in let same = c.take_found.ensures.relisted.objects in let next = c.join_like-made.new.region in
    elim q.8 [
      | inl a ↦ let found = entry-found c.args.list.now old q.0 q.1 q.2 q.3 q.4 q.5 q.6 c.args.v h a.0.position c.found_like.result (c.found_like.ensures.entry (standing-as c.args.list.now old q.0 q.1 q.2 q.3 q.4 q.5 q.6 c.args.v h).entries q.6 a.0 (stands c.args.list.now old q.0 q.1 q.2 q.3 q.4 q.5 q.6 c.args.v h) a.2) in let t = c.take_found.ensures.taken q.0 q.1 q.2 (member_at q.3 q.4 (Some a.0.position)) h.held found in
          let s = c.join_like-made.ensures.entry a.0 a.1 (holds-same old mid c.args.e a.0 (same.bodies c.args.e) a.2) a.3 in
          let l = later-joined c.args.list.now mid next q.0 q.1 (listed_as t.list mid q.2) q.3 q.4 q.5 q.6 c.args.v (held-mid c.args.list.now old mid q.0 q.1 q.2 q.3 q.4 q.5 q.6 c.args.v h (Some a.0.position) t) s.kept c.known.ensures.summed c.known-2.ensures.well c.known-2.ensures.summed g.row.S a.0.position a.1 c.join_like-made.result s t.off in
          (omega arith, (q.0, q.1, l.0.memory, member_at q.3 q.4 (Some a.0.position), l.0.held, l.1, off-later c.args.list.now old mid q.0 q.1 q.2 q.3 q.4 q.5 q.6 c.args.v h (Some a.0.position) t (row_joined a.0.position a.1) (AtAlone (member_at q.3 q.4 (Some a.0.position))) c.take_found.ensures.relisted next c.join_like-made.result l))
      | inr a ↦ let found = static-found c.args.list.now old q.0 q.1 q.2 q.3 q.4 q.5 q.6 c.args.v h c.found_like.result (λ s. c.found_like.ensures.statics a.0 s a.1) in let t = c.take_found.ensures.taken q.0 q.1 q.2 (member_at q.3 q.4 None) h.held found in
          let s = c.join_like-made.ensures.statics a.0 (static-same old mid c.args.e a.0 (same.bodies c.args.e) a.1) in
          let entries = mid-entries c.args.list.now old mid q.0 q.1 q.2 q.3 q.4 q.5 q.6 c.args.v h None t in let is = stands-mid c.args.list.now old mid q.0 q.1 q.2 q.3 q.4 q.5 q.6 c.args.v h None t in
          let l = later-static-with c.args.list.now mid next q.0 q.1 (listed_as t.list mid q.2) q.3 q.4 q.5 q.6 c.args.v (held-mid c.args.list.now old mid q.0 q.1 q.2 q.3 q.4 q.5 q.6 c.args.v h None t) s.kept c.known.ensures.summed c.known-2.ensures.well c.known-2.ensures.summed
          (join_statics a.0) (s.statics entries q.6 is) (s.live entries q.6 is) refl t.off c.join_like-made.result s.named in
          (omega arith, (q.0, q.1, l.0.memory, member_at q.3 q.4 None, l.0.held, l.1, off-later c.args.list.now old mid q.0 q.1 q.2 q.3 q.4 q.5 q.6 c.args.v h None t (join_statics a.0) (AtAlone (member_at q.3 q.4 None)) c.take_found.ensures.relisted next c.join_like-made.result l))
    ]

pub returns-clause-entry : goal.returns-clause-entry
returns-clause-entry g c = λ registry counts m id j k d y row h holds is off. let old = c.args.region.now in let mid = c.take_found.new.region in let next = c.join_like-made.new.region in
    let found = entry-found c.args.list.now old registry counts m id j k d c.args.v h y.position c.found_like.result (c.found_like.ensures.entry (standing-as c.args.list.now old registry counts m id j k d c.args.v h).entries d y (stands c.args.list.now old registry counts m id j k d c.args.v h) holds) in let t = c.take_found.ensures.taken registry counts m (member_at id j (Some y.position)) h.held found in
    let s = c.join_like-made.ensures.entry y row (holds-same old mid c.args.e y (c.take_found.ensures.relisted.objects.bodies c.args.e) holds) is in
    let l = later-joined c.args.list.now mid next registry counts (listed_as t.list mid m) id j k d c.args.v (held-mid c.args.list.now old mid registry counts m id j k d c.args.v h (Some y.position) t) s.kept c.known.ensures.summed c.known-2.ensures.well c.known-2.ensures.summed g.row.S y.position row c.join_like-made.result s t.off in
    held-renewed c.args.list.now old mid registry counts m id j k d c.args.v h (Some y.position) t (row_joined y.position row) (AtAlone (member_at id j (Some y.position))) c.take_found.ensures.relisted next c.join_like-made.result l
    c.args.kind c.push_cached.new.region c.push_cached.ensures.relisted (c.push_cached.ensures.pushed registry counts l.0.memory (member_at id j (Some y.position)) l.0.held l.1) off

pub returns-clause-entry_spare : goal.returns-clause-entry_spare
returns-clause-entry_spare g c = λ registry counts m id j k d y row h holds is. let old = c.args.region.now in let mid = c.take_found.new.region in
    let found = entry-found c.args.list.now old registry counts m id j k d c.args.v h y.position c.found_like.result (c.found_like.ensures.entry (standing-as c.args.list.now old registry counts m id j k d c.args.v h).entries d y (stands c.args.list.now old registry counts m id j k d c.args.v h) holds) in let t = c.take_found.ensures.taken registry counts m (member_at id j (Some y.position)) h.held found in
    let s = c.join_like-made.ensures.entry y row (holds-same old mid c.args.e y (c.take_found.ensures.relisted.objects.bodies c.args.e) holds) is in
    spare-kept g.row.S c.args.list.now old mid c.join_like-made.new.region c.push_cached.new.region (joined_bytes y.position row d) c.take_found.ensures.relisted c.push_cached.ensures.relisted (s.spare (mid-entries c.args.list.now old mid registry counts m id j k d c.args.v h (Some y.position) t) d (stands-mid c.args.list.now old mid registry counts m id j k d c.args.v h (Some y.position) t))

pub returns-clause-statics : goal.returns-clause-statics
returns-clause-statics g c = λ registry counts m id j k d row h holds off. let old = c.args.region.now in let mid = c.take_found.new.region in let next = c.join_like-made.new.region in
    let found = static-found c.args.list.now old registry counts m id j k d c.args.v h c.found_like.result (λ s. c.found_like.ensures.statics row s holds) in let t = c.take_found.ensures.taken registry counts m (member_at id j None) h.held found in
    let s = c.join_like-made.ensures.statics row (static-same old mid c.args.e row (c.take_found.ensures.relisted.objects.bodies c.args.e) holds) in
    let entries = mid-entries c.args.list.now old mid registry counts m id j k d c.args.v h None t in let is = stands-mid c.args.list.now old mid registry counts m id j k d c.args.v h None t in
    let l = later-static-with c.args.list.now mid next registry counts (listed_as t.list mid m) id j k d c.args.v (held-mid c.args.list.now old mid registry counts m id j k d c.args.v h None t) s.kept c.known.ensures.summed c.known-2.ensures.well c.known-2.ensures.summed
    (join_statics row) (s.statics entries d is) (s.live entries d is) refl t.off c.join_like-made.result s.named in
    held-renewed c.args.list.now old mid registry counts m id j k d c.args.v h None t (join_statics row) (AtAlone (member_at id j None)) c.take_found.ensures.relisted next c.join_like-made.result l
    c.args.kind c.push_cached.new.region c.push_cached.ensures.relisted (c.push_cached.ensures.pushed registry counts l.0.memory (member_at id j None) l.0.held l.1) off

pub returns-clause-statics_spare : goal.returns-clause-statics_spare
returns-clause-statics_spare g c = λ registry counts m id j k d row h holds. let old = c.args.region.now in let mid = c.take_found.new.region in
    let found = static-found c.args.list.now old registry counts m id j k d c.args.v h c.found_like.result (λ s. c.found_like.ensures.statics row s holds) in let t = c.take_found.ensures.taken registry counts m (member_at id j None) h.held found in
    let s = c.join_like-made.ensures.statics row (static-same old mid c.args.e row (c.take_found.ensures.relisted.objects.bodies c.args.e) holds) in
    spare-kept g.row.S c.args.list.now old mid c.join_like-made.new.region c.push_cached.new.region (static_size (joined_onto d.statics row)) c.take_found.ensures.relisted c.push_cached.ensures.relisted (s.spare (mid-entries c.args.list.now old mid registry counts m id j k d c.args.v h None t) d (stands-mid c.args.list.now old mid registry counts m id j k d c.args.v h None t))
