use Rattle.std.proofs.Common.{Some, arith}
use Rattle.rc_core.specs.Steps.{row_joined}
use Rattle.rc_position.specs.Position.{row_pos}
use Rattle.rc_version.specs.Versions.{joined_bytes}
use Rattle.rc_memory.specs.Changes.{AtAlone, member_at}
use Rattle.rc_memory.specs.Memory.{listed_as}
use Rattle.rc_recency.specs.laws.Held.{entry-found, standing-as, stands}
use Rattle.rc_recency.proofs.Made.{later-joined}
use Rattle.rc_recency.proofs.Renewed.{held-mid, held-renewed, mid-entries, off-later, room-kept, spare-kept, stands-mid, unlisted-mid}
use Rattle.rc_recency.proofs.joining.join_row.Goals as goal

pub entry_at_key-requires : goal.entry_at_key-requires
entry_at_key-requires g c = let q = c.requires.row in let h = q.8 in let old = c.args.region.now in
    (omega arith, ((standing-as c.args.list.now old q.0 q.1 q.2 q.3 q.4 q.5 q.6 c.args.v h).entries, q.6, stands c.args.list.now old q.0 q.1 q.2 q.3 q.4 q.5 q.6 c.args.v h))

pub take_found-requires : goal.take_found-requires
take_found-requires g c = let q = c.requires.row in let h = q.8 in let old = c.args.region.now in let x = row_pos c.args.key.now in
    let found = c.entry_at_key.ensures (standing-as c.args.list.now old q.0 q.1 q.2 q.3 q.4 q.5 q.6 c.args.v h).entries q.6 (stands c.args.list.now old q.0 q.1 q.2 q.3 q.4 q.5 q.6 c.args.v h) in
    (omega arith, (q.0, q.1, q.2, member_at q.3 q.4 (Some x), h.held, entry-found c.args.list.now old q.0 q.1 q.2 q.3 q.4 q.5 q.6 c.args.v h x c.entry_at_key.result found))

pub join_row-r-requires : goal.join_row-r-requires
join_row-r-requires g c = let q = c.requires.row in let h = q.8 in let old = c.args.region.now in let mid = c.take_found.new.region in let x = row_pos c.args.key.now in
    let found = c.entry_at_key.ensures (standing-as c.args.list.now old q.0 q.1 q.2 q.3 q.4 q.5 q.6 c.args.v h).entries q.6 (stands c.args.list.now old q.0 q.1 q.2 q.3 q.4 q.5 q.6 c.args.v h) in
    let t = c.take_found.ensures.taken q.0 q.1 q.2 (member_at q.3 q.4 (Some x)) h.held (entry-found c.args.list.now old q.0 q.1 q.2 q.3 q.4 q.5 q.6 c.args.v h x c.entry_at_key.result found) in (
      omega arith,
      (
        c.requires.limits,
        (
          q.7,
          mid-entries c.args.list.now old mid q.0 q.1 q.2 q.3 q.4 q.5 q.6 c.args.v h (Some x) t,
          q.6,
          q.9,
          record {
            version = stands-mid c.args.list.now old mid q.0 q.1 q.2 q.3 q.4 q.5 q.6 c.args.v h (Some x) t;
            room = room-kept g.row.S old mid _ _ _ c.take_found.ensures.relisted.objects.usages q.10;
            unlisted = λ r on at. unlisted-mid c.args.list.now old mid q.0 q.1 q.2 q.3 q.4 q.5 q.6 c.args.v h (Some x) t r (on, at);
          },
        ),
      ),
    )

pub push_cached-requires : goal.push_cached-requires
push_cached-requires g c = let q = c.requires.row in let h = q.8 in let old = c.args.region.now in let mid = c.take_found.new.region in let next = c.join_row-r.new.region in let x = row_pos c.args.key.now in
    let found = c.entry_at_key.ensures (standing-as c.args.list.now old q.0 q.1 q.2 q.3 q.4 q.5 q.6 c.args.v h).entries q.6 (stands c.args.list.now old q.0 q.1 q.2 q.3 q.4 q.5 q.6 c.args.v h) in
    let t = c.take_found.ensures.taken q.0 q.1 q.2 (member_at q.3 q.4 (Some x)) h.held (entry-found c.args.list.now old q.0 q.1 q.2 q.3 q.4 q.5 q.6 c.args.v h x c.entry_at_key.result found) in
    let held = held-mid c.args.list.now old mid q.0 q.1 q.2 q.3 q.4 q.5 q.6 c.args.v h (Some x) t in let s = c.join_row-r.ensures.joined q.7 q.9 in
    let l = later-joined c.args.list.now mid next q.0 q.1 (listed_as t.list mid q.2) q.3 q.4 q.5 q.6 c.args.v held s.kept c.known.ensures.summed c.known-2.ensures.well c.known-2.ensures.summed g.row.S x q.7 c.join_row-r.result s t.off in
    (omega arith, (q.0, q.1, l.0.memory, member_at q.3 q.4 (Some x), l.0.held, l.1, off-later c.args.list.now old mid q.0 q.1 q.2 q.3 q.4 q.5 q.6 c.args.v h (Some x) t (row_joined x q.7) (AtAlone (member_at q.3 q.4 (Some x))) c.take_found.ensures.relisted next c.join_row-r.result l))

pub returns-clause-changed : goal.returns-clause-changed
returns-clause-changed g c = λ registry counts m id j k d row h code off. let old = c.args.region.now in let mid = c.take_found.new.region in let next = c.join_row-r.new.region in let x = row_pos c.args.key.now in
    let found = c.entry_at_key.ensures (standing-as c.args.list.now old registry counts m id j k d c.args.v h).entries d (stands c.args.list.now old registry counts m id j k d c.args.v h) in
    let t = c.take_found.ensures.taken registry counts m (member_at id j (Some x)) h.held (entry-found c.args.list.now old registry counts m id j k d c.args.v h x c.entry_at_key.result found) in
    let held = held-mid c.args.list.now old mid registry counts m id j k d c.args.v h (Some x) t in let s = c.join_row-r.ensures.joined row code in
    let l = later-joined c.args.list.now mid next registry counts (listed_as t.list mid m) id j k d c.args.v held s.kept c.known.ensures.summed c.known-2.ensures.well c.known-2.ensures.summed g.row.S x row c.join_row-r.result s t.off in
    held-renewed c.args.list.now old mid registry counts m id j k d c.args.v h (Some x) t (row_joined x row) (AtAlone (member_at id j (Some x))) c.take_found.ensures.relisted next c.join_row-r.result l
    c.args.kind c.push_cached.new.region c.push_cached.ensures.relisted (c.push_cached.ensures.pushed registry counts l.0.memory (member_at id j (Some x)) l.0.held l.1) off

pub returns-clause-spare : goal.returns-clause-spare
returns-clause-spare g c = λ registry counts m id j k d row h code. let old = c.args.region.now in let mid = c.take_found.new.region in let x = row_pos c.args.key.now in
    let found = c.entry_at_key.ensures (standing-as c.args.list.now old registry counts m id j k d c.args.v h).entries d (stands c.args.list.now old registry counts m id j k d c.args.v h) in
    let t = c.take_found.ensures.taken registry counts m (member_at id j (Some x)) h.held (entry-found c.args.list.now old registry counts m id j k d c.args.v h x c.entry_at_key.result found) in
    spare-kept g.row.S c.args.list.now old mid c.join_row-r.new.region c.push_cached.new.region (joined_bytes x row d) c.take_found.ensures.relisted c.push_cached.ensures.relisted
    ((c.join_row-r.ensures.joined row code).spare (mid-entries c.args.list.now old mid registry counts m id j k d c.args.v h (Some x) t) d (stands-mid c.args.list.now old mid registry counts m id j k d c.args.v h (Some x) t))
