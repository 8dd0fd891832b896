use Rattle.std.proofs.Common.{Some, ap, ◌∙◌, subst, arith}
use Rattle.lsa_pool.specs.Room.{spare_of}
use Rattle.lsa_tree.specs.laws.Orders.{stands-once}
use Rattle.rc_memory.specs.Lists.{elem-split}
use Rattle.rc_core.specs.Change.{drop_at}
use Rattle.rc_core.specs.Continuity.{with_entries}
use Rattle.rc_core.specs.Version.{end_position}
use Rattle.rc_version.specs.Versions.{IsVersionOf}
use Rattle.rc_memory.specs.Changes.{AtAlone, member_at}
use Rattle.rc_memory.specs.Memory.{listed_as}
use Rattle.rc_recency.specs.laws.Held.{own-object}
use Rattle.rc_recency.proofs.Made.{later-dropped}
use Rattle.rc_recency.proofs.Relisted.{member-listed}
use Rattle.rc_recency.proofs.Renewed.{held-mid, held-without, stands-mid}
use Rattle.rc_recency.proofs.splitting.drop_entry.Goals as goal

pub drop_entry-requires : goal.drop_entry-requires
drop_entry-requires g c =
    let q = c.requires in let h = q.8 in let here = q.9 in let w = member_at q.3 q.4 (Some q.7) in let old = c.args.region.now in let mid = c.take.new.region in
    let t = c.take.ensures.taken q.0 q.1 q.2 w h.held here in let now = listed_as t.list mid q.2 in
    let again = member-listed c.args.list.now old mid q.0 q.1 q.2 t.list h.held c.take.ensures.relisted c.take.ensures.well c.args.e w here in
    let held = held-mid c.args.list.now old mid q.0 q.1 q.2 q.3 q.4 q.5 q.6 c.args.v h (Some q.7) t in
    let own = own-object c.args.list.now mid q.0 q.1 now q.3 q.4 q.5 q.6 c.args.v held (Some q.7) c.args.e again in
    let parts = elem-split _ c.args.e own.0 in (
      omega arith,
      (
        (parts.0, parts.1, q.6, subst (λ l. IsVersionOf mid c.args.v l q.6) parts.2 (stands-mid c.args.list.now old mid q.0 q.1 q.2 q.3 q.4 q.5 q.6 c.args.v h (Some q.7) t)),
        ((λ at. q.10 (stands-once mid c.args.e q.7 end_position own.1 at)), c.take.ensures.unlisted),
      ),
    )

pub returns-clause-changed : goal.returns-clause-changed
returns-clause-changed g c = λ registry counts m id j k d x h here.
    let w = member_at id j (Some x) in let old = c.args.region.now in let mid = c.take.new.region in let new = c.drop_entry.new.region in let e = c.drop_entry.ensures in
    let t = c.take.ensures.taken registry counts m w h.held here in
    let again = member-listed c.args.list.now old mid registry counts m t.list h.held c.take.ensures.relisted c.take.ensures.well c.args.e w here in
    let held = held-mid c.args.list.now old mid registry counts m id j k d c.args.v h (Some x) t in
    held-without c.args.list.now old mid registry counts m id j k d c.args.v h (Some x) t (λ y. with_entries (drop_at x y.entries) y) (AtAlone w) c.take.ensures.relisted new
    (later-dropped c.args.list.now mid new registry counts (listed_as t.list mid m) id j k d c.args.v held e.kept c.known.ensures.summed c.known-2.ensures.well c.known-2.ensures.summed c.args.e x again e.dropped e.live e.statics t.off)

pub returns-clause-spare : goal.returns-clause-spare
returns-clause-spare g c = c.drop_entry.ensures.spare ∙ ap (spare_of g.row.S) c.take.ensures.relisted.objects.usages
