-- The snapshot has the partition tombstone of what it stands for.
use Rattle.std.proofs.Common.{sym, ap, subst, ◌∙◌}
use Rattle.rc_cell.specs.Orders.{tomb_cmp}
use Rattle.rc_cell.specs.Winner.{greatest}
use Rattle.rc_core.specs.Continuity.{version_tombs}
use Rattle.rc_cached.specs.Streams.{filler_for}
use Rattle.rc_paging.specs.Pages.{StandCached}
use Rattle.rc_paging.proofs.GoingOn.{no_head, pinned_versions}
use Rattle.rc_paging.proofs.past.head_told.Goals as goal

pub returns-in-None : goal.returns-in-None
returns-in-None g c = λ below stand. no_head below (subst (StandCached g.row.S below c.args.chains.now) c.in-None.is stand)

pub returns-in-Ok : goal.returns-in-Ok
returns-in-Ok g c = λ below stand.
    let s = (subst (StandCached g.row.S below c.args.chains.now) c.in-Some.is stand).stands in
    let at = s.snapshot in
    c.tombstone_of.ensures
    ∙ c.in-Ok.ensures.pt at.chain at.number at.there at.pinned
    ∙ sym (ap (λ vs. greatest tomb_cmp (version_tombs vs)) (pinned_versions c.args.chains.now c.in-Some.snap.chain c.in-Some.snap.pin at.chain at.number at.there at.pinned))
    ∙ c.a_snapshot_knows_the_writes_it_stands_for.ensures.head g.row.S c.args.chains.now (filler_for c.in-Some.snap).filler below s
