use Rattle.std.proofs.Common.{◌≡◌, ◌≤◌, sym, ◌∙◌, subst}
use Rattle.rc_memory.specs.declared.counts.Counts.{Counts}
use Rattle.rc_memory.specs.Memory.{Memory, raised_by}
use Rattle.rc_evict.proofs.One.{counted-once}
use Rattle.rc_evict.proofs.evicting.count_one.Goals as goal

pub returns-clause-counted : goal.returns-clause-counted
returns-clause-counted g c =
    c.count.ensures ∙ counted-once c.args.chains.now
    (subst (λ (x : Counts). raised_by 0 x.skipped ≡ x.skipped) c.counts-counts.ensures c.in_range-2.ensures.same)
    (subst (λ (x : Counts). raised_by 0 x.shrunk ≡ x.shrunk) c.counts-counts.ensures c.in_range-3.ensures.same)

pub returns-clause-more : goal.returns-clause-more
returns-clause-more g c = subst (λ (m : Memory). c.args.chains.now.counts.evicted ≤ m.counts.evicted) (sym c.count.ensures) (subst (λ (x : Counts). x.evicted ≤ raised_by 1 x.evicted) c.counts-counts.ensures c.in_range.ensures.more)
