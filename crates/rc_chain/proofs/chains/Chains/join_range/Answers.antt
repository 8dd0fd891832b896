use Rattle.std.proofs.Common.{refl, sym, subst, arith, Some}
use Rattle.rc_core.specs.Change as change
use Rattle.rc_core.specs.Continuity.{with_entries}
use Rattle.rc_core.specs.Version.{Version}
use Rattle.rc_core.specs.AtPlace.{HasEntryAt}
use Rattle.rc_version.specs.Versions.{raised_between}
use Rattle.rc_memory.specs.Memory.{KeptChain}
use Rattle.rc_memory.specs.Changes.{IsRenewedWhereNone, member_at}
use Rattle.rc_memory.specs.laws.At.{version-is}
use Rattle.rc_memory.specs.laws.Entries.{before-differs}
use Rattle.rc_chain.proofs.Changing.{has-then, of-then, split-twice, keeps-listed, keeps-split-last, changed-both, before-inner, split-both, chain-after, number-after}
use Rattle.rc_chain.proofs.Reading.{memory-now}
use Rattle.rc_chain.proofs.chains.Chains.join_range.Goals as goal

pub split-requires : goal.split-requires
split-requires g c =
    (omega arith, (c.requires.limits.0, (c.requires.version, (omega (arith, c.requires.spare), (c.requires.fits.0, keeps-listed c.args.self.now c.args.id c.args.number (λ (d : Version). with_entries (change.gap_split c.args.from.now d.entries) d) c.requires.last)))))

pub split-requires-2 : goal.split-requires-2
split-requires-2 g c =
    let s = c.self.inside in let n = memory-now g.row.S s.recency s.region s.registry s.counts s.memory c.args.self.now c.self.view_is c.self.invariant.0 c.self.invariant.1 in
    let one = c.split.ensures.spare in let all = c.requires.spare in
    (omega arith, (c.requires.limits.1, ((has-then c.args.self.now c.split.new.self c.args.id c.args.number (λ (d : Version). with_entries (change.gap_split c.args.from.now d.entries) d) c.split.ensures.changed c.requires.version), (omega (arith, one, all), (c.requires.fits.1, keeps-split-last g.row.S s.recency s.region s.registry s.counts c.args.self.now n c.args.id c.args.number c.requires.last c.args.from.now (before-inner c.args.from.now c.args.to.now c.requires.ascend) c.split.new.self c.split.ensures.changed c.split.ensures.recency c.requires.version (λ (d : Version). with_entries (change.gap_split c.args.to.now d.entries) d))))))

pub mark_between-requires : goal.mark_between-requires
mark_between-requires g c =
    let s = c.self.inside in let n = memory-now g.row.S s.recency s.region s.registry s.counts s.memory c.args.self.now c.self.view_is c.self.invariant.0 c.self.invariant.1 in
    (omega arith, (c.requires.ascend, ((has-then c.split.new.self c.split-2.new.self c.args.id c.args.number (λ (d : Version). with_entries (change.gap_split c.args.to.now d.entries) d) c.split-2.ensures.changed (has-then c.args.self.now c.split.new.self c.args.id c.args.number (λ (d : Version). with_entries (change.gap_split c.args.from.now d.entries) d) c.split.ensures.changed c.requires.version)), (of-then c.split.new.self c.split-2.new.self c.args.id c.args.number (λ (d : Version). with_entries (change.gap_split c.args.to.now d.entries) d) c.split-2.ensures.changed (has-then c.args.self.now c.split.new.self c.args.id c.args.number (λ (d : Version). with_entries (change.gap_split c.args.from.now d.entries) d) c.split.ensures.changed c.requires.version) (λ (k : KeptChain) (v : Version). HasEntryAt c.args.from.now v.entries × HasEntryAt c.args.to.now v.entries) (of-then c.args.self.now c.split.new.self c.args.id c.args.number (λ (d : Version). with_entries (change.gap_split c.args.from.now d.entries) d) c.split.ensures.changed c.requires.version (λ (k : KeptChain) (v : Version). HasEntryAt c.args.from.now (change.gap_split c.args.to.now v.entries) × HasEntryAt c.args.to.now (change.gap_split c.args.to.now v.entries)) (λ k v e at. split-twice c.args.from.now c.args.to.now v.entries (version-is s.recency s.region s.registry s.counts c.args.self.now n.held c.args.id c.args.number k v e at).ends))))))

pub returns-clause-joined : goal.returns-clause-joined
returns-clause-joined g c =
    changed-both c.args.id c.args.number (λ (d : Version). with_entries (change.gap_split c.args.from.now d.entries) d) (λ (d : Version). raised_between c.args.from.now c.args.to.now c.args.tomb ((λ (d : Version). with_entries (change.gap_split c.args.to.now d.entries) d) d)) c.args.self.now c.split.new.self c.mark_between.new.self c.split.ensures.changed (changed-both c.args.id c.args.number (λ (d : Version). with_entries (change.gap_split c.args.to.now d.entries) d) (raised_between c.args.from.now c.args.to.now c.args.tomb) c.split.new.self c.split-2.new.self c.mark_between.new.self c.split-2.ensures.changed c.mark_between.ensures.marked)

pub returns-clause-recency : goal.returns-clause-recency
returns-clause-recency g c =
    λ k v e at.
    let there = chain-after c.args.self.now c.split.new.self c.args.id c.args.number (λ (d : Version). with_entries (change.gap_split c.args.from.now d.entries) d) c.split.ensures.changed k e in let number = number-after c.args.number (λ (d : Version). with_entries (change.gap_split c.args.from.now d.entries) d) k v at in
    let second = subst (λ list. IsRenewedWhereNone k.chain.kind (with_entries (change.gap_split c.args.from.now v.entries) v) (member_at c.args.id c.args.number (Some c.args.to.now)) c.split.new.self.recency list) (sym c.mark_between.ensures.recency) (c.split-2.ensures.recency _ _ there number) in
    (c.split.new.self.recency, c.split.ensures.recency k v e at, split-both k.chain.kind v c.args.from.now c.args.to.now (member_at c.args.id c.args.number (Some c.args.to.now)) refl (before-differs c.args.from.now c.args.to.now c.requires.ascend) c.split.new.self.recency c.mark_between.new.self.recency second)

pub returns-clause-spare : goal.returns-clause-spare
returns-clause-spare g c =
    let one = c.split.ensures.spare in let two = c.split-2.ensures.spare in let three = c.mark_between.ensures.spare in omega (arith, one, two, three)
