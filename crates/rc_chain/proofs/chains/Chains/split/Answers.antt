use Rattle.std.proofs.Common.{◌≤◌, sym, ap, ◌∙◌, subst, arith, Some}
use Rattle.lsa_pool.specs.Room.{spare_of}
use Rattle.lsa_region.specs.Region.{View}
use Rattle.rc_rowcode.specs.Objects.{dummy_size}
use Rattle.rc_core.specs.Change as change
use Rattle.rc_core.specs.Continuity.{with_entries}
use Rattle.rc_core.specs.Version.{Version}
use Rattle.rc_memory.specs.Memory.{KeptChain, Memory, IsMemberObject}
use Rattle.rc_memory.specs.Changes.{IsRenewedWhereNone, IsVersionChanged, Nowhere, OfVersion, member_at}
use Rattle.rc_memory.specs.laws.One.{kept-is}
use Rattle.rc_chain.proofs.Changing.{dummy-inside, held-version, split-here}
use Rattle.rc_chain.proofs.Reading.{memory-now, version-has}
use Rattle.rc_chain.proofs.chains.Chains.split.Goals as goal

pub kind-kind-requires : goal.kind-kind-requires
kind-kind-requires g c =
    (omega arith, version-has c.args.self.now c.args.id c.args.number c.requires.version)

pub split-requires : goal.split-requires
split-requires g c =
    let s = c.self.inside in let n = memory-now g.row.S s.recency s.region s.registry s.counts s.memory c.args.self.now c.self.view_is c.self.invariant.0 c.self.invariant.1 in
    let v = held-version g.row.S s.recency s.region s.registry s.counts c.args.self.now n c.args.id c.args.number c.requires.version c.version-v.result c.version-v.ensures in
    (omega arith, (c.requires.limits, (record { fits = c.requires.fits; spare = subst (λ (v : View). dummy_size c.args.x.now ≤ spare_of g.row.S v.usages) n.held.region c.requires.spare; inside = dummy-inside g.row.S s.scratch.size c.args.x.now c.self.invariant.2 c.requires.fits }, (s.registry, s.counts, c.args.self.now, c.args.id, c.args.number, v.0, v.1, v.2))))

pub invariant_of-self-inside : goal.invariant_of-self-inside
invariant_of-self-inside g c =
    let s = c.self.inside in let n = memory-now g.row.S s.recency s.region s.registry s.counts s.memory c.args.self.now c.self.view_is c.self.invariant.0 c.self.invariant.1 in
    let v = held-version g.row.S s.recency s.region s.registry s.counts c.args.self.now n c.args.id c.args.number c.requires.version c.version-v.result c.version-v.ensures in
    let it = split-here g.row.S s.recency s.region s.registry s.counts c.args.self.now n c.args.id c.args.number c.requires.version c.split.new.region c.kind-kind.result c.args.x.now c.split.result v.0 v.1 v.2.chain v.2.number (c.kind-kind.ensures v.0 v.2.chain) c.requires.fits c.requires.last (c.split.ensures.changed s.registry s.counts c.args.self.now c.args.id c.args.number v.0 v.1 v.2) in
    ((it.0, ∣ it.1 ∣₁), tt)

pub invariant_of-self : goal.invariant_of-self
invariant_of-self g c =
    let s = c.self.inside in let n = memory-now g.row.S s.recency s.region s.registry s.counts s.memory c.args.self.now c.self.view_is c.self.invariant.0 c.self.invariant.1 in
    let v = held-version g.row.S s.recency s.region s.registry s.counts c.args.self.now n c.args.id c.args.number c.requires.version c.version-v.result c.version-v.ensures in
    let it = split-here g.row.S s.recency s.region s.registry s.counts c.args.self.now n c.args.id c.args.number c.requires.version c.split.new.region c.kind-kind.result c.args.x.now c.split.result v.0 v.1 v.2.chain v.2.number (c.kind-kind.ensures v.0 v.2.chain) c.requires.fits c.requires.last (c.split.ensures.changed s.registry s.counts c.args.self.now c.args.id c.args.number v.0 v.1 v.2) in
    (it.0, it.1, c.split.ensures.size ∙ c.self.invariant.2, c.self.invariant.3, c.self.invariant.4)

pub returns-clause-changed : goal.returns-clause-changed
returns-clause-changed g c =
    let s = c.self.inside in let n = memory-now g.row.S s.recency s.region s.registry s.counts s.memory c.args.self.now c.self.view_is c.self.invariant.0 c.self.invariant.1 in
    let v = held-version g.row.S s.recency s.region s.registry s.counts c.args.self.now n c.args.id c.args.number c.requires.version c.version-v.result c.version-v.ensures in
    let it = split-here g.row.S s.recency s.region s.registry s.counts c.args.self.now n c.args.id c.args.number c.requires.version c.split.new.region c.kind-kind.result c.args.x.now c.split.result v.0 v.1 v.2.chain v.2.number (c.kind-kind.ensures v.0 v.2.chain) c.requires.fits c.requires.last (c.split.ensures.changed s.registry s.counts c.args.self.now c.args.id c.args.number v.0 v.1 v.2) in
    let is = kept-is g.row.S s.recency c.split.new.region s.registry s.counts c.self-1.given.0 it.0 it.1.held in
    subst (IsVersionChanged c.args.id c.args.number (λ (d : Version). with_entries (change.gap_split c.args.x.now d.entries) d) Nowhere c.args.self.now) (sym is) it.2.changed

pub returns-clause-recency : goal.returns-clause-recency
returns-clause-recency g c =
    let s = c.self.inside in let n = memory-now g.row.S s.recency s.region s.registry s.counts s.memory c.args.self.now c.self.view_is c.self.invariant.0 c.self.invariant.1 in
    let v = held-version g.row.S s.recency s.region s.registry s.counts c.args.self.now n c.args.id c.args.number c.requires.version c.version-v.result c.version-v.ensures in
    let it = split-here g.row.S s.recency s.region s.registry s.counts c.args.self.now n c.args.id c.args.number c.requires.version c.split.new.region c.kind-kind.result c.args.x.now c.split.result v.0 v.1 v.2.chain v.2.number (c.kind-kind.ensures v.0 v.2.chain) c.requires.fits c.requires.last (c.split.ensures.changed s.registry s.counts c.args.self.now c.args.id c.args.number v.0 v.1 v.2) in
    let is = kept-is g.row.S s.recency c.split.new.region s.registry s.counts c.self-1.given.0 it.0 it.1.held in
    subst (λ (m : Memory). OfVersion c.args.self.now c.args.id c.args.number (λ (k : KeptChain) (v : Version). IsRenewedWhereNone k.chain.kind v (member_at c.args.id c.args.number (Some c.args.x.now)) c.args.self.now.recency m.recency)) (sym is) it.2.recency

pub returns-clause-here : goal.returns-clause-here
returns-clause-here g c =
    let s = c.self.inside in let n = memory-now g.row.S s.recency s.region s.registry s.counts s.memory c.args.self.now c.self.view_is c.self.invariant.0 c.self.invariant.1 in
    let v = held-version g.row.S s.recency s.region s.registry s.counts c.args.self.now n c.args.id c.args.number c.requires.version c.version-v.result c.version-v.ensures in
    let it = split-here g.row.S s.recency s.region s.registry s.counts c.args.self.now n c.args.id c.args.number c.requires.version c.split.new.region c.kind-kind.result c.args.x.now c.split.result v.0 v.1 v.2.chain v.2.number (c.kind-kind.ensures v.0 v.2.chain) c.requires.fits c.requires.last (c.split.ensures.changed s.registry s.counts c.args.self.now c.args.id c.args.number v.0 v.1 v.2) in
    let is = kept-is g.row.S s.recency c.split.new.region s.registry s.counts c.self-1.given.0 it.0 it.1.held in
    subst (λ (m : Memory). IsMemberObject m c.split.result (member_at c.args.id c.args.number (Some c.args.x.now))) (sym is) it.2.here

pub returns-clause-spare : goal.returns-clause-spare
returns-clause-spare g c =
    let s = c.self.inside in let n = memory-now g.row.S s.recency s.region s.registry s.counts s.memory c.args.self.now c.self.view_is c.self.invariant.0 c.self.invariant.1 in
    let v = held-version g.row.S s.recency s.region s.registry s.counts c.args.self.now n c.args.id c.args.number c.requires.version c.version-v.result c.version-v.ensures in
    let it = split-here g.row.S s.recency s.region s.registry s.counts c.args.self.now n c.args.id c.args.number c.requires.version c.split.new.region c.kind-kind.result c.args.x.now c.split.result v.0 v.1 v.2.chain v.2.number (c.kind-kind.ensures v.0 v.2.chain) c.requires.fits c.requires.last (c.split.ensures.changed s.registry s.counts c.args.self.now c.args.id c.args.number v.0 v.1 v.2) in
    let is = kept-is g.row.S s.recency c.split.new.region s.registry s.counts c.self-1.given.0 it.0 it.1.held in
    let same = ap (λ (m : Memory). spare_of g.row.S m.region.usages) is ∙ ap (λ (v : View). spare_of g.row.S v.usages) it.1.held.region in let before = ap (λ (v : View). spare_of g.row.S v.usages) n.held.region in let after = c.split.ensures.spare in omega (arith, same, before, after)
