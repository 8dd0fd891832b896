use Rattle.std.proofs.Common.{sym, ap, ◌∙◌, subst, arith, None}
use Rattle.lsa_pool.specs.Room.{spare_of}
use Rattle.lsa_region.specs.Region.{View}
use Rattle.rc_core.specs.Continuity.{without_statics}
use Rattle.rc_memory.specs.Memory.{Memory}
use Rattle.rc_memory.specs.Changes.{AtAlone, IsVersionChanged, IsWithout, member_at}
use Rattle.rc_memory.specs.laws.One.{kept-is}
use Rattle.rc_chain.proofs.Changing.{held-version, undone-here}
use Rattle.rc_chain.proofs.Reading.{memory-now}
use Rattle.rc_chain.proofs.chains.Chains.drop_static.Goals as goal

pub drop_static-requires : goal.drop_static-requires
drop_static-requires g c =
    let s = c.self.inside in let n = memory-now g.row.S s.recency s.region s.registry s.counts s.memory c.args.self.now c.self.view_is c.self.invariant.0 c.self.invariant.1 in
    let v = held-version g.row.S s.recency s.region s.registry s.counts c.args.self.now n c.args.id c.args.number c.requires c.version-v.result c.version-v.ensures in
    (omega arith, (s.registry, s.counts, c.args.self.now, c.args.id, c.args.number, v.0, v.1, v.2))

pub invariant_of-self-inside : goal.invariant_of-self-inside
invariant_of-self-inside g c =
    let s = c.self.inside in let n = memory-now g.row.S s.recency s.region s.registry s.counts s.memory c.args.self.now c.self.view_is c.self.invariant.0 c.self.invariant.1 in
    let v = held-version g.row.S s.recency s.region s.registry s.counts c.args.self.now n c.args.id c.args.number c.requires c.version-v.result c.version-v.ensures in
    let it = undone-here g.row.S s.recency s.region s.registry s.counts c.args.self.now n c.args.id c.args.number c.requires c.drop_static.new.region (c.drop_static.ensures.changed s.registry s.counts c.args.self.now c.args.id c.args.number v.0 v.1 v.2) in
    ((it.0, ∣ it.1 ∣₁), tt)

pub invariant_of-self : goal.invariant_of-self
invariant_of-self g c =
    let s = c.self.inside in let n = memory-now g.row.S s.recency s.region s.registry s.counts s.memory c.args.self.now c.self.view_is c.self.invariant.0 c.self.invariant.1 in
    let v = held-version g.row.S s.recency s.region s.registry s.counts c.args.self.now n c.args.id c.args.number c.requires c.version-v.result c.version-v.ensures in
    let it = undone-here g.row.S s.recency s.region s.registry s.counts c.args.self.now n c.args.id c.args.number c.requires c.drop_static.new.region (c.drop_static.ensures.changed s.registry s.counts c.args.self.now c.args.id c.args.number v.0 v.1 v.2) in
    (it.0, it.1, c.self.invariant.2, c.self.invariant.3, c.self.invariant.4)

pub returns-clause-dropped : goal.returns-clause-dropped
returns-clause-dropped g c =
    let s = c.self.inside in let n = memory-now g.row.S s.recency s.region s.registry s.counts s.memory c.args.self.now c.self.view_is c.self.invariant.0 c.self.invariant.1 in
    let v = held-version g.row.S s.recency s.region s.registry s.counts c.args.self.now n c.args.id c.args.number c.requires c.version-v.result c.version-v.ensures in
    let it = undone-here g.row.S s.recency s.region s.registry s.counts c.args.self.now n c.args.id c.args.number c.requires c.drop_static.new.region (c.drop_static.ensures.changed s.registry s.counts c.args.self.now c.args.id c.args.number v.0 v.1 v.2) in
    let is = kept-is g.row.S s.recency c.drop_static.new.region s.registry s.counts c.self-1.given.0 it.0 it.1.held in
    subst (IsVersionChanged c.args.id c.args.number without_statics (AtAlone (member_at c.args.id c.args.number None)) c.args.self.now) (sym is) it.2.0

pub returns-clause-recency : goal.returns-clause-recency
returns-clause-recency g c =
    let s = c.self.inside in let n = memory-now g.row.S s.recency s.region s.registry s.counts s.memory c.args.self.now c.self.view_is c.self.invariant.0 c.self.invariant.1 in
    let v = held-version g.row.S s.recency s.region s.registry s.counts c.args.self.now n c.args.id c.args.number c.requires c.version-v.result c.version-v.ensures in
    let it = undone-here g.row.S s.recency s.region s.registry s.counts c.args.self.now n c.args.id c.args.number c.requires c.drop_static.new.region (c.drop_static.ensures.changed s.registry s.counts c.args.self.now c.args.id c.args.number v.0 v.1 v.2) in
    let is = kept-is g.row.S s.recency c.drop_static.new.region s.registry s.counts c.self-1.given.0 it.0 it.1.held in
    subst (λ (m : Memory). IsWithout (member_at c.args.id c.args.number None) c.args.self.now.recency m.recency) (sym is) it.2.1

pub returns-clause-spare : goal.returns-clause-spare
returns-clause-spare g c =
    let s = c.self.inside in let n = memory-now g.row.S s.recency s.region s.registry s.counts s.memory c.args.self.now c.self.view_is c.self.invariant.0 c.self.invariant.1 in
    let v = held-version g.row.S s.recency s.region s.registry s.counts c.args.self.now n c.args.id c.args.number c.requires c.version-v.result c.version-v.ensures in
    let it = undone-here g.row.S s.recency s.region s.registry s.counts c.args.self.now n c.args.id c.args.number c.requires c.drop_static.new.region (c.drop_static.ensures.changed s.registry s.counts c.args.self.now c.args.id c.args.number v.0 v.1 v.2) in
    let is = kept-is g.row.S s.recency c.drop_static.new.region s.registry s.counts c.self-1.given.0 it.0 it.1.held in
    ap (λ (m : Memory). spare_of g.row.S m.region.usages) is ∙ ap (λ (v : View). spare_of g.row.S v.usages) it.1.held.region ∙ c.drop_static.ensures.spare ∙ sym (ap (λ (v : View). spare_of g.row.S v.usages) n.held.region)
