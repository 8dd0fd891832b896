use Rattle.std.proofs.Common.{sym, ap, ◌∙◌, subst, arith}
use Rattle.lsa_pool.specs.Room.{spare_of}
use Rattle.lsa_region.specs.Region.{View}
use Rattle.rc_memory.specs.Memory.{Memory}
use Rattle.rc_memory.specs.laws.One.{kept-is}
use Rattle.rc_version.specs.Versions.{mark_after, marked_between}
use Rattle.rc_memory.specs.laws.Rows.{keeps-marks}
use Rattle.rc_memory.specs.Changes.{IsVersionChanged, Nowhere}
use Rattle.rc_chain.proofs.Changing.{held-version, marked-here}
use Rattle.rc_chain.proofs.Reading.{memory-now}
use Rattle.rc_chain.proofs.chains.Chains.mark_between.Goals as goal

pub mark_between-requires : goal.mark_between-requires
mark_between-requires g c =
    let s = c.self.inside in let n = memory-now g.row.S s.recency s.region s.registry s.counts s.memory c.args.self.now c.self.view_is c.self.invariant.0 c.self.invariant.1 in
    let v = held-version g.row.S s.recency s.region s.registry s.counts c.args.self.now n c.args.id c.args.number c.requires.version c.version-v.result c.version-v.ensures in
    (omega arith, (c.requires.ascend, (s.recency, s.registry, s.counts, c.args.self.now, c.args.id, c.args.number, v.0, v.1, v.2, (c.requires.entries v.0 v.1 v.2.chain v.2.number).0, (c.requires.entries v.0 v.1 v.2.chain v.2.number).1)))

pub invariant_of-self-inside : goal.invariant_of-self-inside
invariant_of-self-inside g c =
    let s = c.self.inside in let n = memory-now g.row.S s.recency s.region s.registry s.counts s.memory c.args.self.now c.self.view_is c.self.invariant.0 c.self.invariant.1 in
    let v = held-version g.row.S s.recency s.region s.registry s.counts c.args.self.now n c.args.id c.args.number c.requires.version c.version-v.result c.version-v.ensures in
    let it = marked-here g.row.S s.recency s.region s.registry s.counts c.args.self.now n c.args.id c.args.number c.requires.version c.mark_between.new.region (marked_between (mark_after c.args.marking) c.args.from.now c.args.to.now) (keeps-marks (mark_after c.args.marking) c.args.from.now c.args.to.now) (c.mark_between.ensures.changed s.recency s.registry s.counts c.args.self.now c.args.id c.args.number v.0 v.1 v.2) in
    ((it.0, ∣ it.1 ∣₁), tt)

pub invariant_of-self : goal.invariant_of-self
invariant_of-self g c =
    let s = c.self.inside in let n = memory-now g.row.S s.recency s.region s.registry s.counts s.memory c.args.self.now c.self.view_is c.self.invariant.0 c.self.invariant.1 in
    let v = held-version g.row.S s.recency s.region s.registry s.counts c.args.self.now n c.args.id c.args.number c.requires.version c.version-v.result c.version-v.ensures in
    let it = marked-here g.row.S s.recency s.region s.registry s.counts c.args.self.now n c.args.id c.args.number c.requires.version c.mark_between.new.region (marked_between (mark_after c.args.marking) c.args.from.now c.args.to.now) (keeps-marks (mark_after c.args.marking) c.args.from.now c.args.to.now) (c.mark_between.ensures.changed s.recency s.registry s.counts c.args.self.now c.args.id c.args.number v.0 v.1 v.2) in
    (it.0, it.1, c.self.invariant.2, c.self.invariant.3, c.self.invariant.4)

pub returns-clause-marked : goal.returns-clause-marked
returns-clause-marked g c =
    let s = c.self.inside in let n = memory-now g.row.S s.recency s.region s.registry s.counts s.memory c.args.self.now c.self.view_is c.self.invariant.0 c.self.invariant.1 in
    let v = held-version g.row.S s.recency s.region s.registry s.counts c.args.self.now n c.args.id c.args.number c.requires.version c.version-v.result c.version-v.ensures in
    let it = marked-here g.row.S s.recency s.region s.registry s.counts c.args.self.now n c.args.id c.args.number c.requires.version c.mark_between.new.region (marked_between (mark_after c.args.marking) c.args.from.now c.args.to.now) (keeps-marks (mark_after c.args.marking) c.args.from.now c.args.to.now) (c.mark_between.ensures.changed s.recency s.registry s.counts c.args.self.now c.args.id c.args.number v.0 v.1 v.2) in
    let is = kept-is g.row.S s.recency c.mark_between.new.region s.registry s.counts c.self-1.given.0 it.0 it.1.held in
    subst (IsVersionChanged c.args.id c.args.number (marked_between (mark_after c.args.marking) c.args.from.now c.args.to.now) Nowhere c.args.self.now) (sym is) it.2.0

pub returns-clause-recency : goal.returns-clause-recency
returns-clause-recency g c =
    let s = c.self.inside in let n = memory-now g.row.S s.recency s.region s.registry s.counts s.memory c.args.self.now c.self.view_is c.self.invariant.0 c.self.invariant.1 in
    let v = held-version g.row.S s.recency s.region s.registry s.counts c.args.self.now n c.args.id c.args.number c.requires.version c.version-v.result c.version-v.ensures in
    let it = marked-here g.row.S s.recency s.region s.registry s.counts c.args.self.now n c.args.id c.args.number c.requires.version c.mark_between.new.region (marked_between (mark_after c.args.marking) c.args.from.now c.args.to.now) (keeps-marks (mark_after c.args.marking) c.args.from.now c.args.to.now) (c.mark_between.ensures.changed s.recency s.registry s.counts c.args.self.now c.args.id c.args.number v.0 v.1 v.2) in
    let is = kept-is g.row.S s.recency c.mark_between.new.region s.registry s.counts c.self-1.given.0 it.0 it.1.held in
    ap (λ (m : Memory). m.recency) is ∙ it.2.1

pub returns-clause-spare : goal.returns-clause-spare
returns-clause-spare g c =
    let s = c.self.inside in let n = memory-now g.row.S s.recency s.region s.registry s.counts s.memory c.args.self.now c.self.view_is c.self.invariant.0 c.self.invariant.1 in
    let v = held-version g.row.S s.recency s.region s.registry s.counts c.args.self.now n c.args.id c.args.number c.requires.version c.version-v.result c.version-v.ensures in
    let it = marked-here g.row.S s.recency s.region s.registry s.counts c.args.self.now n c.args.id c.args.number c.requires.version c.mark_between.new.region (marked_between (mark_after c.args.marking) c.args.from.now c.args.to.now) (keeps-marks (mark_after c.args.marking) c.args.from.now c.args.to.now) (c.mark_between.ensures.changed s.recency s.registry s.counts c.args.self.now c.args.id c.args.number v.0 v.1 v.2) in
    let is = kept-is g.row.S s.recency c.mark_between.new.region s.registry s.counts c.self-1.given.0 it.0 it.1.held in
    ap (λ (m : Memory). spare_of g.row.S m.region.usages) is ∙ ap (λ (v : View). spare_of g.row.S v.usages) it.1.held.region ∙ c.mark_between.ensures.spare ∙ sym (ap (λ (v : View). spare_of g.row.S v.usages) n.held.region)
