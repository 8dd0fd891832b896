use Rattle.std.proofs.Common.{sym, ap, ◌∙◌, subst, arith}
use Rattle.lsa_pool.specs.Room.{spare_of}
use Rattle.lsa_region.specs.Region.{View}
use Rattle.rc_memory.specs.Memory.{Memory}
use Rattle.rc_memory.specs.laws.One.{kept-is}
use Rattle.rc_memory.specs.laws.Rows.{keeps-flags}
use Rattle.rc_core.specs.Steps.{set_flags}
use Rattle.rc_memory.specs.Changes.{IsVersionChanged, Nowhere}
use Rattle.rc_chain.proofs.Changing.{marked-here, member-position, member-version}
use Rattle.rc_chain.proofs.Reading.{memory-now}
use Rattle.rc_chain.proofs.chains.Chains.set_flags.Goals as goal

pub set_flags-requires : goal.set_flags-requires
set_flags-requires g c =
    let s = c.self.inside in let n = memory-now g.row.S s.recency s.region s.registry s.counts s.memory c.args.self.now c.self.view_is c.self.invariant.0 c.self.invariant.1 in
    let q = c.requires in (omega arith, (s.recency, s.registry, s.counts, c.args.self.now, q.0.chain, q.0.version, q.1, n.held, member-position c.args.self.now c.args.e q.0 q.1 q.2 q.3))

pub invariant_of-self-inside : goal.invariant_of-self-inside
invariant_of-self-inside g c =
    let s = c.self.inside in let n = memory-now g.row.S s.recency s.region s.registry s.counts s.memory c.args.self.now c.self.view_is c.self.invariant.0 c.self.invariant.1 in
    let q = c.requires in let it = marked-here g.row.S s.recency s.region s.registry s.counts c.args.self.now n q.0.chain q.0.version (member-version s.recency s.region s.registry s.counts c.args.self.now n.held c.args.e q.0 q.3) c.set_flags.new.region (set_flags q.1 c.args.at c.args.gap) (keeps-flags q.1 c.args.at c.args.gap) (c.set_flags.ensures.changed s.recency s.registry s.counts c.args.self.now q.0.chain q.0.version q.1 n.held (member-position c.args.self.now c.args.e q.0 q.1 q.2 q.3)) in
    ((it.0, ∣ it.1 ∣₁), tt)

pub invariant_of-self : goal.invariant_of-self
invariant_of-self g c =
    let s = c.self.inside in let n = memory-now g.row.S s.recency s.region s.registry s.counts s.memory c.args.self.now c.self.view_is c.self.invariant.0 c.self.invariant.1 in
    let q = c.requires in let it = marked-here g.row.S s.recency s.region s.registry s.counts c.args.self.now n q.0.chain q.0.version (member-version s.recency s.region s.registry s.counts c.args.self.now n.held c.args.e q.0 q.3) c.set_flags.new.region (set_flags q.1 c.args.at c.args.gap) (keeps-flags q.1 c.args.at c.args.gap) (c.set_flags.ensures.changed s.recency s.registry s.counts c.args.self.now q.0.chain q.0.version q.1 n.held (member-position c.args.self.now c.args.e q.0 q.1 q.2 q.3)) in
    (it.0, it.1, c.self.invariant.2, c.self.invariant.3, c.self.invariant.4)

pub returns-clause-set : goal.returns-clause-set
returns-clause-set g c =
    λ w x e a. let s = c.self.inside in let n = memory-now g.row.S s.recency s.region s.registry s.counts s.memory c.args.self.now c.self.view_is c.self.invariant.0 c.self.invariant.1 in
    let it = marked-here g.row.S s.recency s.region s.registry s.counts c.args.self.now n w.chain w.version (member-version s.recency s.region s.registry s.counts c.args.self.now n.held c.args.e w a) c.set_flags.new.region (set_flags x c.args.at c.args.gap) (keeps-flags x c.args.at c.args.gap) (c.set_flags.ensures.changed s.recency s.registry s.counts c.args.self.now w.chain w.version x n.held (member-position c.args.self.now c.args.e w x e a)) in
    let is = kept-is g.row.S s.recency c.set_flags.new.region s.registry s.counts c.self-1.given.0 it.0 it.1.held in
    subst (IsVersionChanged w.chain w.version (set_flags x c.args.at c.args.gap) Nowhere c.args.self.now) (sym is) it.2.0

pub returns-clause-recency : goal.returns-clause-recency
returns-clause-recency g c =
    let s = c.self.inside in let n = memory-now g.row.S s.recency s.region s.registry s.counts s.memory c.args.self.now c.self.view_is c.self.invariant.0 c.self.invariant.1 in
    let q = c.requires in let it = marked-here g.row.S s.recency s.region s.registry s.counts c.args.self.now n q.0.chain q.0.version (member-version s.recency s.region s.registry s.counts c.args.self.now n.held c.args.e q.0 q.3) c.set_flags.new.region (set_flags q.1 c.args.at c.args.gap) (keeps-flags q.1 c.args.at c.args.gap) (c.set_flags.ensures.changed s.recency s.registry s.counts c.args.self.now q.0.chain q.0.version q.1 n.held (member-position c.args.self.now c.args.e q.0 q.1 q.2 q.3)) in
    let is = kept-is g.row.S s.recency c.set_flags.new.region s.registry s.counts c.self-1.given.0 it.0 it.1.held in
    ap (λ (m : Memory). m.recency) is ∙ it.2.1

pub returns-clause-spare : goal.returns-clause-spare
returns-clause-spare g c =
    let s = c.self.inside in let n = memory-now g.row.S s.recency s.region s.registry s.counts s.memory c.args.self.now c.self.view_is c.self.invariant.0 c.self.invariant.1 in
    let q = c.requires in let it = marked-here g.row.S s.recency s.region s.registry s.counts c.args.self.now n q.0.chain q.0.version (member-version s.recency s.region s.registry s.counts c.args.self.now n.held c.args.e q.0 q.3) c.set_flags.new.region (set_flags q.1 c.args.at c.args.gap) (keeps-flags q.1 c.args.at c.args.gap) (c.set_flags.ensures.changed s.recency s.registry s.counts c.args.self.now q.0.chain q.0.version q.1 n.held (member-position c.args.self.now c.args.e q.0 q.1 q.2 q.3)) in
    let is = kept-is g.row.S s.recency c.set_flags.new.region s.registry s.counts c.self-1.given.0 it.0 it.1.held in
    ap (λ (m : Memory). spare_of g.row.S m.region.usages) is ∙ ap (λ (v : View). spare_of g.row.S v.usages) it.1.held.region ∙ ap (λ us. spare_of g.row.S us) c.set_flags.ensures.rewritten.0.1.usages ∙ sym (ap (λ (v : View). spare_of g.row.S v.usages) n.held.region)
