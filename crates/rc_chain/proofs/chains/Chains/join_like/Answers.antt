use Rattle.std.proofs.Common.{◌+◌, ◌≤◌, sym, ap, ◌∙◌, subst, arith, Some, None}
use Rattle.lsa_pool.specs.Room.{spare_of}
use Rattle.lsa_region.specs.Region.{View}
use Rattle.rc_rowcode.specs.Objects.{static_size}
use Rattle.rc_core.specs.Change as change
use Rattle.rc_core.specs.Steps.{join_statics, row_joined}
use Rattle.rc_core.specs.Version.{Version}
use Rattle.rc_version.specs.Versions.{joined_bytes}
use Rattle.rc_memory.specs.Memory.{KeptChain, Memory, IsMemberObject}
use Rattle.rc_memory.specs.Changes.{AtAlone, IsRenewed, IsVersionChanged, OfVersion, member_at}
use Rattle.rc_memory.specs.laws.One.{kept-is}
use Rattle.rc_chain.proofs.Changing.{held-version, of-version, static-row, like-either, like-entry, like-statics, room-like-joined, entry-here, entry-row}
use Rattle.rc_chain.proofs.Reading.{memory-now, version-has}
use Rattle.rc_chain.proofs.chains.Chains.join_like.Goals as goal

pub kind-kind-requires : goal.kind-kind-requires
kind-kind-requires g c =
    (omega arith, version-has c.args.self.now c.args.id c.args.number c.requires.version)

pub join_like-requires : goal.join_like-requires
join_like-requires g c =
    let s = c.self.inside in let n = memory-now g.row.S s.recency s.region s.registry s.counts s.memory c.args.self.now c.self.view_is c.self.invariant.0 c.self.invariant.1 in
    let v = held-version g.row.S s.recency s.region s.registry s.counts c.args.self.now n c.args.id c.args.number c.requires.version c.version-v.result c.version-v.ensures in
    let q = c.requires.there in
    (omega arith, (s.registry, s.counts, c.args.self.now, c.args.id, c.args.number, v.0, v.1, v.2, room-like-joined g.row.S s.recency s.region s.registry s.counts c.args.self.now n c.args.e q.0 q.1 c.args.id c.args.number c.requires.version v.0 v.1 v.2.chain v.2.number (λ x e. c.requires.entry q.0 x q.1 e) (λ row e said. c.requires.statics q.0 row q.1 e said) s.scratch.size c.self.invariant.2))

pub invariant_of-self-inside : goal.invariant_of-self-inside
invariant_of-self-inside g c =
    let s = c.self.inside in let n = memory-now g.row.S s.recency s.region s.registry s.counts s.memory c.args.self.now c.self.view_is c.self.invariant.0 c.self.invariant.1 in
    let v = held-version g.row.S s.recency s.region s.registry s.counts c.args.self.now n c.args.id c.args.number c.requires.version c.version-v.result c.version-v.ensures in
    let q = c.requires.there in let it = like-either g.row.S s.recency s.region s.registry s.counts c.args.self.now n c.args.e q.0 q.1 c.args.id c.args.number c.requires.version v.0 v.1 v.2.chain v.2.number (λ x e. c.requires.entry q.0 x q.1 e) (λ row e said. c.requires.statics q.0 row q.1 e said) c.join_like.new.region c.kind-kind.result (c.kind-kind.ensures v.0 v.2.chain) c.join_like.result (λ y row holds is off. c.join_like.ensures.entry s.registry s.counts c.args.self.now c.args.id c.args.number v.0 v.1 y row v.2 holds is off) (λ row holds off. c.join_like.ensures.statics s.registry s.counts c.args.self.now c.args.id c.args.number v.0 v.1 row v.2 holds off) in
    ((it.0, ∣ it.1 ∣₁), tt)

pub invariant_of-self : goal.invariant_of-self
invariant_of-self g c =
    let s = c.self.inside in let n = memory-now g.row.S s.recency s.region s.registry s.counts s.memory c.args.self.now c.self.view_is c.self.invariant.0 c.self.invariant.1 in
    let v = held-version g.row.S s.recency s.region s.registry s.counts c.args.self.now n c.args.id c.args.number c.requires.version c.version-v.result c.version-v.ensures in
    let q = c.requires.there in let it = like-either g.row.S s.recency s.region s.registry s.counts c.args.self.now n c.args.e q.0 q.1 c.args.id c.args.number c.requires.version v.0 v.1 v.2.chain v.2.number (λ x e. c.requires.entry q.0 x q.1 e) (λ row e said. c.requires.statics q.0 row q.1 e said) c.join_like.new.region c.kind-kind.result (c.kind-kind.ensures v.0 v.2.chain) c.join_like.result (λ y row holds is off. c.join_like.ensures.entry s.registry s.counts c.args.self.now c.args.id c.args.number v.0 v.1 y row v.2 holds is off) (λ row holds off. c.join_like.ensures.statics s.registry s.counts c.args.self.now c.args.id c.args.number v.0 v.1 row v.2 holds off) in
    (it.0, it.1, c.join_like.ensures.size ∙ c.self.invariant.2, c.self.invariant.3, c.self.invariant.4)

pub returns-clause-entry : goal.returns-clause-entry
returns-clause-entry g c =
    λ w x row a e said. let s = c.self.inside in let n = memory-now g.row.S s.recency s.region s.registry s.counts s.memory c.args.self.now c.self.view_is c.self.invariant.0 c.self.invariant.1 in
    let v = held-version g.row.S s.recency s.region s.registry s.counts c.args.self.now n c.args.id c.args.number c.requires.version c.version-v.result c.version-v.ensures in
    let it = like-entry g.row.S s.recency s.region s.registry s.counts c.args.self.now n c.args.e w a c.args.id c.args.number c.requires.version v.0 v.1 v.2.chain v.2.number (λ x e. c.requires.entry w x a e) (λ row e said. c.requires.statics w row a e said) c.join_like.new.region c.kind-kind.result (c.kind-kind.ensures v.0 v.2.chain) c.join_like.result (λ y row holds is off. c.join_like.ensures.entry s.registry s.counts c.args.self.now c.args.id c.args.number v.0 v.1 y row v.2 holds is off) (λ row holds off. c.join_like.ensures.statics s.registry s.counts c.args.self.now c.args.id c.args.number v.0 v.1 row v.2 holds off) x e row said in
    let is = kept-is g.row.S s.recency c.join_like.new.region s.registry s.counts c.self-1.given.0 it.0 it.1.held in (
      subst (IsVersionChanged c.args.id c.args.number (row_joined x row) (AtAlone (member_at c.args.id c.args.number (Some x))) c.args.self.now) (sym is) it.2.0.changed,
      subst (λ (m : Memory). OfVersion c.args.self.now c.args.id c.args.number (λ (k : KeptChain) (v : Version). IsRenewed k.chain.kind (member_at c.args.id c.args.number (Some x)) c.args.self.now.recency m.recency)) (sym is) it.2.0.recency,
      subst (λ (m : Memory). IsMemberObject m c.join_like.result (member_at c.args.id c.args.number (Some x))) (sym is) it.2.1,
    )

pub returns-clause-statics : goal.returns-clause-statics
returns-clause-statics g c =
    λ w row a e said. let s = c.self.inside in let n = memory-now g.row.S s.recency s.region s.registry s.counts s.memory c.args.self.now c.self.view_is c.self.invariant.0 c.self.invariant.1 in
    let v = held-version g.row.S s.recency s.region s.registry s.counts c.args.self.now n c.args.id c.args.number c.requires.version c.version-v.result c.version-v.ensures in
    let it = like-statics g.row.S s.recency s.region s.registry s.counts c.args.self.now n c.args.e w a c.args.id c.args.number c.requires.version v.0 v.1 v.2.chain v.2.number (λ x e. c.requires.entry w x a e) (λ row e said. c.requires.statics w row a e said) c.join_like.new.region c.kind-kind.result (c.kind-kind.ensures v.0 v.2.chain) c.join_like.result (λ y row holds is off. c.join_like.ensures.entry s.registry s.counts c.args.self.now c.args.id c.args.number v.0 v.1 y row v.2 holds is off) (λ row holds off. c.join_like.ensures.statics s.registry s.counts c.args.self.now c.args.id c.args.number v.0 v.1 row v.2 holds off) e row said in
    let is = kept-is g.row.S s.recency c.join_like.new.region s.registry s.counts c.self-1.given.0 it.0 it.1.held in (
      subst (IsVersionChanged c.args.id c.args.number (join_statics row) (AtAlone (member_at c.args.id c.args.number None)) c.args.self.now) (sym is) it.2.0.changed,
      subst (λ (m : Memory). OfVersion c.args.self.now c.args.id c.args.number (λ (k : KeptChain) (v : Version). IsRenewed k.chain.kind (member_at c.args.id c.args.number None) c.args.self.now.recency m.recency)) (sym is) it.2.0.recency,
      subst (λ (m : Memory). IsMemberObject m c.join_like.result (member_at c.args.id c.args.number None)) (sym is) it.2.1,
    )

pub returns-clause-entry_spare : goal.returns-clause-entry_spare
returns-clause-entry_spare g c =
    λ w x row a e said. let s = c.self.inside in let n = memory-now g.row.S s.recency s.region s.registry s.counts s.memory c.args.self.now c.self.view_is c.self.invariant.0 c.self.invariant.1 in
    let v = held-version g.row.S s.recency s.region s.registry s.counts c.args.self.now n c.args.id c.args.number c.requires.version c.version-v.result c.version-v.ensures in
    let it = like-entry g.row.S s.recency s.region s.registry s.counts c.args.self.now n c.args.e w a c.args.id c.args.number c.requires.version v.0 v.1 v.2.chain v.2.number (λ x e. c.requires.entry w x a e) (λ row e said. c.requires.statics w row a e said) c.join_like.new.region c.kind-kind.result (c.kind-kind.ensures v.0 v.2.chain) c.join_like.result (λ y row holds is off. c.join_like.ensures.entry s.registry s.counts c.args.self.now c.args.id c.args.number v.0 v.1 y row v.2 holds is off) (λ row holds off. c.join_like.ensures.statics s.registry s.counts c.args.self.now c.args.id c.args.number v.0 v.1 row v.2 holds off) x e row said in
    let is = kept-is g.row.S s.recency c.join_like.new.region s.registry s.counts c.self-1.given.0 it.0 it.1.held in
    let en = entry-here g.row.S s.recency s.region s.registry s.counts c.args.self.now n c.args.e w a x e in let same = ap (λ (m : Memory). spare_of g.row.S m.region.usages) is ∙ ap (λ (v : View). spare_of g.row.S v.usages) it.1.held.region in let before = ap (λ (v : View). spare_of g.row.S v.usages) n.held.region in
    let after = subst (λ y. spare_of g.row.S s.region.usages ≤ spare_of g.row.S c.join_like.new.region.usages + joined_bytes y row v.1) en.position (c.join_like.ensures.entry_spare s.registry s.counts c.args.self.now c.args.id c.args.number v.0 v.1 en.entry row v.2 en.held (entry-row g.row.S s.recency s.region s.registry s.counts c.args.self.now n c.args.e w a x e row said)) in
    of-version c.args.self.now c.args.id c.args.number (λ (k : KeptChain) (d : Version). spare_of g.row.S c.args.self.now.region.usages ≤ spare_of g.row.S c.self-1.given.0.0.region.usages + joined_bytes x row d) v.0 v.1 v.2.chain v.2.number (omega (arith, same, before, after))

pub returns-clause-statics_spare : goal.returns-clause-statics_spare
returns-clause-statics_spare g c =
    λ w row a e said. let s = c.self.inside in let n = memory-now g.row.S s.recency s.region s.registry s.counts s.memory c.args.self.now c.self.view_is c.self.invariant.0 c.self.invariant.1 in
    let v = held-version g.row.S s.recency s.region s.registry s.counts c.args.self.now n c.args.id c.args.number c.requires.version c.version-v.result c.version-v.ensures in
    let it = like-statics g.row.S s.recency s.region s.registry s.counts c.args.self.now n c.args.e w a c.args.id c.args.number c.requires.version v.0 v.1 v.2.chain v.2.number (λ x e. c.requires.entry w x a e) (λ row e said. c.requires.statics w row a e said) c.join_like.new.region c.kind-kind.result (c.kind-kind.ensures v.0 v.2.chain) c.join_like.result (λ y row holds is off. c.join_like.ensures.entry s.registry s.counts c.args.self.now c.args.id c.args.number v.0 v.1 y row v.2 holds is off) (λ row holds off. c.join_like.ensures.statics s.registry s.counts c.args.self.now c.args.id c.args.number v.0 v.1 row v.2 holds off) e row said in
    let is = kept-is g.row.S s.recency c.join_like.new.region s.registry s.counts c.self-1.given.0 it.0 it.1.held in
    let same = ap (λ (m : Memory). spare_of g.row.S m.region.usages) is ∙ ap (λ (v : View). spare_of g.row.S v.usages) it.1.held.region in let before = ap (λ (v : View). spare_of g.row.S v.usages) n.held.region in
    let after = c.join_like.ensures.statics_spare s.registry s.counts c.args.self.now c.args.id c.args.number v.0 v.1 row v.2 (static-row g.row.S s.recency s.region s.registry s.counts c.args.self.now n c.args.e w a e row said) in
    of-version c.args.self.now c.args.id c.args.number (λ (k : KeptChain) (d : Version). spare_of g.row.S c.args.self.now.region.usages ≤ spare_of g.row.S c.self-1.given.0.0.region.usages + static_size (change.joined_onto d.statics row)) v.0 v.1 v.2.chain v.2.number (omega (arith, same, before, after))
