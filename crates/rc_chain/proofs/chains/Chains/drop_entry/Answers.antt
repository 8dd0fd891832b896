use Rattle.std.proofs.Common.{◌≡◌, sym, ap, ◌∙◌, subst, arith, Some}
use Rattle.lsa_pool.specs.Room.{spare_of}
use Rattle.lsa_region.specs.Region.{View}
use Rattle.rc_core.specs.Change as change
use Rattle.rc_core.specs.Continuity.{with_entries}
use Rattle.rc_core.specs.Version.{Version}
use Rattle.rc_memory.specs.Memory.{Member, Memory}
use Rattle.rc_memory.specs.Changes.{AtAlone, IsVersionChanged, IsWithout, member_at}
use Rattle.rc_memory.specs.laws.One.{kept-is}
use Rattle.rc_memory.specs.laws.Places.{one-place, same_some}
use Rattle.rc_chain.proofs.Changing.{dropped-here, held-version, member-version}
use Rattle.rc_chain.proofs.Reading.{at-place, memory-now}
use Rattle.rc_chain.proofs.chains.Chains.drop_entry.Goals as goal

pub version-v-requires : goal.version-v-requires
version-v-requires g c =
    let s = c.self.inside in let n = memory-now g.row.S s.recency s.region s.registry s.counts s.memory c.args.self.now c.self.view_is c.self.invariant.0 c.self.invariant.1 in
    (omega arith, (member-version s.recency s.region s.registry s.counts c.args.self.now n.held c.args.e (member_at c.args.id c.args.number (Some c.requires.0)) c.requires.1))

pub drop_entry-requires : goal.drop_entry-requires
drop_entry-requires g c =
    let s = c.self.inside in let n = memory-now g.row.S s.recency s.region s.registry s.counts s.memory c.args.self.now c.self.view_is c.self.invariant.0 c.self.invariant.1 in
    let q = c.requires in let v = held-version g.row.S s.recency s.region s.registry s.counts c.args.self.now n c.args.id c.args.number (member-version s.recency s.region s.registry s.counts c.args.self.now n.held c.args.e (member_at c.args.id c.args.number (Some q.0)) q.1) c.version-v.result c.version-v.ensures in
    (omega arith, (s.registry, s.counts, c.args.self.now, c.args.id, c.args.number, v.0, v.1, q.0, v.2, q.1, q.2))

pub invariant_of-self-inside : goal.invariant_of-self-inside
invariant_of-self-inside g c =
    let s = c.self.inside in let n = memory-now g.row.S s.recency s.region s.registry s.counts s.memory c.args.self.now c.self.view_is c.self.invariant.0 c.self.invariant.1 in
    let q = c.requires in let v = held-version g.row.S s.recency s.region s.registry s.counts c.args.self.now n c.args.id c.args.number (member-version s.recency s.region s.registry s.counts c.args.self.now n.held c.args.e (member_at c.args.id c.args.number (Some q.0)) q.1) c.version-v.result c.version-v.ensures in
    let it = dropped-here g.row.S s.recency s.region s.registry s.counts c.args.self.now n c.args.id c.args.number (member-version s.recency s.region s.registry s.counts c.args.self.now n.held c.args.e (member_at c.args.id c.args.number (Some q.0)) q.1) c.drop_entry.new.region q.0 q.2 (c.drop_entry.ensures.changed s.registry s.counts c.args.self.now c.args.id c.args.number v.0 v.1 q.0 v.2 q.1) in
    ((it.0, ∣ it.1 ∣₁), tt)

pub invariant_of-self : goal.invariant_of-self
invariant_of-self g c =
    let s = c.self.inside in let n = memory-now g.row.S s.recency s.region s.registry s.counts s.memory c.args.self.now c.self.view_is c.self.invariant.0 c.self.invariant.1 in
    let q = c.requires in let v = held-version g.row.S s.recency s.region s.registry s.counts c.args.self.now n c.args.id c.args.number (member-version s.recency s.region s.registry s.counts c.args.self.now n.held c.args.e (member_at c.args.id c.args.number (Some q.0)) q.1) c.version-v.result c.version-v.ensures in
    let it = dropped-here g.row.S s.recency s.region s.registry s.counts c.args.self.now n c.args.id c.args.number (member-version s.recency s.region s.registry s.counts c.args.self.now n.held c.args.e (member_at c.args.id c.args.number (Some q.0)) q.1) c.drop_entry.new.region q.0 q.2 (c.drop_entry.ensures.changed s.registry s.counts c.args.self.now c.args.id c.args.number v.0 v.1 q.0 v.2 q.1) in
    (it.0, it.1, c.self.invariant.2, c.self.invariant.3, c.self.invariant.4)

pub returns-clause-dropped : goal.returns-clause-dropped
returns-clause-dropped g c =
    λ x a. let s = c.self.inside in let n = memory-now g.row.S s.recency s.region s.registry s.counts s.memory c.args.self.now c.self.view_is c.self.invariant.0 c.self.invariant.1 in
    let q = c.requires in let alike : q.0 ≡ x = same_some q.0 x (ap (λ (y : Member). y.position) (one-place s.recency s.region n.held.well c.args.self.now.standing n.held.listed n.held.stands c.args.e (member_at c.args.id c.args.number (Some q.0)) (member_at c.args.id c.args.number (Some x)) (at-place s.recency s.region s.registry s.counts c.args.self.now n.held c.args.e (member_at c.args.id c.args.number (Some q.0)) q.1) (at-place s.recency s.region s.registry s.counts c.args.self.now n.held c.args.e (member_at c.args.id c.args.number (Some x)) a))) in
    let v = held-version g.row.S s.recency s.region s.registry s.counts c.args.self.now n c.args.id c.args.number (member-version s.recency s.region s.registry s.counts c.args.self.now n.held c.args.e (member_at c.args.id c.args.number (Some x)) a) c.version-v.result c.version-v.ensures in
    let it = dropped-here g.row.S s.recency s.region s.registry s.counts c.args.self.now n c.args.id c.args.number (member-version s.recency s.region s.registry s.counts c.args.self.now n.held c.args.e (member_at c.args.id c.args.number (Some x)) a) c.drop_entry.new.region x (λ e. q.2 (alike ∙ e)) (c.drop_entry.ensures.changed s.registry s.counts c.args.self.now c.args.id c.args.number v.0 v.1 x v.2 a) in
    let is = kept-is g.row.S s.recency c.drop_entry.new.region s.registry s.counts c.self-1.given.0 it.0 it.1.held in
    subst (IsVersionChanged c.args.id c.args.number (λ (d : Version). with_entries (change.drop_at x d.entries) d) (AtAlone (member_at c.args.id c.args.number (Some x))) c.args.self.now) (sym is) it.2.0

pub returns-clause-recency : goal.returns-clause-recency
returns-clause-recency g c =
    λ x a. let s = c.self.inside in let n = memory-now g.row.S s.recency s.region s.registry s.counts s.memory c.args.self.now c.self.view_is c.self.invariant.0 c.self.invariant.1 in
    let q = c.requires in let alike : q.0 ≡ x = same_some q.0 x (ap (λ (y : Member). y.position) (one-place s.recency s.region n.held.well c.args.self.now.standing n.held.listed n.held.stands c.args.e (member_at c.args.id c.args.number (Some q.0)) (member_at c.args.id c.args.number (Some x)) (at-place s.recency s.region s.registry s.counts c.args.self.now n.held c.args.e (member_at c.args.id c.args.number (Some q.0)) q.1) (at-place s.recency s.region s.registry s.counts c.args.self.now n.held c.args.e (member_at c.args.id c.args.number (Some x)) a))) in
    let v = held-version g.row.S s.recency s.region s.registry s.counts c.args.self.now n c.args.id c.args.number (member-version s.recency s.region s.registry s.counts c.args.self.now n.held c.args.e (member_at c.args.id c.args.number (Some x)) a) c.version-v.result c.version-v.ensures in
    let it = dropped-here g.row.S s.recency s.region s.registry s.counts c.args.self.now n c.args.id c.args.number (member-version s.recency s.region s.registry s.counts c.args.self.now n.held c.args.e (member_at c.args.id c.args.number (Some x)) a) c.drop_entry.new.region x (λ e. q.2 (alike ∙ e)) (c.drop_entry.ensures.changed s.registry s.counts c.args.self.now c.args.id c.args.number v.0 v.1 x v.2 a) in
    let is = kept-is g.row.S s.recency c.drop_entry.new.region s.registry s.counts c.self-1.given.0 it.0 it.1.held in
    subst (λ (m : Memory). IsWithout (member_at c.args.id c.args.number (Some x)) c.args.self.now.recency m.recency) (sym is) it.2.1

pub returns-clause-spare : goal.returns-clause-spare
returns-clause-spare g c =
    let s = c.self.inside in let n = memory-now g.row.S s.recency s.region s.registry s.counts s.memory c.args.self.now c.self.view_is c.self.invariant.0 c.self.invariant.1 in
    let q = c.requires in let v = held-version g.row.S s.recency s.region s.registry s.counts c.args.self.now n c.args.id c.args.number (member-version s.recency s.region s.registry s.counts c.args.self.now n.held c.args.e (member_at c.args.id c.args.number (Some q.0)) q.1) c.version-v.result c.version-v.ensures in
    let it = dropped-here g.row.S s.recency s.region s.registry s.counts c.args.self.now n c.args.id c.args.number (member-version s.recency s.region s.registry s.counts c.args.self.now n.held c.args.e (member_at c.args.id c.args.number (Some q.0)) q.1) c.drop_entry.new.region q.0 q.2 (c.drop_entry.ensures.changed s.registry s.counts c.args.self.now c.args.id c.args.number v.0 v.1 q.0 v.2 q.1) in
    let is = kept-is g.row.S s.recency c.drop_entry.new.region s.registry s.counts c.self-1.given.0 it.0 it.1.held in
    ap (λ (m : Memory). spare_of g.row.S m.region.usages) is ∙ ap (λ (v : View). spare_of g.row.S v.usages) it.1.held.region ∙ c.drop_entry.ensures.spare ∙ sym (ap (λ (v : View). spare_of g.row.S v.usages) n.held.region)
