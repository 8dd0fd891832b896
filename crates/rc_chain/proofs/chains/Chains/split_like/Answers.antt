use Rattle.std.proofs.Common.{◌≡◌, ◌+◌, ◌≤◌, sym, ap, ◌∙◌, subst, arith, Some}
use Rattle.lsa_pool.specs.Room.{spare_of}
use Rattle.lsa_region.specs.Region.{View}
use Rattle.rc_rowcode.specs.Objects.{dummy_size}
use Rattle.rc_core.specs.Change as change
use Rattle.rc_core.specs.Continuity.{with_entries}
use Rattle.rc_core.specs.Version.{Version}
use Rattle.rc_memory.specs.Memory.{KeptChain, Member, Memory, IsMemberObject}
use Rattle.rc_memory.specs.Changes.{IsRenewedWhereNone, IsVersionChanged, KeepsLast, Nowhere, OfVersion, member_at}
use Rattle.rc_memory.specs.laws.One.{kept-is}
use Rattle.rc_memory.specs.laws.Places.{one-place, same_some}
use Rattle.rc_chain.proofs.Changing.{held-version, member-entry, room-like, split-like-here}
use Rattle.rc_chain.proofs.Reading.{at-place, memory-now, version-has}
use Rattle.rc_chain.proofs.chains.Chains.split_like.Goals as goal

pub kind-kind-requires : goal.kind-kind-requires
kind-kind-requires g c =
    (omega arith, version-has c.args.self.now c.args.id c.args.number c.requires.version)

pub split_like-requires : goal.split_like-requires
split_like-requires g c =
    let s = c.self.inside in let n = memory-now g.row.S s.recency s.region s.registry s.counts s.memory c.args.self.now c.self.view_is c.self.invariant.0 c.self.invariant.1 in
    let v = held-version g.row.S s.recency s.region s.registry s.counts c.args.self.now n c.args.id c.args.number c.requires.version c.version-v.result c.version-v.ensures in
    let q = c.requires.entry in let en = member-entry s.recency s.region s.registry s.counts c.args.self.now n.held c.args.e q.0 q.1 q.2 q.3 in
    (omega arith, ((en.entry, en.held, room-like g.row.S s.recency s.region s.registry s.counts c.args.self.now n s.scratch.size c.self.invariant.2 c.args.e q.0 q.1 en (subst (λ (v : View). dummy_size q.1 ≤ spare_of g.row.S v.usages) n.held.region q.4)), (s.registry, s.counts, c.args.self.now, c.args.id, c.args.number, v.0, v.1, v.2)))

pub invariant_of-self-inside : goal.invariant_of-self-inside
invariant_of-self-inside g c =
    let s = c.self.inside in let n = memory-now g.row.S s.recency s.region s.registry s.counts s.memory c.args.self.now c.self.view_is c.self.invariant.0 c.self.invariant.1 in
    let v = held-version g.row.S s.recency s.region s.registry s.counts c.args.self.now n c.args.id c.args.number c.requires.version c.version-v.result c.version-v.ensures in
    let q = c.requires.entry in let en = member-entry s.recency s.region s.registry s.counts c.args.self.now n.held c.args.e q.0 q.1 q.2 q.3 in
    let it = split-like-here g.row.S s.recency s.region s.registry s.counts c.args.self.now n c.args.id c.args.number c.requires.version c.split_like.new.region c.kind-kind.result c.args.e q.0 q.1 en c.split_like.result v.0 v.1 v.2.chain v.2.number (c.kind-kind.ensures v.0 v.2.chain) q.5 (λ y held. c.split_like.ensures.changed s.registry s.counts c.args.self.now c.args.id c.args.number v.0 v.1 y v.2 held) in
    ((it.0, ∣ it.1 ∣₁), tt)

pub invariant_of-self : goal.invariant_of-self
invariant_of-self g c =
    let s = c.self.inside in let n = memory-now g.row.S s.recency s.region s.registry s.counts s.memory c.args.self.now c.self.view_is c.self.invariant.0 c.self.invariant.1 in
    let v = held-version g.row.S s.recency s.region s.registry s.counts c.args.self.now n c.args.id c.args.number c.requires.version c.version-v.result c.version-v.ensures in
    let q = c.requires.entry in let en = member-entry s.recency s.region s.registry s.counts c.args.self.now n.held c.args.e q.0 q.1 q.2 q.3 in
    let it = split-like-here g.row.S s.recency s.region s.registry s.counts c.args.self.now n c.args.id c.args.number c.requires.version c.split_like.new.region c.kind-kind.result c.args.e q.0 q.1 en c.split_like.result v.0 v.1 v.2.chain v.2.number (c.kind-kind.ensures v.0 v.2.chain) q.5 (λ y held. c.split_like.ensures.changed s.registry s.counts c.args.self.now c.args.id c.args.number v.0 v.1 y v.2 held) in
    (it.0, it.1, c.split_like.ensures.size ∙ c.self.invariant.2, c.self.invariant.3, c.self.invariant.4)

pub returns-clause-changed : goal.returns-clause-changed
returns-clause-changed g c =
    λ w x e a. let s = c.self.inside in let n = memory-now g.row.S s.recency s.region s.registry s.counts s.memory c.args.self.now c.self.view_is c.self.invariant.0 c.self.invariant.1 in
    let v = held-version g.row.S s.recency s.region s.registry s.counts c.args.self.now n c.args.id c.args.number c.requires.version c.version-v.result c.version-v.ensures in
    let q = c.requires.entry in let alike : q.1 ≡ x = same_some q.1 x (sym q.2 ∙ ap (λ (y : Member). y.position) (one-place s.recency s.region n.held.well c.args.self.now.standing n.held.listed n.held.stands c.args.e q.0 w (at-place s.recency s.region s.registry s.counts c.args.self.now n.held c.args.e q.0 q.3) (at-place s.recency s.region s.registry s.counts c.args.self.now n.held c.args.e w a)) ∙ e) in
    let en = member-entry s.recency s.region s.registry s.counts c.args.self.now n.held c.args.e w x e a in
    let it = split-like-here g.row.S s.recency s.region s.registry s.counts c.args.self.now n c.args.id c.args.number c.requires.version c.split_like.new.region c.kind-kind.result c.args.e w x en c.split_like.result v.0 v.1 v.2.chain v.2.number (c.kind-kind.ensures v.0 v.2.chain) (subst (λ y. KeepsLast c.args.id c.args.number (λ (d : Version). with_entries (change.gap_split y d.entries) d) c.args.self.now) alike q.5) (λ y held. c.split_like.ensures.changed s.registry s.counts c.args.self.now c.args.id c.args.number v.0 v.1 y v.2 held) in
    let is = kept-is g.row.S s.recency c.split_like.new.region s.registry s.counts c.self-1.given.0 it.0 it.1.held in
    subst (IsVersionChanged c.args.id c.args.number (λ (d : Version). with_entries (change.gap_split x d.entries) d) Nowhere c.args.self.now) (sym is) it.2.changed

pub returns-clause-recency : goal.returns-clause-recency
returns-clause-recency g c =
    λ w x e a. let s = c.self.inside in let n = memory-now g.row.S s.recency s.region s.registry s.counts s.memory c.args.self.now c.self.view_is c.self.invariant.0 c.self.invariant.1 in
    let v = held-version g.row.S s.recency s.region s.registry s.counts c.args.self.now n c.args.id c.args.number c.requires.version c.version-v.result c.version-v.ensures in
    let q = c.requires.entry in let alike : q.1 ≡ x = same_some q.1 x (sym q.2 ∙ ap (λ (y : Member). y.position) (one-place s.recency s.region n.held.well c.args.self.now.standing n.held.listed n.held.stands c.args.e q.0 w (at-place s.recency s.region s.registry s.counts c.args.self.now n.held c.args.e q.0 q.3) (at-place s.recency s.region s.registry s.counts c.args.self.now n.held c.args.e w a)) ∙ e) in
    let en = member-entry s.recency s.region s.registry s.counts c.args.self.now n.held c.args.e w x e a in
    let it = split-like-here g.row.S s.recency s.region s.registry s.counts c.args.self.now n c.args.id c.args.number c.requires.version c.split_like.new.region c.kind-kind.result c.args.e w x en c.split_like.result v.0 v.1 v.2.chain v.2.number (c.kind-kind.ensures v.0 v.2.chain) (subst (λ y. KeepsLast c.args.id c.args.number (λ (d : Version). with_entries (change.gap_split y d.entries) d) c.args.self.now) alike q.5) (λ y held. c.split_like.ensures.changed s.registry s.counts c.args.self.now c.args.id c.args.number v.0 v.1 y v.2 held) in
    let is = kept-is g.row.S s.recency c.split_like.new.region s.registry s.counts c.self-1.given.0 it.0 it.1.held in
    subst (λ (m : Memory). OfVersion c.args.self.now c.args.id c.args.number (λ (k : KeptChain) (v : Version). IsRenewedWhereNone k.chain.kind v (member_at c.args.id c.args.number (Some x)) c.args.self.now.recency m.recency)) (sym is) it.2.recency

pub returns-clause-here : goal.returns-clause-here
returns-clause-here g c =
    λ w x e a. let s = c.self.inside in let n = memory-now g.row.S s.recency s.region s.registry s.counts s.memory c.args.self.now c.self.view_is c.self.invariant.0 c.self.invariant.1 in
    let v = held-version g.row.S s.recency s.region s.registry s.counts c.args.self.now n c.args.id c.args.number c.requires.version c.version-v.result c.version-v.ensures in
    let q = c.requires.entry in let alike : q.1 ≡ x = same_some q.1 x (sym q.2 ∙ ap (λ (y : Member). y.position) (one-place s.recency s.region n.held.well c.args.self.now.standing n.held.listed n.held.stands c.args.e q.0 w (at-place s.recency s.region s.registry s.counts c.args.self.now n.held c.args.e q.0 q.3) (at-place s.recency s.region s.registry s.counts c.args.self.now n.held c.args.e w a)) ∙ e) in
    let en = member-entry s.recency s.region s.registry s.counts c.args.self.now n.held c.args.e w x e a in
    let it = split-like-here g.row.S s.recency s.region s.registry s.counts c.args.self.now n c.args.id c.args.number c.requires.version c.split_like.new.region c.kind-kind.result c.args.e w x en c.split_like.result v.0 v.1 v.2.chain v.2.number (c.kind-kind.ensures v.0 v.2.chain) (subst (λ y. KeepsLast c.args.id c.args.number (λ (d : Version). with_entries (change.gap_split y d.entries) d) c.args.self.now) alike q.5) (λ y held. c.split_like.ensures.changed s.registry s.counts c.args.self.now c.args.id c.args.number v.0 v.1 y v.2 held) in
    let is = kept-is g.row.S s.recency c.split_like.new.region s.registry s.counts c.self-1.given.0 it.0 it.1.held in
    subst (λ (m : Memory). IsMemberObject m c.split_like.result (member_at c.args.id c.args.number (Some x))) (sym is) it.2.here

pub returns-clause-spare : goal.returns-clause-spare
returns-clause-spare g c =
    λ w x e a. let s = c.self.inside in let n = memory-now g.row.S s.recency s.region s.registry s.counts s.memory c.args.self.now c.self.view_is c.self.invariant.0 c.self.invariant.1 in
    let v = held-version g.row.S s.recency s.region s.registry s.counts c.args.self.now n c.args.id c.args.number c.requires.version c.version-v.result c.version-v.ensures in
    let q = c.requires.entry in let alike : q.1 ≡ x = same_some q.1 x (sym q.2 ∙ ap (λ (y : Member). y.position) (one-place s.recency s.region n.held.well c.args.self.now.standing n.held.listed n.held.stands c.args.e q.0 w (at-place s.recency s.region s.registry s.counts c.args.self.now n.held c.args.e q.0 q.3) (at-place s.recency s.region s.registry s.counts c.args.self.now n.held c.args.e w a)) ∙ e) in
    let en = member-entry s.recency s.region s.registry s.counts c.args.self.now n.held c.args.e w x e a in
    let it = split-like-here g.row.S s.recency s.region s.registry s.counts c.args.self.now n c.args.id c.args.number c.requires.version c.split_like.new.region c.kind-kind.result c.args.e w x en c.split_like.result v.0 v.1 v.2.chain v.2.number (c.kind-kind.ensures v.0 v.2.chain) (subst (λ y. KeepsLast c.args.id c.args.number (λ (d : Version). with_entries (change.gap_split y d.entries) d) c.args.self.now) alike q.5) (λ y held. c.split_like.ensures.changed s.registry s.counts c.args.self.now c.args.id c.args.number v.0 v.1 y v.2 held) in
    let is = kept-is g.row.S s.recency c.split_like.new.region s.registry s.counts c.self-1.given.0 it.0 it.1.held in
    let same = ap (λ (m : Memory). spare_of g.row.S m.region.usages) is ∙ ap (λ (v : View). spare_of g.row.S v.usages) it.1.held.region in let before = ap (λ (v : View). spare_of g.row.S v.usages) n.held.region in let after = subst (λ y. spare_of g.row.S s.region.usages ≤ spare_of g.row.S c.split_like.new.region.usages + dummy_size y) en.position (c.split_like.ensures.spare en.entry en.held) in omega (arith, same, before, after)
