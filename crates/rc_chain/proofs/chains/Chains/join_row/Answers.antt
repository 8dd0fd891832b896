use Rattle.std.proofs.Common.{◌+◌, ◌++◌, ◌≤◌, sym, ap, ◌∙◌, subst, arith, Some}
use Rattle.lsa_pool.specs.Room.{spare_of}
use Rattle.lsa_region.specs.Region.{View}
use Rattle.rc_position.specs.Position.{row_pos}
use Rattle.rc_rowcode.specs.Space.{Space}
use Rattle.rc_rowcode.specs.Spelling.{row_code}
use Rattle.rc_core.specs.Steps.{row_joined}
use Rattle.rc_core.specs.Version.{Version}
use Rattle.rc_version.specs.Versions.{joined_bytes}
use Rattle.rc_memory.specs.Memory.{KeptChain, Memory, IsMemberObject}
use Rattle.rc_memory.specs.Changes.{AtAlone, IsRenewed, IsVersionChanged, OfVersion, member_at}
use Rattle.rc_memory.specs.laws.One.{kept-is}
use Rattle.rc_chain.proofs.Changing.{held-version, joined-here, of-version, off-memtable, room-joined, row-inner}
use Rattle.rc_chain.proofs.Reading.{memory-now, version-has}
use Rattle.rc_chain.proofs.chains.Chains.join_row.Goals as goal

pub kind-kind-requires : goal.kind-kind-requires
kind-kind-requires g c =
    (omega arith, version-has c.args.self.now c.args.id c.args.number c.requires.version)

pub join_row-requires : goal.join_row-requires
join_row-requires g c =
    let s = c.self.inside in let n = memory-now g.row.S s.recency s.region s.registry s.counts s.memory c.args.self.now c.self.view_is c.self.invariant.0 c.self.invariant.1 in
    let v = held-version g.row.S s.recency s.region s.registry s.counts c.args.self.now n c.args.id c.args.number c.requires.version c.version-v.result c.version-v.ensures in
    let spare = subst (λ (z : View). joined_bytes (row_pos c.args.key.now) c.args.row.now v.1 ≤ spare_of g.row.S z.usages) n.held.region (c.requires.spare v.0 v.1 v.2.chain v.2.number) in
    (omega arith, (c.requires.key, (s.registry, s.counts, c.args.self.now, c.args.id, c.args.number, v.0, v.1, c.args.row.now, v.2, (c.put_row.ensures.coded, c.bytes.ensures.value ∙ ap (λ (z : Space). z.bytes) c.put_row.ensures.value ∙ ap (λ (z : Space). z.bytes ++ row_code c.args.row.now) c.clear.ensures), room-joined g.row.S s.recency s.region s.registry s.counts c.args.self.now n c.args.id c.args.number c.requires.version v.0 v.1 v.2.chain v.2.number s.scratch.size c.self.invariant.2 (row_pos c.args.key.now) c.args.row.now c.put_row.ensures.coded.ascending c.requires.fits spare)))

pub invariant_of-self-inside : goal.invariant_of-self-inside
invariant_of-self-inside g c =
    let s = c.self.inside in let n = memory-now g.row.S s.recency s.region s.registry s.counts s.memory c.args.self.now c.self.view_is c.self.invariant.0 c.self.invariant.1 in
    let v = held-version g.row.S s.recency s.region s.registry s.counts c.args.self.now n c.args.id c.args.number c.requires.version c.version-v.result c.version-v.ensures in
    let it = joined-here g.row.S s.recency s.region s.registry s.counts c.args.self.now n c.args.id c.args.number c.requires.version c.join_row.new.region c.kind-kind.result v.0 v.1 v.2.chain v.2.number (c.kind-kind.ensures v.0 v.2.chain) (row_pos c.args.key.now) c.args.row.now c.join_row.result (row-inner c.args.key.now) c.requires.fits c.requires.last (c.join_row.ensures.changed s.registry s.counts c.args.self.now c.args.id c.args.number v.0 v.1 c.args.row.now v.2 (c.put_row.ensures.coded, c.bytes.ensures.value ∙ ap (λ (z : Space). z.bytes) c.put_row.ensures.value ∙ ap (λ (z : Space). z.bytes ++ row_code c.args.row.now) c.clear.ensures) (off-memtable g.row.S s.recency s.region s.registry s.counts c.args.self.now n c.args.id c.args.number c.requires.version c.kind-kind.result (Some (row_pos c.args.key.now)) v.0 v.2.chain (c.kind-kind.ensures v.0 v.2.chain))) in
    ((it.0, ∣ it.1 ∣₁), tt)

pub invariant_of-self : goal.invariant_of-self
invariant_of-self g c =
    let s = c.self.inside in let n = memory-now g.row.S s.recency s.region s.registry s.counts s.memory c.args.self.now c.self.view_is c.self.invariant.0 c.self.invariant.1 in
    let v = held-version g.row.S s.recency s.region s.registry s.counts c.args.self.now n c.args.id c.args.number c.requires.version c.version-v.result c.version-v.ensures in
    let it = joined-here g.row.S s.recency s.region s.registry s.counts c.args.self.now n c.args.id c.args.number c.requires.version c.join_row.new.region c.kind-kind.result v.0 v.1 v.2.chain v.2.number (c.kind-kind.ensures v.0 v.2.chain) (row_pos c.args.key.now) c.args.row.now c.join_row.result (row-inner c.args.key.now) c.requires.fits c.requires.last (c.join_row.ensures.changed s.registry s.counts c.args.self.now c.args.id c.args.number v.0 v.1 c.args.row.now v.2 (c.put_row.ensures.coded, c.bytes.ensures.value ∙ ap (λ (z : Space). z.bytes) c.put_row.ensures.value ∙ ap (λ (z : Space). z.bytes ++ row_code c.args.row.now) c.clear.ensures) (off-memtable g.row.S s.recency s.region s.registry s.counts c.args.self.now n c.args.id c.args.number c.requires.version c.kind-kind.result (Some (row_pos c.args.key.now)) v.0 v.2.chain (c.kind-kind.ensures v.0 v.2.chain))) in
    (it.0, it.1, c.join_row.ensures.size ∙ c.self.invariant.2, ap (λ (z : Space). z.size) c.put_row.ensures.value ∙ ap (λ (z : Space). z.size) c.clear.ensures ∙ c.self.invariant.3, c.self.invariant.4)

pub returns-clause-joined : goal.returns-clause-joined
returns-clause-joined g c =
    let s = c.self.inside in let n = memory-now g.row.S s.recency s.region s.registry s.counts s.memory c.args.self.now c.self.view_is c.self.invariant.0 c.self.invariant.1 in
    let v = held-version g.row.S s.recency s.region s.registry s.counts c.args.self.now n c.args.id c.args.number c.requires.version c.version-v.result c.version-v.ensures in
    let it = joined-here g.row.S s.recency s.region s.registry s.counts c.args.self.now n c.args.id c.args.number c.requires.version c.join_row.new.region c.kind-kind.result v.0 v.1 v.2.chain v.2.number (c.kind-kind.ensures v.0 v.2.chain) (row_pos c.args.key.now) c.args.row.now c.join_row.result (row-inner c.args.key.now) c.requires.fits c.requires.last (c.join_row.ensures.changed s.registry s.counts c.args.self.now c.args.id c.args.number v.0 v.1 c.args.row.now v.2 (c.put_row.ensures.coded, c.bytes.ensures.value ∙ ap (λ (z : Space). z.bytes) c.put_row.ensures.value ∙ ap (λ (z : Space). z.bytes ++ row_code c.args.row.now) c.clear.ensures) (off-memtable g.row.S s.recency s.region s.registry s.counts c.args.self.now n c.args.id c.args.number c.requires.version c.kind-kind.result (Some (row_pos c.args.key.now)) v.0 v.2.chain (c.kind-kind.ensures v.0 v.2.chain))) in
    let is = kept-is g.row.S s.recency c.join_row.new.region s.registry s.counts c.self-1.given.0 it.0 it.1.held in
    subst (IsVersionChanged c.args.id c.args.number (row_joined (row_pos c.args.key.now) c.args.row.now) (AtAlone (member_at c.args.id c.args.number (Some (row_pos c.args.key.now)))) c.args.self.now) (sym is) it.2.0.changed

pub returns-clause-recency : goal.returns-clause-recency
returns-clause-recency g c =
    let s = c.self.inside in let n = memory-now g.row.S s.recency s.region s.registry s.counts s.memory c.args.self.now c.self.view_is c.self.invariant.0 c.self.invariant.1 in
    let v = held-version g.row.S s.recency s.region s.registry s.counts c.args.self.now n c.args.id c.args.number c.requires.version c.version-v.result c.version-v.ensures in
    let it = joined-here g.row.S s.recency s.region s.registry s.counts c.args.self.now n c.args.id c.args.number c.requires.version c.join_row.new.region c.kind-kind.result v.0 v.1 v.2.chain v.2.number (c.kind-kind.ensures v.0 v.2.chain) (row_pos c.args.key.now) c.args.row.now c.join_row.result (row-inner c.args.key.now) c.requires.fits c.requires.last (c.join_row.ensures.changed s.registry s.counts c.args.self.now c.args.id c.args.number v.0 v.1 c.args.row.now v.2 (c.put_row.ensures.coded, c.bytes.ensures.value ∙ ap (λ (z : Space). z.bytes) c.put_row.ensures.value ∙ ap (λ (z : Space). z.bytes ++ row_code c.args.row.now) c.clear.ensures) (off-memtable g.row.S s.recency s.region s.registry s.counts c.args.self.now n c.args.id c.args.number c.requires.version c.kind-kind.result (Some (row_pos c.args.key.now)) v.0 v.2.chain (c.kind-kind.ensures v.0 v.2.chain))) in
    let is = kept-is g.row.S s.recency c.join_row.new.region s.registry s.counts c.self-1.given.0 it.0 it.1.held in
    subst (λ (m : Memory). OfVersion c.args.self.now c.args.id c.args.number (λ (k : KeptChain) (v : Version). IsRenewed k.chain.kind (member_at c.args.id c.args.number (Some (row_pos c.args.key.now))) c.args.self.now.recency m.recency)) (sym is) it.2.0.recency

pub returns-clause-here : goal.returns-clause-here
returns-clause-here g c =
    let s = c.self.inside in let n = memory-now g.row.S s.recency s.region s.registry s.counts s.memory c.args.self.now c.self.view_is c.self.invariant.0 c.self.invariant.1 in
    let v = held-version g.row.S s.recency s.region s.registry s.counts c.args.self.now n c.args.id c.args.number c.requires.version c.version-v.result c.version-v.ensures in
    let it = joined-here g.row.S s.recency s.region s.registry s.counts c.args.self.now n c.args.id c.args.number c.requires.version c.join_row.new.region c.kind-kind.result v.0 v.1 v.2.chain v.2.number (c.kind-kind.ensures v.0 v.2.chain) (row_pos c.args.key.now) c.args.row.now c.join_row.result (row-inner c.args.key.now) c.requires.fits c.requires.last (c.join_row.ensures.changed s.registry s.counts c.args.self.now c.args.id c.args.number v.0 v.1 c.args.row.now v.2 (c.put_row.ensures.coded, c.bytes.ensures.value ∙ ap (λ (z : Space). z.bytes) c.put_row.ensures.value ∙ ap (λ (z : Space). z.bytes ++ row_code c.args.row.now) c.clear.ensures) (off-memtable g.row.S s.recency s.region s.registry s.counts c.args.self.now n c.args.id c.args.number c.requires.version c.kind-kind.result (Some (row_pos c.args.key.now)) v.0 v.2.chain (c.kind-kind.ensures v.0 v.2.chain))) in
    let is = kept-is g.row.S s.recency c.join_row.new.region s.registry s.counts c.self-1.given.0 it.0 it.1.held in
    subst (λ (m : Memory). IsMemberObject m c.join_row.result (member_at c.args.id c.args.number (Some (row_pos c.args.key.now)))) (sym is) it.2.1

pub returns-clause-spare : goal.returns-clause-spare
returns-clause-spare g c =
    let s = c.self.inside in let n = memory-now g.row.S s.recency s.region s.registry s.counts s.memory c.args.self.now c.self.view_is c.self.invariant.0 c.self.invariant.1 in
    let v = held-version g.row.S s.recency s.region s.registry s.counts c.args.self.now n c.args.id c.args.number c.requires.version c.version-v.result c.version-v.ensures in
    let it = joined-here g.row.S s.recency s.region s.registry s.counts c.args.self.now n c.args.id c.args.number c.requires.version c.join_row.new.region c.kind-kind.result v.0 v.1 v.2.chain v.2.number (c.kind-kind.ensures v.0 v.2.chain) (row_pos c.args.key.now) c.args.row.now c.join_row.result (row-inner c.args.key.now) c.requires.fits c.requires.last (c.join_row.ensures.changed s.registry s.counts c.args.self.now c.args.id c.args.number v.0 v.1 c.args.row.now v.2 (c.put_row.ensures.coded, c.bytes.ensures.value ∙ ap (λ (z : Space). z.bytes) c.put_row.ensures.value ∙ ap (λ (z : Space). z.bytes ++ row_code c.args.row.now) c.clear.ensures) (off-memtable g.row.S s.recency s.region s.registry s.counts c.args.self.now n c.args.id c.args.number c.requires.version c.kind-kind.result (Some (row_pos c.args.key.now)) v.0 v.2.chain (c.kind-kind.ensures v.0 v.2.chain))) in
    let is = kept-is g.row.S s.recency c.join_row.new.region s.registry s.counts c.self-1.given.0 it.0 it.1.held in
    let same = ap (λ (m : Memory). spare_of g.row.S m.region.usages) is ∙ ap (λ (v : View). spare_of g.row.S v.usages) it.1.held.region in let before = ap (λ (v : View). spare_of g.row.S v.usages) n.held.region in let after = c.join_row.ensures.spare s.registry s.counts c.args.self.now c.args.id c.args.number v.0 v.1 c.args.row.now v.2 (c.put_row.ensures.coded, c.bytes.ensures.value ∙ ap (λ (z : Space). z.bytes) c.put_row.ensures.value ∙ ap (λ (z : Space). z.bytes ++ row_code c.args.row.now) c.clear.ensures) in
    of-version c.args.self.now c.args.id c.args.number (λ (k : KeptChain) (d : Version). spare_of g.row.S c.args.self.now.region.usages ≤ spare_of g.row.S c.self-1.given.0.0.region.usages + joined_bytes (row_pos c.args.key.now) c.args.row.now d) v.0 v.1 v.2.chain v.2.number (omega (arith, same, before, after))
