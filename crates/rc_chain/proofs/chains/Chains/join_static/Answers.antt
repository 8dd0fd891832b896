use Rattle.std.proofs.Common.{◌+◌, ◌++◌, ◌≤◌, refl, sym, ap, ◌∙◌, subst, arith, None}
use Rattle.lsa_pool.specs.Room.{spare_of}
use Rattle.lsa_region.specs.Region.{View}
use Rattle.rc_rowcode.specs.Objects.{static_size}
use Rattle.rc_rowcode.specs.Space.{Space}
use Rattle.rc_rowcode.specs.Spelling.{row_code}
use Rattle.rc_core.specs.Change as change
use Rattle.rc_core.specs.Steps.{join_flagged_statics}
use Rattle.rc_core.specs.Version.{Version}
use Rattle.rc_object.specs.Objects.{IsRowCode}
use Rattle.rc_memory.specs.Memory.{KeptChain, Memory}
use Rattle.rc_memory.specs.Changes.{AtAlone, IsRenewed, IsVersionChanged, OfVersion, member_at}
use Rattle.rc_memory.specs.laws.One.{kept-is}
use Rattle.rc_chain.proofs.Changing.{flagged-here, held-version, of-version, off-memtable, static-fits, static-inside, version-refs}
use Rattle.rc_chain.proofs.Reading.{memory-now, version-has}
use Rattle.rc_chain.proofs.chains.Chains.join_static.Goals as goal

pub kind-kind-requires : goal.kind-kind-requires
kind-kind-requires g c =
    (omega arith, version-has c.args.self.now c.args.id c.args.number c.requires.version)

pub put_joined-requires : goal.put_joined-requires
put_joined-requires g c =
    let s = c.self.inside in let n = memory-now g.row.S s.recency s.region s.registry s.counts s.memory c.args.self.now c.self.view_is c.self.invariant.0 c.self.invariant.1 in
    let v = held-version g.row.S s.recency s.region s.registry s.counts c.args.self.now n c.args.id c.args.number c.requires.version c.version-v.result c.version-v.ensures in
    let refs = version-refs g.row.S s.recency s.region s.registry s.counts c.args.self.now n c.args.id c.args.number c.requires.version c.version-v.result c.version-v.ensures v.0 v.1 v.2.chain v.2.number in
    let fits = static-fits g.row.S s.recency s.region s.registry s.counts c.args.self.now n c.args.id c.args.number c.requires.version v.0 v.1 v.2.chain v.2.number (join_flagged_statics c.args.row.now c.args.flag) c.args.row.now c.put_row.ensures.coded.ascending refl c.requires.fits in
    (omega arith, (ap (λ (z : Space). z.bytes) c.clear-2.ensures, (refs.0, v.1, c.args.row.now, refs.1, (c.put_row.ensures.coded, c.bytes.ensures.value ∙ ap (λ (z : Space). z.bytes) c.put_row.ensures.value ∙ ap (λ (z : Space). z.bytes ++ row_code c.args.row.now) c.clear.ensures), static-inside g.row.S c.clear-2.new.self.size (change.joined_onto v.1.statics c.args.row.now) (ap (λ (z : Space). z.size) c.clear-2.ensures ∙ c.self.invariant.2) fits)))

pub set_static-requires : goal.set_static-requires
set_static-requires g c =
    let s = c.self.inside in let n = memory-now g.row.S s.recency s.region s.registry s.counts s.memory c.args.self.now c.self.view_is c.self.invariant.0 c.self.invariant.1 in
    let v = held-version g.row.S s.recency s.region s.registry s.counts c.args.self.now n c.args.id c.args.number c.requires.version c.version-v.result c.version-v.ensures in
    let refs = version-refs g.row.S s.recency s.region s.registry s.counts c.args.self.now n c.args.id c.args.number c.requires.version c.version-v.result c.version-v.ensures v.0 v.1 v.2.chain v.2.number in
    let fits = static-fits g.row.S s.recency s.region s.registry s.counts c.args.self.now n c.args.id c.args.number c.requires.version v.0 v.1 v.2.chain v.2.number (join_flagged_statics c.args.row.now c.args.flag) c.args.row.now c.put_row.ensures.coded.ascending refl c.requires.fits in
    let all = c.put_joined.ensures.joined refs.0 v.1 c.args.row.now refs.1 (c.put_row.ensures.coded, c.bytes.ensures.value ∙ ap (λ (z : Space). z.bytes) c.put_row.ensures.value ∙ ap (λ (z : Space). z.bytes ++ row_code c.args.row.now) c.clear.ensures) in let code : IsRowCode c.bytes-2.result.now (change.joined_onto v.1.statics c.args.row.now) = (all.0, c.bytes-2.ensures.value ∙ all.1) in
    let spare = subst (λ (z : View). static_size (change.joined_onto v.1.statics c.args.row.now) ≤ spare_of g.row.S z.usages) n.held.region (c.requires.spare v.0 v.1 v.2.chain v.2.number) in
    (omega arith, (s.registry, s.counts, c.args.self.now, c.args.id, c.args.number, v.0, v.1, (change.joined_onto v.1.statics c.args.row.now), v.2, code, fits, spare))

pub invariant_of-self-inside : goal.invariant_of-self-inside
invariant_of-self-inside g c =
    let s = c.self.inside in let n = memory-now g.row.S s.recency s.region s.registry s.counts s.memory c.args.self.now c.self.view_is c.self.invariant.0 c.self.invariant.1 in
    let v = held-version g.row.S s.recency s.region s.registry s.counts c.args.self.now n c.args.id c.args.number c.requires.version c.version-v.result c.version-v.ensures in
    let refs = version-refs g.row.S s.recency s.region s.registry s.counts c.args.self.now n c.args.id c.args.number c.requires.version c.version-v.result c.version-v.ensures v.0 v.1 v.2.chain v.2.number in
    let all = c.put_joined.ensures.joined refs.0 v.1 c.args.row.now refs.1 (c.put_row.ensures.coded, c.bytes.ensures.value ∙ ap (λ (z : Space). z.bytes) c.put_row.ensures.value ∙ ap (λ (z : Space). z.bytes ++ row_code c.args.row.now) c.clear.ensures) in let code : IsRowCode c.bytes-2.result.now (change.joined_onto v.1.statics c.args.row.now) = (all.0, c.bytes-2.ensures.value ∙ all.1) in
    let it = flagged-here g.row.S s.recency s.region s.registry s.counts c.args.self.now n c.args.id c.args.number c.requires.version c.set_static.new.region c.kind-kind.result v.0 v.1 v.2.chain v.2.number (c.kind-kind.ensures v.0 v.2.chain) c.args.row.now c.args.flag c.requires.fits (c.set_static.ensures.changed s.registry s.counts c.args.self.now c.args.id c.args.number v.0 v.1 (change.joined_onto v.1.statics c.args.row.now) v.2 code (off-memtable g.row.S s.recency s.region s.registry s.counts c.args.self.now n c.args.id c.args.number c.requires.version c.kind-kind.result None v.0 v.2.chain (c.kind-kind.ensures v.0 v.2.chain))) in
    ((it.0, ∣ it.1 ∣₁), tt)

pub invariant_of-self : goal.invariant_of-self
invariant_of-self g c =
    let s = c.self.inside in let n = memory-now g.row.S s.recency s.region s.registry s.counts s.memory c.args.self.now c.self.view_is c.self.invariant.0 c.self.invariant.1 in
    let v = held-version g.row.S s.recency s.region s.registry s.counts c.args.self.now n c.args.id c.args.number c.requires.version c.version-v.result c.version-v.ensures in
    let refs = version-refs g.row.S s.recency s.region s.registry s.counts c.args.self.now n c.args.id c.args.number c.requires.version c.version-v.result c.version-v.ensures v.0 v.1 v.2.chain v.2.number in
    let all = c.put_joined.ensures.joined refs.0 v.1 c.args.row.now refs.1 (c.put_row.ensures.coded, c.bytes.ensures.value ∙ ap (λ (z : Space). z.bytes) c.put_row.ensures.value ∙ ap (λ (z : Space). z.bytes ++ row_code c.args.row.now) c.clear.ensures) in let code : IsRowCode c.bytes-2.result.now (change.joined_onto v.1.statics c.args.row.now) = (all.0, c.bytes-2.ensures.value ∙ all.1) in
    let it = flagged-here g.row.S s.recency s.region s.registry s.counts c.args.self.now n c.args.id c.args.number c.requires.version c.set_static.new.region c.kind-kind.result v.0 v.1 v.2.chain v.2.number (c.kind-kind.ensures v.0 v.2.chain) c.args.row.now c.args.flag c.requires.fits (c.set_static.ensures.changed s.registry s.counts c.args.self.now c.args.id c.args.number v.0 v.1 (change.joined_onto v.1.statics c.args.row.now) v.2 code (off-memtable g.row.S s.recency s.region s.registry s.counts c.args.self.now n c.args.id c.args.number c.requires.version c.kind-kind.result None v.0 v.2.chain (c.kind-kind.ensures v.0 v.2.chain))) in
    (it.0, it.1, c.put_joined.ensures.size ∙ (ap (λ (z : Space). z.size) c.clear-2.ensures ∙ c.self.invariant.2), ap (λ (z : Space). z.size) c.put_row.ensures.value ∙ ap (λ (z : Space). z.size) c.clear.ensures ∙ c.self.invariant.3, c.self.invariant.4)

pub returns-clause-joined : goal.returns-clause-joined
returns-clause-joined g c =
    let s = c.self.inside in let n = memory-now g.row.S s.recency s.region s.registry s.counts s.memory c.args.self.now c.self.view_is c.self.invariant.0 c.self.invariant.1 in
    let v = held-version g.row.S s.recency s.region s.registry s.counts c.args.self.now n c.args.id c.args.number c.requires.version c.version-v.result c.version-v.ensures in
    let refs = version-refs g.row.S s.recency s.region s.registry s.counts c.args.self.now n c.args.id c.args.number c.requires.version c.version-v.result c.version-v.ensures v.0 v.1 v.2.chain v.2.number in
    let all = c.put_joined.ensures.joined refs.0 v.1 c.args.row.now refs.1 (c.put_row.ensures.coded, c.bytes.ensures.value ∙ ap (λ (z : Space). z.bytes) c.put_row.ensures.value ∙ ap (λ (z : Space). z.bytes ++ row_code c.args.row.now) c.clear.ensures) in let code : IsRowCode c.bytes-2.result.now (change.joined_onto v.1.statics c.args.row.now) = (all.0, c.bytes-2.ensures.value ∙ all.1) in
    let it = flagged-here g.row.S s.recency s.region s.registry s.counts c.args.self.now n c.args.id c.args.number c.requires.version c.set_static.new.region c.kind-kind.result v.0 v.1 v.2.chain v.2.number (c.kind-kind.ensures v.0 v.2.chain) c.args.row.now c.args.flag c.requires.fits (c.set_static.ensures.changed s.registry s.counts c.args.self.now c.args.id c.args.number v.0 v.1 (change.joined_onto v.1.statics c.args.row.now) v.2 code (off-memtable g.row.S s.recency s.region s.registry s.counts c.args.self.now n c.args.id c.args.number c.requires.version c.kind-kind.result None v.0 v.2.chain (c.kind-kind.ensures v.0 v.2.chain))) in
    let is = kept-is g.row.S s.recency c.set_static.new.region s.registry s.counts c.self-1.given.0 it.0 it.1.held in
    subst (IsVersionChanged c.args.id c.args.number (join_flagged_statics c.args.row.now c.args.flag) (AtAlone (member_at c.args.id c.args.number None)) c.args.self.now) (sym is) it.2.changed

pub returns-clause-recency : goal.returns-clause-recency
returns-clause-recency g c =
    let s = c.self.inside in let n = memory-now g.row.S s.recency s.region s.registry s.counts s.memory c.args.self.now c.self.view_is c.self.invariant.0 c.self.invariant.1 in
    let v = held-version g.row.S s.recency s.region s.registry s.counts c.args.self.now n c.args.id c.args.number c.requires.version c.version-v.result c.version-v.ensures in
    let refs = version-refs g.row.S s.recency s.region s.registry s.counts c.args.self.now n c.args.id c.args.number c.requires.version c.version-v.result c.version-v.ensures v.0 v.1 v.2.chain v.2.number in
    let all = c.put_joined.ensures.joined refs.0 v.1 c.args.row.now refs.1 (c.put_row.ensures.coded, c.bytes.ensures.value ∙ ap (λ (z : Space). z.bytes) c.put_row.ensures.value ∙ ap (λ (z : Space). z.bytes ++ row_code c.args.row.now) c.clear.ensures) in let code : IsRowCode c.bytes-2.result.now (change.joined_onto v.1.statics c.args.row.now) = (all.0, c.bytes-2.ensures.value ∙ all.1) in
    let it = flagged-here g.row.S s.recency s.region s.registry s.counts c.args.self.now n c.args.id c.args.number c.requires.version c.set_static.new.region c.kind-kind.result v.0 v.1 v.2.chain v.2.number (c.kind-kind.ensures v.0 v.2.chain) c.args.row.now c.args.flag c.requires.fits (c.set_static.ensures.changed s.registry s.counts c.args.self.now c.args.id c.args.number v.0 v.1 (change.joined_onto v.1.statics c.args.row.now) v.2 code (off-memtable g.row.S s.recency s.region s.registry s.counts c.args.self.now n c.args.id c.args.number c.requires.version c.kind-kind.result None v.0 v.2.chain (c.kind-kind.ensures v.0 v.2.chain))) in
    let is = kept-is g.row.S s.recency c.set_static.new.region s.registry s.counts c.self-1.given.0 it.0 it.1.held in
    subst (λ (m : Memory). OfVersion c.args.self.now c.args.id c.args.number (λ (k : KeptChain) (v : Version). IsRenewed k.chain.kind (member_at c.args.id c.args.number None) c.args.self.now.recency m.recency)) (sym is) it.2.recency

pub returns-clause-spare : goal.returns-clause-spare
returns-clause-spare g c =
    let s = c.self.inside in let n = memory-now g.row.S s.recency s.region s.registry s.counts s.memory c.args.self.now c.self.view_is c.self.invariant.0 c.self.invariant.1 in
    let v = held-version g.row.S s.recency s.region s.registry s.counts c.args.self.now n c.args.id c.args.number c.requires.version c.version-v.result c.version-v.ensures in
    let refs = version-refs g.row.S s.recency s.region s.registry s.counts c.args.self.now n c.args.id c.args.number c.requires.version c.version-v.result c.version-v.ensures v.0 v.1 v.2.chain v.2.number in
    let all = c.put_joined.ensures.joined refs.0 v.1 c.args.row.now refs.1 (c.put_row.ensures.coded, c.bytes.ensures.value ∙ ap (λ (z : Space). z.bytes) c.put_row.ensures.value ∙ ap (λ (z : Space). z.bytes ++ row_code c.args.row.now) c.clear.ensures) in let code : IsRowCode c.bytes-2.result.now (change.joined_onto v.1.statics c.args.row.now) = (all.0, c.bytes-2.ensures.value ∙ all.1) in
    let it = flagged-here g.row.S s.recency s.region s.registry s.counts c.args.self.now n c.args.id c.args.number c.requires.version c.set_static.new.region c.kind-kind.result v.0 v.1 v.2.chain v.2.number (c.kind-kind.ensures v.0 v.2.chain) c.args.row.now c.args.flag c.requires.fits (c.set_static.ensures.changed s.registry s.counts c.args.self.now c.args.id c.args.number v.0 v.1 (change.joined_onto v.1.statics c.args.row.now) v.2 code (off-memtable g.row.S s.recency s.region s.registry s.counts c.args.self.now n c.args.id c.args.number c.requires.version c.kind-kind.result None v.0 v.2.chain (c.kind-kind.ensures v.0 v.2.chain))) in
    let is = kept-is g.row.S s.recency c.set_static.new.region s.registry s.counts c.self-1.given.0 it.0 it.1.held in
    let same = ap (λ (m : Memory). spare_of g.row.S m.region.usages) is ∙ ap (λ (v : View). spare_of g.row.S v.usages) it.1.held.region in let before = ap (λ (v : View). spare_of g.row.S v.usages) n.held.region in let after = c.set_static.ensures.spare (change.joined_onto v.1.statics c.args.row.now) code in
    of-version c.args.self.now c.args.id c.args.number (λ (k : KeptChain) (d : Version). spare_of g.row.S c.args.self.now.region.usages ≤ spare_of g.row.S c.self-1.given.0.0.region.usages + static_size (change.joined_onto d.statics c.args.row.now)) v.0 v.1 v.2.chain v.2.number (omega (arith, same, before, after))
