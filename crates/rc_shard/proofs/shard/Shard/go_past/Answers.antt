-- A reader goes on past the row cache, at its place; its snapshot of the row cache goes.
use Rattle.std.proofs.Common.{◌≡◌, ℕ, Option, refl, sym, ap, subst, arith}
use Rattle.std.specs.Vec.{with_item}
use Rattle.rc_memory.specs.Memory.{Memory}
use Rattle.rc_chain.specs.declared.chains.Snap.{Snap}
use Rattle.rc_lookup.specs.Memtables.{in_chains}
use Rattle.rc_machine.specs.State.{rest_of}
use Rattle.rc_shard.specs.declared.readers.PartitionReader.{PartitionReader}
use Rattle.rc_shard.specs.declared.shard.Shard.{Shard}
use Rattle.rc_shard.specs.Readers.{IsCachedThere, cached_of, lies_below}
use Rattle.rc_shard.specs.Releasing.{IsSnapGivenBack}
use Rattle.rc_shard.specs.calls.Reading.{IsPastReader}
use Rattle.rc_shard.proofs.GoneOn.{gone-at, past-any}
use Rattle.rc_folder.specs.Tabled.{IsSaidByFirst}
use Rattle.rc_paging.specs.Forms.{held_by}
use Rattle.rc_shard.proofs.Paged.{left-unpaged, paged-beside}
use Rattle.rc_shard.proofs.Places.{place-of, same-there}
use Rattle.rc_shard.proofs.Standing.{lines-same, on-err}
use Rattle.rc_shard.proofs.Taking.{found-at}
use Rattle.rc_shard.proofs.shard.Shard.go_past.Goals as goal

pub go_past-requires : goal.go_past-requires
go_past-requires c =
    let q = c.requires in
    let k = c.args.self.now in
    let d : ℕ × PartitionReader = c.index_mut.result.now in
    let f = found-at _ q.1 k q.2 q.0 c.args.at d q.3 (place-of q.0 k.readers.items c.args.at q.4) (sym c.index_mut.ensures.value) in
    (omega arith, (lies_below q.3.cached.below (cached_of d.1), rest_of f.reader, f.served.left))

pub returns-in_err-snap-clause-err : goal.returns-in_err-snap-clause-err
returns-in_err-snap-clause-err c =
    let q = c.requires in
    let k = c.args.self.now in
    let d : ℕ × PartitionReader = c.index_mut.result.now in
    let x : ℕ × PartitionReader = (d.0, record (d.1) { reader = c.go_past.new.self }) in
    let new : Shard = record k { unstored = in_chains c.go_past.new.chains k.unstored; readers = with_item k.readers c.args.at x } in
    let p = place-of q.0 k.readers.items c.args.at q.4 in
    let same : c.go_past.new.self ≡ d.1.reader = c.in_err-snap.ensures.err in
    let b = paged-beside k new q.0 c.args.at d x p (sym c.index_mut.ensures.value) refl refl refl refl (ap held_by same) (λ past. subst (λ r. IsPastReader r) (sym same) past) (λ past. subst (λ r. IsPastReader r) same past) (ap (λ (n : Memory). in_chains n k.unstored) c.go_past.ensures.chains) refl refl refl refl refl in
    on-err c.from_residual.result _ (left-unpaged _ c.a_reader_stays.ensures k new q.0 c.args.at d p (sym c.index_mut.ensures.value) b same, b)

pub give_back-requires : goal.give_back-requires
give_back-requires c =
    let q = c.requires in
    let k = c.args.self.now in
    let d : ℕ × PartitionReader = c.index_mut.result.now in
    let f = found-at _ q.1 k q.2 q.0 c.args.at d q.3 (place-of q.0 k.readers.items c.args.at q.4) (sym c.index_mut.ensures.value) in
    subst (λ (m : Memory). IsCachedThere m c.in_ok-snap.snap) (sym c.go_past.ensures.chains) (subst (IsCachedThere k.unstored.chains) (sym c.in_ok-snap.ensures.snap) f.served.held.cached)

pub returns-clause-past : goal.returns-clause-past
returns-clause-past c = λ id files m o said s place here by join is fits.
    let k = c.args.self.now in
    let d : ℕ × PartitionReader = c.index_mut.result.now in
    let x : ℕ × PartitionReader = (d.0, record (d.1) { reader = c.go_past.new.self }) in
    let new : Shard = record k { unstored = in_chains c.give_back.new.chains k.unstored; readers = with_item k.readers c.args.at x } in
    let p = place-of id k.readers.items c.args.at place in
    let same : o ≡ d = same-there id k.readers.items c.args.at o d p here (sym c.index_mut.ensures.value) in
    let back : IsSnapGivenBack (cached_of d.1) k.unstored.chains c.give_back.new.chains =
    subst (λ (o : Option Snap). IsSnapGivenBack o k.unstored.chains c.give_back.new.chains) c.in_ok-snap.ensures.snap (subst (λ (n : Memory). IsSnapGivenBack c.in_ok-snap.snap n c.give_back.new.chains) c.go_past.ensures.chains c.give_back.ensures.back) in
    gone-at _ c.a_reader_stays.ensures (λ schema u n writes later. c.what_leaves_the_chains_of_both_leaves_their_writes.ensures.beside 131072 schema u n writes later)
    files k new id c.args.at d x c.args.read said m
    (λ st first memory r below reader read over left opened joins anew. c.what_is_told_anew.ensures st.schema st first memory r below over.sealed over.active reader read
    (record { left = left; slice = over.slice; settled = over.settled; writes = over.written; of_below = over.of_tables; of_sealed = over.of_sealed; of_active = over.of_active; joins = joins; by_first = opened.said; listed = opened.listed; schema_is = refl }) anew)
    (past-any _ c.a_reader_stays.ensures k.unstored.chains (λ y below other left h. h)) p (sym c.index_mut.ensures.value)
    (λ schema below writes later left of_writes of_later stand h. lines-same _ c.a_reader_stays.ensures x.1.reader k.unstored.chains c.go_past.new.chains below _ c.go_past.ensures.chains (c.in_ok-snap.ensures.lines schema below writes later left of_writes of_later stand h))
    c.in_ok-snap.ensures.past c.in_ok-snap.ensures.held refl refl refl back refl refl refl refl refl
    (subst (λ (y : ℕ × PartitionReader). IsSaidByFirst m y.1.tables y.1.key said) same by) join is fits s
