-- A reader gives a page: nothing is handed in, so the chains are as they were.
use Rattle.std.proofs.Common.{◌≡◌, ℕ, refl, sym, ap, subst, arith}
use Rattle.std.specs.Prelude.{OnOk}
use Rattle.std.specs.Vec.{with_item}
use Rattle.rc_memory.specs.Memory.{Memory}
use Rattle.rc_lookup.specs.Memtables.{in_chains}
use Rattle.rc_machine.specs.State.{Reader, rest_of}
use Rattle.rc_shard.specs.declared.readers.PartitionReader.{PartitionReader}
use Rattle.rc_shard.specs.declared.shard.Shard.{Shard}
use Rattle.rc_shard.specs.Knowing.{IsReadCached}
use Rattle.rc_shard.specs.Readers.{cached_of, lies_below}
use Rattle.rc_shard.proofs.Paged.{form-back, form-kept, if-paged, on-unpaged, paged-beside}
use Rattle.rc_shard.proofs.Places.{place-of}
use Rattle.rc_shard.proofs.Rereading.{reader-at, same-some}
use Rattle.rc_shard.proofs.Standing.{lines-same}
use Rattle.rc_shard.proofs.Taking.{found-at}
use Rattle.rc_shard.proofs.shard.Shard.page.Goals as goal

pub read-requires : goal.read-requires
read-requires c =
    let q = c.requires in
    let k = c.args.self.now in
    let d : ℕ × PartitionReader = c.index_mut.result.now in
    let f = found-at _ q.1 k q.2 q.0 c.args.at d q.3 (place-of q.0 k.readers.items c.args.at q.4) (sym c.index_mut.ensures.value) in
    (omega arith, (lies_below q.3.cached.below (cached_of d.1), rest_of f.reader, f.served.left, tt))

pub returns-clause-gives : goal.returns-clause-gives
returns-clause-gives c = λ id files m s place.
    let k = c.args.self.now in
    let d : ℕ × PartitionReader = c.index_mut.result.now in
    let x : ℕ × PartitionReader = (d.0, record (d.1) { reader = c.read.new.self }) in
    let new : Shard = record k { unstored = in_chains c.read.new.chains k.unstored; readers = with_item k.readers c.args.at x } in
    let p = place-of id k.readers.items c.args.at place in
    let same : c.read.new.chains ≡ k.unstored.chains = c.read.ensures.unread refl in
    let b = paged-beside k new id c.args.at d x p (sym c.index_mut.ensures.value) refl refl refl refl c.read.ensures.held (form-kept c.read.result d.1.reader x.1.reader c.read.ensures.goes) (form-back c.read.result d.1.reader x.1.reader c.read.ensures.goes) (ap (λ (n : Memory). in_chains n k.unstored) same) refl refl refl refl refl in
    if-paged _ c.a_reader_stays.ensures k new id c.args.at c.args.count d p (sym c.index_mut.ensures.value) b c.read.ensures.of c.read.result files m c.read.ensures.goes (λ below ls h. c.read.ensures.gives below ls h tt) (λ below ls h. c.read.ensures.more below ls h tt)
    (λ below ls h. lines-same _ c.a_reader_stays.ensures x.1.reader k.unstored.chains c.read.new.chains below _ same (c.read.ensures.left below ls h tt)) s

pub returns-clause-err : goal.returns-clause-err
returns-clause-err c =
    let q = c.requires in
    let k = c.args.self.now in
    let d : ℕ × PartitionReader = c.index_mut.result.now in
    let x : ℕ × PartitionReader = (d.0, record (d.1) { reader = c.read.new.self }) in
    let new : Shard = record k { unstored = in_chains c.read.new.chains k.unstored; readers = with_item k.readers c.args.at x } in
    let p = place-of q.0 k.readers.items c.args.at q.4 in
    let same : c.read.new.chains ≡ k.unstored.chains = c.read.ensures.unread refl in
    let b = paged-beside k new q.0 c.args.at d x p (sym c.index_mut.ensures.value) refl refl refl refl c.read.ensures.held (form-kept c.read.result d.1.reader x.1.reader c.read.ensures.goes) (form-back c.read.result d.1.reader x.1.reader c.read.ensures.goes) (ap (λ (n : Memory). in_chains n k.unstored) same) refl refl refl refl refl in
    on-unpaged _ c.a_reader_stays.ensures k new q.0 c.args.at c.args.count d p (sym c.index_mut.ensures.value) b c.read.ensures.of c.read.result c.read.ensures.goes
    (λ below ls h. lines-same _ c.a_reader_stays.ensures x.1.reader k.unstored.chains c.read.new.chains below _ same (c.read.ensures.left below ls h tt))

pub returns-clause-beside : goal.returns-clause-beside
returns-clause-beside c =
    let q = c.requires in
    let k = c.args.self.now in
    let d : ℕ × PartitionReader = c.index_mut.result.now in
    let x : ℕ × PartitionReader = (d.0, record (d.1) { reader = c.read.new.self }) in
    let new : Shard = record k { unstored = in_chains c.read.new.chains k.unstored; readers = with_item k.readers c.args.at x } in
    paged-beside k new q.0 c.args.at d x (place-of q.0 k.readers.items c.args.at q.4) (sym c.index_mut.ensures.value) refl refl refl refl c.read.ensures.held (form-kept c.read.result d.1.reader x.1.reader c.read.ensures.goes) (form-back c.read.result d.1.reader x.1.reader c.read.ensures.goes) (ap (λ (n : Memory). in_chains n k.unstored) (c.read.ensures.unread refl)) refl refl refl refl refl

pub returns-clause-known : goal.returns-clause-known
returns-clause-known c = λ id files m o r s place here entry known.
    let k = c.args.self.now in
    let d : ℕ × PartitionReader = c.index_mut.result.now in
    let p = place-of id k.readers.items c.args.at place in
    let there = sym c.index_mut.ensures.value in
    let f = found-at _ files k m id c.args.at d s p there in
    let reader = same-some o.1 d.1 _ (reader-at id c.args.at o k.readers.items p here) (reader-at id c.args.at d k.readers.items p there) in
    let machine = same-some r f.reader _ entry f.found in
    c.read.ensures.known (lies_below s.cached.below (cached_of d.1)) (rest_of f.reader) f.served.left tt (subst (λ (q : PartitionReader × Reader). IsReadCached k c.args.count q.0 q.1) (λ i. (reader i, machine i)) known)

pub returns-clause-passed : goal.returns-clause-passed
returns-clause-passed c = λ id files m o r s place here entry.
    let k = c.args.self.now in
    let d : ℕ × PartitionReader = c.index_mut.result.now in
    let p = place-of id k.readers.items c.args.at place in
    let there = sym c.index_mut.ensures.value in
    let f = found-at _ files k m id c.args.at d s p there in
    let reader = same-some o.1 d.1 _ (reader-at id c.args.at o k.readers.items p here) (reader-at id c.args.at d k.readers.items p there) in
    let machine = same-some r f.reader _ entry f.found in
    subst (λ (q : PartitionReader × Reader). OnOk c.read.result (IsReadCached k c.args.count q.0 q.1)) (λ i. (sym reader i, sym machine i)) (c.read.ensures.passed (lies_below s.cached.below (cached_of d.1)) (rest_of f.reader) f.served.left tt refl)
