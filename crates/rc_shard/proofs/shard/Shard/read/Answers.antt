-- The reader's place is that of its id; it gives a page, or goes on past the row cache.
use Rattle.std.proofs.Common.{inl, ◌≡◌, ◌==◌, ℕ, List, Some, None, position, refl, sym, ap, ◌∙◌, subst}
use Rattle.rc_memory.specs.declared.counts.Counts.{Counts}
use Rattle.rc_paging.specs.declared.layers.HeldSnaps.{HeldSnaps}
use Rattle.rc_paging.specs.declared.pages.PageErr.TheVariants.{Missing, NoMemory}
use Rattle.rc_lines.specs.declared.commands.Reply.TheVariants.{Given}
use Rattle.rc_machine.specs.Steps.{reader_past}
use Rattle.rc_shard.specs.declared.readers.PartitionReader.{PartitionReader}
use Rattle.rc_shard.specs.Knowing.{IsReadCached}
use Rattle.rc_shard.specs.Losing.{LosesInCrowd}
use Rattle.rc_shard.specs.calls.Reading.{with_reader}
use Rattle.rc_shard.proofs.Given.{counts-after, filled-given, filled-past, given-counts, given-of, is-there, paged-kept, paged-place, past-was, reader-in, stays-behind, stays-given, stops-behind, stops-same, takes-behind, takes-told, there-now, touches-given, touches-past, untold-counts, untold-of}
use Rattle.rc_shard.proofs.Looking.{on-ok-weaker}
use Rattle.rc_shard.proofs.Passing.{passed-given, passed-past}
use Rattle.rc_shard.proofs.Places.{nowhere-of, place-of}
use Rattle.rc_shard.proofs.Rereading.{reader-at, same-some}
use Rattle.rc_shard.proofs.Standing.{if-ok-weaker, on-err-weaker}
use Rattle.rc_shard.proofs.Taking.{takes-no-read, takes-paged}
use Rattle.rc_shard.proofs.shard.Shard.read.Goals as goal

pub page-requires : goal.page-requires
page-requires g c =
    let place = subst (λ (os : List (ℕ × PartitionReader)). position (λ reader. reader.0 == c.args.id) os ≡ Some c.in-Some.at) c.as_slice.ensures.value (sym c.in-Some.ensures) in
    (c.args.id, g.W.Store.files c.args.store.now, c.requires.0, c.requires.1, place)

pub give-requires : goal.give-requires
give-requires g c =
    let files = g.W.Store.files c.args.store.now in
    let place = subst (λ (os : List (ℕ × PartitionReader)). position (λ reader. reader.0 == c.args.id) os ≡ Some c.in-Some.at) c.as_slice.ensures.value (sym c.in-Some.ensures) in
    let p = c.in-Ok.ensures.gives c.args.id files c.requires.0 c.requires.1 place in
    (c.args.id, files, with_reader c.args.id (reader_past c.args.count p.reader) c.requires.0, p.stands, paged-place c.args.self.now c.page.new.self c.args.id c.in-Some.at c.page.ensures.beside place)

pub read_past-requires : goal.read_past-requires
read_past-requires g c =
    let place = subst (λ (os : List (ℕ × PartitionReader)). position (λ reader. reader.0 == c.args.id) os ≡ Some c.in-Some.at) c.as_slice.ensures.value (sym c.in-Some.ensures) in
    (c.args.id, c.requires.0, c.in-Err-Missing.ensures.err (g.W.Store.files c.args.store.now) c.requires.0 c.requires.1, paged-place c.args.self.now c.page.new.self c.args.id c.in-Some.at c.page.ensures.beside place)

pub returns-in-None-clause-step : goal.returns-in-None-clause-step
returns-in-None-clause-step g c =
    takes-no-read _ (g.W.Store.files c.args.store.now) c.args.self.now c.args.id c.args.count (nowhere-of c.args.id c.args.self.now.readers.items (subst (λ (os : List (ℕ × PartitionReader)). position (λ reader. reader.0 == c.args.id) os ≡ None) c.as_slice.ensures.value (sym c.in-None.ensures)))

-- ---- a page was given

pub returns-in-Ok-clause-step : goal.returns-in-Ok-clause-step
returns-in-Ok-clause-step g c =
    let files = g.W.Store.files c.args.store.now in
    let k = c.args.self.now in
    let new = c.give.new.self in
    let place = subst (λ (os : List (ℕ × PartitionReader)). position (λ reader. reader.0 == c.args.id) os ≡ Some c.in-Some.at) c.as_slice.ensures.value (sym c.in-Some.ensures) in
    takes-told _ files files k new c.args.id c.args.count c.give.result (Given c.in-Ok.lines c.in-Ok.more) c.give.ensures.reply refl
    (takes-paged _ files k new c.args.id c.args.count c.in-Ok.lines c.in-Ok.more (λ m s. paged-kept _ files c.args.id c.args.count m (c.in-Ok.lines, c.in-Ok.more) c.page.new.self new c.give.ensures.keeps (c.in-Ok.ensures.gives c.args.id files m s place)))

pub returns-in-Ok-clause-crowds : goal.returns-in-Ok-clause-crowds
returns-in-Ok-clause-crowds g c =
    let k = c.args.self.now in
    let place = subst (λ (os : List (ℕ × PartitionReader)). position (λ reader. reader.0 == c.args.id) os ≡ Some c.in-Some.at) c.as_slice.ensures.value (sym c.in-Some.ensures) in
    let d = reader-in k c.args.id c.in-Some.at place in
    let given = given-of k c.page.new.self c.give.new.self c.args.id c.in-Some.at d c.in-Ok.lines (place-of c.args.id k.readers.items c.in-Some.at place) (is-there k c.args.id c.in-Some.at place) c.page.ensures.beside c.give.ensures.beside (λ o h. c.give.ensures.touches o h) c.give.ensures.left in
    inl (ap (λ (n : Counts). n.evicted) given.counts, ap (λ (n : Counts). n.skipped) given.counts)

pub returns-in-Ok-clause-filled : goal.returns-in-Ok-clause-filled
returns-in-Ok-clause-filled g c =
    let k = c.args.self.now in
    let mid = c.page.new.self in
    let id = c.args.id in
    let at = c.in-Some.at in
    let place = subst (λ (os : List (ℕ × PartitionReader)). position (λ reader. reader.0 == c.args.id) os ≡ Some c.in-Some.at) c.as_slice.ensures.value (sym c.in-Some.ensures) in
    let d = reader-in k id at place in
    let p = place-of id k.readers.items at place in
    let here = is-there k id at place in
    let b = c.page.ensures.beside in
    filled-given id c.args.count at d c.in-Ok.lines c.in-Ok.more c.give.result (g.W.Store.asks c.args.store.now) k c.give.new.self p here c.give.ensures.reply
    (λ past. b.over d here (past-was id at b.reader mid c.give.new.self (place-of id mid.readers.items at (paged-place k mid id at b place)) (there-now k mid id at b.reader p b.readers) c.give.ensures.beside.readers past))

pub returns-in-Ok-clause-passes : goal.returns-in-Ok-clause-passes
returns-in-Ok-clause-passes g c = λ m s.
    let k = c.args.self.now in
    let files = g.W.Store.files c.args.store.now in
    let id = c.args.id in
    let at = c.in-Some.at in
    let place = subst (λ (os : List (ℕ × PartitionReader)). position (λ reader. reader.0 == c.args.id) os ≡ Some c.in-Some.at) c.as_slice.ensures.value (sym c.in-Some.ensures) in
    let d = reader-in k id at place in
    let p = place-of id k.readers.items at place in
    let here = is-there k id at place in
    let given = given-of k c.page.new.self c.give.new.self id at d c.in-Ok.lines p here c.page.ensures.beside c.give.ensures.beside (λ o h. c.give.ensures.touches o h) c.give.ensures.left in
    passed-given id c.args.count at d c.in-Ok.lines c.in-Ok.more c.give.result m k c.give.new.self p here c.give.ensures.reply given
    (λ r entry. c.in-Ok.ensures.passed id files m d r s place here entry)

pub returns-in-Ok-clause-stays : goal.returns-in-Ok-clause-stays
returns-in-Ok-clause-stays g c =
    let k = c.args.self.now in
    let place = subst (λ (os : List (ℕ × PartitionReader)). position (λ reader. reader.0 == c.args.id) os ≡ Some c.in-Some.at) c.as_slice.ensures.value (sym c.in-Some.ensures) in
    let d = reader-in k c.args.id c.in-Some.at place in
    let given = given-of k c.page.new.self c.give.new.self c.args.id c.in-Some.at d c.in-Ok.lines (place-of c.args.id k.readers.items c.in-Some.at place) (is-there k c.args.id c.in-Some.at place) c.page.ensures.beside c.give.ensures.beside (λ o h. c.give.ensures.touches o h) c.give.ensures.left in
    stays-given c.args.id c.args.count d c.in-Ok.lines k c.give.new.self c.requires.1.cached.are c.known.ensures.told given

pub returns-in-Ok-clause-touches : goal.returns-in-Ok-clause-touches
returns-in-Ok-clause-touches g c =
    let k = c.args.self.now in
    let place = subst (λ (os : List (ℕ × PartitionReader)). position (λ reader. reader.0 == c.args.id) os ≡ Some c.in-Some.at) c.as_slice.ensures.value (sym c.in-Some.ensures) in
    let d = reader-in k c.args.id c.in-Some.at place in
    let p = place-of c.args.id k.readers.items c.in-Some.at place in
    let here = is-there k c.args.id c.in-Some.at place in
    let given = given-of k c.page.new.self c.give.new.self c.args.id c.in-Some.at d c.in-Ok.lines p here c.page.ensures.beside c.give.ensures.beside (λ o h. c.give.ensures.touches o h) c.give.ensures.left in
    touches-given c.args.id c.args.count c.in-Some.at d c.in-Ok.lines c.in-Ok.more c.give.result k c.give.new.self p here c.give.ensures.reply given

pub returns-in-Ok-clause-counts : goal.returns-in-Ok-clause-counts
returns-in-Ok-clause-counts g c =
    let k = c.args.self.now in
    let place = subst (λ (os : List (ℕ × PartitionReader)). position (λ reader. reader.0 == c.args.id) os ≡ Some c.in-Some.at) c.as_slice.ensures.value (sym c.in-Some.ensures) in
    let d = reader-in k c.args.id c.in-Some.at place in
    let given = given-of k c.page.new.self c.give.new.self c.args.id c.in-Some.at d c.in-Ok.lines (place-of c.args.id k.readers.items c.in-Some.at place) (is-there k c.args.id c.in-Some.at place) c.page.ensures.beside c.give.ensures.beside (λ o h. c.give.ensures.touches o h) c.give.ensures.left in
    given-counts d c.in-Ok.lines k c.give.new.self given

-- ---- something is missing

pub returns-in-Err-Missing-clause-step : goal.returns-in-Err-Missing-clause-step
returns-in-Err-Missing-clause-step g c =
    let files = g.W.Store.files c.args.store.now in
    let k = c.args.self.now in
    let mid = c.page.new.self in
    let place = subst (λ (os : List (ℕ × PartitionReader)). position (λ reader. reader.0 == c.args.id) os ≡ Some c.in-Some.at) c.as_slice.ensures.value (sym c.in-Some.ensures) in
    if-ok-weaker c.read_past.result _ _ (λ reply t. takes-behind _ files (g.W.Store.files c.read_past.new.store) k mid c.read_past.new.self c.args.id c.args.count reply (c.in-Err-Missing.ensures.err files) t)
    (c.read_past.ensures.step c.args.id (paged-place k mid c.args.id c.in-Some.at c.page.ensures.beside place))

pub returns-in-Err-Missing-clause-err : goal.returns-in-Err-Missing-clause-err
returns-in-Err-Missing-clause-err g c =
    let files = g.W.Store.files c.args.store.now in
    let k = c.args.self.now in
    let mid = c.page.new.self in
    let place = subst (λ (os : List (ℕ × PartitionReader)). position (λ reader. reader.0 == c.args.id) os ≡ Some c.in-Some.at) c.as_slice.ensures.value (sym c.in-Some.ensures) in
    on-err-weaker c.read_past.result _ _ (λ t. stops-behind _ files (g.W.Store.files c.read_past.new.store) k mid c.read_past.new.self c.args.id c.args.count (c.in-Err-Missing.ensures.err files) t)
    (c.read_past.ensures.err c.args.id (paged-place k mid c.args.id c.in-Some.at c.page.ensures.beside place))

pub returns-in-Err-Missing-clause-asks : goal.returns-in-Err-Missing-clause-asks
returns-in-Err-Missing-clause-asks g c = λ m s.
    let k = c.args.self.now in
    let mid = c.page.new.self in
    let place = subst (λ (os : List (ℕ × PartitionReader)). position (λ reader. reader.0 == c.args.id) os ≡ Some c.in-Some.at) c.as_slice.ensures.value (sym c.in-Some.ensures) in
    c.read_past.ensures.asks c.args.id m (paged-place k mid c.args.id c.in-Some.at c.page.ensures.beside place) (c.in-Err-Missing.ensures.err (g.W.Store.files c.args.store.now) m s)

pub returns-in-Err-Missing-clause-known : goal.returns-in-Err-Missing-clause-known
returns-in-Err-Missing-clause-known g c = λ m s o r here entry known.
    let k = c.args.self.now in
    let place = subst (λ (os : List (ℕ × PartitionReader)). position (λ reader. reader.0 == c.args.id) os ≡ Some c.in-Some.at) c.as_slice.ensures.value (sym c.in-Some.ensures) in
    let d = reader-in k c.args.id c.in-Some.at place in
    let there = is-there k c.args.id c.in-Some.at place in
    let reader = same-some o d.1 _ here (reader-at c.args.id c.in-Some.at d k.readers.items (place-of c.args.id k.readers.items c.in-Some.at place) there) in
    let none : Missing ≡ NoMemory = sym c.in-Err-Missing.field-0-is ∙ c.in-Err-Missing.ensures.known c.args.id (g.W.Store.files c.args.store.now) m d r s place there entry (subst (λ x. IsReadCached k c.args.count x r) reader known) in
    absurd (cc)

pub returns-in-Err-Missing-clause-stays : goal.returns-in-Err-Missing-clause-stays
returns-in-Err-Missing-clause-stays g c = on-ok-weaker c.read_past.result _ _ (λ stays. stays-behind c.args.id c.args.count c.args.self.now c.page.new.self c.read_past.new.self (untold-of c.in-Some.at c.args.self.now c.page.new.self c.page.ensures.beside) stays) (c.read_past.ensures.stays c.args.id)

pub returns-in-Err-Missing-clause-touches : goal.returns-in-Err-Missing-clause-touches
returns-in-Err-Missing-clause-touches g c =
    let k = c.args.self.now in
    let mid = c.page.new.self in
    let id = c.args.id in
    let at = c.in-Some.at in
    let place = subst (λ (os : List (ℕ × PartitionReader)). position (λ reader. reader.0 == c.args.id) os ≡ Some c.in-Some.at) c.as_slice.ensures.value (sym c.in-Some.ensures) in
    let now = paged-place k mid id at c.page.ensures.beside place in
    let d = reader-in k id at place in
    let here = is-there k id at place in
    let b = c.page.ensures.beside in
    if-ok-weaker c.read_past.result _ _ (λ reply t. touches-past id c.args.count at d b.reader.1 reply k c.read_past.new.self (place-of id k.readers.items at place) here (b.kept d here).1 t)
    (c.read_past.ensures.touches id now b.reader (there-now k mid id at b.reader (place-of id k.readers.items at place) b.readers))

pub returns-in-Err-Missing-clause-filled : goal.returns-in-Err-Missing-clause-filled
returns-in-Err-Missing-clause-filled g c =
    let k = c.args.self.now in
    let mid = c.page.new.self in
    let id = c.args.id in
    let at = c.in-Some.at in
    let place = subst (λ (os : List (ℕ × PartitionReader)). position (λ reader. reader.0 == c.args.id) os ≡ Some c.in-Some.at) c.as_slice.ensures.value (sym c.in-Some.ensures) in
    let p = place-of id k.readers.items at place in
    let d = reader-in k id at place in
    let here = is-there k id at place in
    let b = c.page.ensures.beside in
    let kept = b.kept d here in
    if-ok-weaker c.read_past.result _ _ (λ reply put. filled-past id c.args.count at d b.reader.1 reply (g.W.Store.asks c.args.store.now) (g.W.Store.asks c.read_past.new.store) k mid c.read_past.new.self p here (untold-of at k mid b) kept.1 kept.2 (ap (λ (h : HeldSnaps). h.cached) kept.3) put)
    (c.read_past.ensures.filled b.reader (there-now k mid id at b.reader p b.readers))

pub returns-in-Err-Missing-clause-crowds : goal.returns-in-Err-Missing-clause-crowds
returns-in-Err-Missing-clause-crowds g c = on-ok-weaker c.read_past.result _ _ (λ l. subst (λ u. LosesInCrowd u.chains c.read_past.new.self.unstored.chains) c.page.ensures.beside.unstored l) c.read_past.ensures.crowds

pub returns-in-Err-Missing-clause-counts : goal.returns-in-Err-Missing-clause-counts
returns-in-Err-Missing-clause-counts g c = counts-after c.args.self.now c.page.new.self c.read_past.new.self (untold-counts c.args.self.now c.page.new.self (untold-of c.in-Some.at c.args.self.now c.page.new.self c.page.ensures.beside)) c.read_past.ensures.counts

-- ---- memory ran out

pub returns-in-Err-NoMemory-clause-err : goal.returns-in-Err-NoMemory-clause-err
returns-in-Err-NoMemory-clause-err g c = let files = g.W.Store.files c.args.store.now in stops-same _ files files c.args.self.now c.page.new.self c.args.id c.args.count refl c.in-Err-NoMemory.ensures.err

pub returns-in-Err-Missing-clause-passes : goal.returns-in-Err-Missing-clause-passes
returns-in-Err-Missing-clause-passes g c = λ m s.
    let k = c.args.self.now in
    let mid = c.page.new.self in
    let id = c.args.id in
    let at = c.in-Some.at in
    let place = subst (λ (os : List (ℕ × PartitionReader)). position (λ reader. reader.0 == c.args.id) os ≡ Some c.in-Some.at) c.as_slice.ensures.value (sym c.in-Some.ensures) in
    let x = c.page.ensures.beside.reader in
    let now = paged-place k mid id at c.page.ensures.beside place in
    let there = there-now k mid id at x (place-of id k.readers.items at place) c.page.ensures.beside.readers in
    if-ok-weaker c.read_past.result _ _ (λ reply t. passed-past id c.args.count x.1 reply m k c.read_past.new.self t) (c.read_past.ensures.touches id now x there)
