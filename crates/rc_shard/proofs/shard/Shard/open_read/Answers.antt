-- A reader is opened, where its id is not open and fewer are than may be, and what the tables say is known or can be read.
use Rattle.std.proofs.Common.{inl, inr, refl, ◌≡◌, ◌==◌, ◌<◌, ◌≤◌, ℕ, List, Option, None, Err, IfOk, length, position, sym, ap, ◌∙◌, subst, arith}
use Rattle.rc_chain.specs.declared.chains.Snap.{Snap}
use Rattle.rc_shard.specs.declared.readers.Opening.{Opening}
use Rattle.rc_shard.specs.declared.readers.PartitionReader.{PartitionReader}
use Rattle.rc_shard.specs.declared.readers.Source.{Source}
use Rattle.rc_machine.specs.Steps.{most_readers}
use Rattle.rc_lookup.specs.Crowds.{loses-before}
use Rattle.rc_shard.proofs.Losing.{crowded-since}
use Rattle.rc_shard.proofs.Counted.{counts-itself, counts-reserved}
use Rattle.rc_shard.proofs.Looking.{counts-behind, counts-used, lost-within, no-count, on-ok, on-ok-weaker, rest-of, skipped-within}
use Rattle.rc_shard.specs.Readers.{number_of_snaps}
use Rattle.rc_shard.specs.Using.{LeavesBeside}
use Rattle.rc_shard.specs.calls.Looking.{AreKnownStill, IsSourceIn, UnlessMemory, source_taken}
use Rattle.rc_shard.specs.calls.Opened.{IsReaderPinned}
use Rattle.rc_shard.proofs.Known.{known-itself, known-reserved, on-opened, on-unread, unless-weaker}
use Rattle.rc_shard.proofs.Opening.{opened-by}
use Rattle.rc_shard.proofs.Pinned.{filled-opened, filled-unread, recent-opened, recent-unread, told-opened, told-unread}
use Rattle.rc_shard.proofs.Places.{nowhere-of, open-none, open-some}
use Rattle.rc_shard.specs.Filling.{IsCachedByReader, IsHeldByReader}
use Rattle.rc_shard.proofs.Standing.{if-ok-both, if-ok-weaker, on-each, on-err, taken-as}
use Rattle.rc_shard.proofs.Taking.{opened-of, stands-reserved, takes-in-use, takes-too-many, unread-faults, unread-of}
use Rattle.rc_shard.proofs.shard.Shard.open_read.Goals as goal

pub returns-then-is_some-clause-step : goal.returns-then-is_some-clause-step
returns-then-is_some-clause-step g c =
    let used = open-some c.args.id c.args.self.now.readers.items c.place_of.result (subst (λ (os : List (ℕ × PartitionReader)). c.place_of.result ≡ position (λ reader. reader.0 == c.args.id) os) c.as_slice.ensures.value c.place_of.ensures) c.if-is_some.ensures in
    takes-in-use _ (g.W.Store.files c.args.store.now) c.args.self.now c.args.id used.0 c.args.key.now c.args.slice.now used.1

pub returns-then-len-ge-MOST_READERS-clause-step : goal.returns-then-len-ge-MOST_READERS-clause-step
returns-then-len-ge-MOST_READERS-clause-step g c =
    let shut = open-none c.args.id c.args.self.now.readers.items c.place_of.result (subst (λ (os : List (ℕ × PartitionReader)). c.place_of.result ≡ position (λ reader. reader.0 == c.args.id) os) c.as_slice.ensures.value c.place_of.ensures) c.if-is_some.ensures in
    let many : most_readers ≤ length c.args.self.now.readers.items = omega (arith, c.if-len-ge-MOST_READERS.true, c.len.ensures, c.args.self.now.readers.ok) in
    takes-too-many _ (g.W.Store.files c.args.store.now) c.args.self.now c.args.id c.args.key.now c.args.slice.now (nowhere-of c.args.id c.args.self.now.readers.items shut) many

pub open_over-requires-clause-stands : goal.open_over-requires-clause-stands
open_over-requires-clause-stands g c =
    let s = stands-reserved _ (g.W.Store.files c.args.store.now) c.args.self.now c.reserve.new.self c.requires.0 c.reserve.ensures.items c.requires.1 in
    let taken = ap (λ r. number_of_snaps (source_taken r)) c.in-Ok.is in
    (g.W.Store.files c.args.store.now, c.requires.0, taken-as taken (c.source_of.ensures.keeps c.requires.0 s), subst (λ (key : List ℕ). IsSourceIn c.source_of.new.self c.requires.0 key c.in-Ok.source) (sym (ap (λ (o : Opening). o.key) c.in_ok-opening.ensures)) (c.in-Ok.ensures.says c.requires.0 s))

pub open_over-requires-clause-unused : goal.open_over-requires-clause-unused
open_over-requires-clause-unused g c =
    let shut = open-none c.args.id c.args.self.now.readers.items c.place_of.result (subst (λ (os : List (ℕ × PartitionReader)). c.place_of.result ≡ position (λ reader. reader.0 == c.args.id) os) c.as_slice.ensures.value c.place_of.ensures) c.if-is_some.ensures in
    subst (λ (os : List (ℕ × PartitionReader)). position (λ reader. reader.0 == c.args.id) os ≡ None) (sym (ap (λ readers. readers.items) c.source_of.ensures.beside.readers ∙ c.reserve.ensures.items)) shut

pub returns-in-Ok-clause-step : goal.returns-in-Ok-clause-step
returns-in-Ok-clause-step g c =
    let files = g.W.Store.files c.args.store.now in
    let files' = g.W.Store.files c.source_of.new.store in
    let shut = open-none c.args.id c.args.self.now.readers.items c.place_of.result (subst (λ (os : List (ℕ × PartitionReader)). c.place_of.result ≡ position (λ reader. reader.0 == c.args.id) os) c.as_slice.ensures.value c.place_of.ensures) c.if-is_some.ensures in
    let few : length c.args.self.now.readers.items < most_readers = omega (arith, c.if-len-ge-MOST_READERS.false, c.len.ensures, c.args.self.now.readers.ok) in
    opened-of _ files files' c.args.self.now c.open_over.new.self c.args.id c.args.key.now c.args.slice.now c.open_over.result c.source_of.ensures.store.0 (nowhere-of c.args.id c.args.self.now.readers.items shut) few c.open_over.ensures.fine
    (λ m s. (let r = stands-reserved _ files c.args.self.now c.reserve.new.self m c.reserve.ensures.items s in
    opened-by _ files m c.args.id c.source_of.new.self c.open_over.new.self c.open_over.result c.in-Ok.source c.in_ok-opening.opening (record { key = c.args.key.now; slice = c.args.slice.now; tables = c.args.self.now.folder.infos }) c.in_ok-opening.ensures
    (c.open_over.ensures.opened files m (taken-as (ap (λ t. number_of_snaps (source_taken t)) c.in-Ok.is) (c.source_of.ensures.keeps m r))) (c.in-Ok.ensures.says m r)))

pub returns-in-Err-clause-step : goal.returns-in-Err-clause-step
returns-in-Err-clause-step g c =
    let files = g.W.Store.files c.args.store.now in
    let shut = open-none c.args.id c.args.self.now.readers.items c.place_of.result (subst (λ (os : List (ℕ × PartitionReader)). c.place_of.result ≡ position (λ reader. reader.0 == c.args.id) os) c.as_slice.ensures.value c.place_of.ensures) c.if-is_some.ensures in
    let few : length c.args.self.now.readers.items < most_readers = omega (arith, c.if-len-ge-MOST_READERS.false, c.len.ensures, c.args.self.now.readers.ok) in
    unread-of _ files (g.W.Store.files c.source_of.new.store) c.args.self.now c.source_of.new.self c.args.id c.args.key.now c.args.slice.now c.in-Err.error (g.W.Store.faults c.args.store.now) (g.W.Store.faults c.source_of.new.store) c.not_read.result c.source_of.ensures.store.0 (nowhere-of c.args.id c.args.self.now.readers.items shut) few
    (λ m s. taken-as (ap (λ t. number_of_snaps (source_taken t)) c.in-Err.is) (c.source_of.ensures.keeps m (stands-reserved _ files c.args.self.now c.reserve.new.self m c.reserve.ensures.items s))) c.in-Err.ensures.damaged c.in-Err.ensures.cause c.not_read.ensures

pub returns-in-Ok-clause-err : goal.returns-in-Ok-clause-err
returns-in-Ok-clause-err g c =
    let files = g.W.Store.files c.args.store.now in
    let keys = ap (λ (o : Opening). o.key) c.in_ok-opening.ensures in
    on-each c.open_over.result _ _ (λ m s. (let r = stands-reserved _ files c.args.self.now c.reserve.new.self m c.reserve.ensures.items s in
    c.open_over.ensures.err files m (taken-as (ap (λ t. number_of_snaps (source_taken t)) c.in-Ok.is) (c.source_of.ensures.keeps m r)) (subst (λ (key : List ℕ). IsSourceIn c.source_of.new.self m key c.in-Ok.source) (sym keys) (c.in-Ok.ensures.says m r))))

pub returns-in-Err-clause-err : goal.returns-in-Err-clause-err
returns-in-Err-clause-err g c =
    let files = g.W.Store.files c.args.store.now in
    on-err c.not_read.result _ (λ m s. taken-as (ap (λ t. number_of_snaps (source_taken t)) c.in-Err.is) (c.source_of.ensures.keeps m (stands-reserved _ files c.args.self.now c.reserve.new.self m c.reserve.ensures.items s)))

pub returns-in-Err-clause-faults : goal.returns-in-Err-clause-faults
returns-in-Err-clause-faults g c = unread-faults Source (g.W.Store.files c.args.store.now) c.in-Err.error (g.W.Store.faults c.args.store.now) (g.W.Store.faults c.source_of.new.store) c.not_read.result c.in-Err.ensures.cause c.not_read.ensures

-- ---- counts

pub returns-then-is_some-clause-counts : goal.returns-then-is_some-clause-counts
returns-then-is_some-clause-counts g c = counts-itself c.args.self.now

pub returns-then-len-ge-MOST_READERS-clause-counts : goal.returns-then-len-ge-MOST_READERS-clause-counts
returns-then-len-ge-MOST_READERS-clause-counts g c = counts-itself c.args.self.now

pub returns-in-Ok-clause-counts : goal.returns-in-Ok-clause-counts
returns-in-Ok-clause-counts g c = counts-reserved c.args.self.now c.reserve.new.self c.open_over.new.self (counts-behind _ (record c.args.self.now { readers = c.reserve.new.self }) c.source_of.new.self c.open_over.new.self c.source_of.ensures.beside c.open_over.ensures.counts)

pub returns-in-Err-clause-counts : goal.returns-in-Err-clause-counts
returns-in-Err-clause-counts g c = counts-reserved c.args.self.now c.reserve.new.self c.source_of.new.self (counts-used _ (record c.args.self.now { readers = c.reserve.new.self }) c.source_of.new.self c.source_of.ensures.beside)

-- ---- what is pinned, and what is known

pub returns-in-Ok-clause-pins : goal.returns-in-Ok-clause-pins
returns-in-Ok-clause-pins g c =
    let mid = c.source_of.new.self in
    let new = c.open_over.new.self in
    let beside = c.source_of.ensures.beside in
    let rest = subst (λ (taken : Option Snap). LeavesBeside taken c.args.self.now.unstored.chains mid.unstored.chains) (ap source_taken c.in-Ok.is) beside.rest in
    let pins = subst (λ (key : List ℕ). IfOk c.open_over.result (λ _. IsReaderPinned c.args.id key c.in-Ok.source mid.readers.items mid.unstored new.readers.items new.unstored)) (ap (λ (o : Opening). o.key) c.in_ok-opening.ensures) c.open_over.ensures.pins in
    told-opened c.args.id c.args.key.now c.args.slice.now c.args.self.now.readers.items c.args.self.now.unstored new.readers.items new.unstored mid.readers.items mid.unstored c.in-Ok.source c.open_over.result
    (ap (λ readers. readers.items) beside.readers ∙ c.reserve.ensures.items) rest beside.keys c.open_over.ensures.fine pins

pub returns-in-Err-clause-pins : goal.returns-in-Err-clause-pins
returns-in-Err-clause-pins g c =
    told-unread c.args.id c.args.key.now c.args.slice.now c.args.self.now.readers.items c.args.self.now.unstored c.source_of.new.self.readers.items c.source_of.new.self.unstored c.in-Err.error c.not_read.result c.not_read.ensures

pub returns-in-Ok-clause-known : goal.returns-in-Ok-clause-known
returns-in-Ok-clause-known g c = λ on. c.source_of.ensures.known on

pub returns-in-Err-clause-known : goal.returns-in-Err-clause-known
returns-in-Err-clause-known g c = λ on. c.source_of.ensures.known on

pub returns-in-Ok-clause-filled : goal.returns-in-Ok-clause-filled
returns-in-Ok-clause-filled g c =
    let k = c.args.self.now in
    let l = c.source_of.new.self in
    let k2 = c.open_over.new.self in
    let key = c.args.key.now in
    let s = stands-reserved _ (g.W.Store.files c.args.store.now) k c.reserve.new.self c.requires.0 c.reserve.ensures.items c.requires.1 in
    let is = subst (λ (q : List ℕ). IsSourceIn l c.requires.0 q c.in-Ok.source) (sym (ap (λ (o : Opening). o.key) c.in_ok-opening.ensures)) (c.in-Ok.ensures.says c.requires.0 s) in
    let unlost = lost-within k.unstored.chains k.unstored.chains l.unstored.chains k2.unstored.chains (no-count k.unstored.chains) (rest-of _ k.unstored.chains l.unstored.chains c.source_of.ensures.beside.rest).counts c.open_over.ensures.counts.none_fell in
    let unskipped = skipped-within k.unstored.chains k.unstored.chains l.unstored.chains k2.unstored.chains (no-count k.unstored.chains) (rest-of _ k.unstored.chains l.unstored.chains c.source_of.ensures.beside.rest).counts c.open_over.ensures.counts.none_fell in
    filled-opened c.args.id key c.args.slice.now k (g.W.Store.asks c.args.store.now) (g.W.Store.asks c.source_of.new.store) k2 c.open_over.result c.open_over.ensures.fine
    (if-ok-both c.open_over.result _ _ _ (λ reads known. (reads, known))
    (if-ok-weaker c.open_over.result _ _ (λ reply h none. subst (λ (q : List ℕ). IsCachedByReader c.args.id q k2) (ap (λ (o : Opening). o.key) c.in_ok-opening.ensures) (h (c.in-Ok.ensures.caught (unskipped none)))) (c.open_over.ensures.caught c.requires.0 is))
    (if-ok-both c.open_over.result _ _ _ (λ h t none. record {
      held = subst (λ (q : List ℕ). IsHeldByReader c.args.id q k2) (ap (λ (o : Opening). o.key) c.in_ok-opening.ensures) (h (c.in-Ok.ensures.held (unlost none)));
      whole = elim (c.in-Ok.ensures.whole (unlost none)) [ inl on ↦ inl on | inr all ↦ inr ((t key).whole all) ];
    }) (c.open_over.ensures.held c.requires.0 is) c.open_over.ensures.stays))

pub returns-in-Err-clause-filled : goal.returns-in-Err-clause-filled
returns-in-Err-clause-filled g c = filled-unread c.args.id c.args.key.now c.args.slice.now c.args.self.now (g.W.Store.asks c.args.store.now) (g.W.Store.asks c.source_of.new.store) c.source_of.new.self c.in-Err.error c.not_read.result c.not_read.ensures

-- ---- what is known still, and what is recent

pub returns-then-is_some-clause-stays : goal.returns-then-is_some-clause-stays
returns-then-is_some-clause-stays g c = λ none q. known-itself c.args.self.now q

pub returns-then-len-ge-MOST_READERS-clause-stays : goal.returns-then-len-ge-MOST_READERS-clause-stays
returns-then-len-ge-MOST_READERS-clause-stays g c = λ none q. known-itself c.args.self.now q

pub returns-in-Ok-clause-stays : goal.returns-in-Ok-clause-stays
returns-in-Ok-clause-stays g c =
    let old = c.args.self.now.unstored.chains in
    let mid = c.source_of.new.self.unstored.chains in
    let new = c.open_over.new.self.unstored.chains in
    on-opened c.args.self.now c.source_of.new.self c.open_over.new.self c.open_over.result (lost-within old old mid new (no-count old) (rest-of _ old mid c.source_of.ensures.beside.rest).counts c.open_over.ensures.counts.none_fell)
    (known-reserved c.args.self.now c.reserve.new.self c.source_of.new.self (subst (λ r. UnlessMemory r (AreKnownStill (record c.args.self.now { readers = c.reserve.new.self }) c.source_of.new.self)) c.in-Ok.is c.source_of.ensures.stays)) c.open_over.ensures.stays

pub returns-in-Err-clause-stays : goal.returns-in-Err-clause-stays
returns-in-Err-clause-stays g c =
    on-unread Source c.in-Err.error c.not_read.result (AreKnownStill c.args.self.now c.source_of.new.self)
    (unless-weaker {T = Source} (Err c.in-Err.error) _ _ (known-reserved c.args.self.now c.reserve.new.self c.source_of.new.self) (subst (λ r. UnlessMemory r (AreKnownStill (record c.args.self.now { readers = c.reserve.new.self }) c.source_of.new.self)) c.in-Err.is c.source_of.ensures.stays)) c.not_read.ensures

pub returns-in-Ok-clause-recent : goal.returns-in-Ok-clause-recent
returns-in-Ok-clause-recent g c = recent-opened c.args.id c.args.key.now c.args.slice.now c.args.self.now c.source_of.new.self c.open_over.new.self c.open_over.result c.open_over.ensures.fine c.open_over.ensures.recency (λ on. c.in-Ok.ensures.hit on)

pub returns-in-Err-clause-recent : goal.returns-in-Err-clause-recent
returns-in-Err-clause-recent g c = recent-unread c.args.id c.args.key.now c.args.slice.now c.args.self.now c.source_of.new.self c.in-Err.error c.not_read.result c.not_read.ensures

-- ---- what is lost

pub returns-then-is_some-clause-crowds : goal.returns-then-is_some-clause-crowds
returns-then-is_some-clause-crowds g c = inl (refl, refl)

pub returns-then-len-ge-MOST_READERS-clause-crowds : goal.returns-then-len-ge-MOST_READERS-clause-crowds
returns-then-len-ge-MOST_READERS-clause-crowds g c = inl (refl, refl)

pub returns-in-Ok-clause-crowds : goal.returns-in-Ok-clause-crowds
returns-in-Ok-clause-crowds g c =
    let old = c.args.self.now.unstored.chains in
    let mid = c.source_of.new.self.unstored.chains in
    let new = c.open_over.new.self.unstored.chains in
    on-ok-weaker c.open_over.result _ _ (λ l. crowded-since old new (loses-before 131072 1 old mid new c.source_of.ensures.loses l)) c.open_over.ensures.loses

pub returns-in-Err-clause-crowds : goal.returns-in-Err-clause-crowds
returns-in-Err-clause-crowds g c = on-ok c.not_read.result _ (crowded-since c.args.self.now.unstored.chains c.source_of.new.self.unstored.chains c.source_of.ensures.loses)
