-- A reader's partition is read from the tables of its opening, and put into the row cache; then the reader goes on past that.
use Rattle.std.proofs.Common.{◌≡◌, ◌==◌, ℕ, List, Some, get_or, position, sym, ap, ◌∙◌, subst}
use Rattle.std.specs.Prelude.{None}
use Rattle.rc_lines.specs.declared.commands.Command.TheVariants.{Read}
use Rattle.rc_folder.specs.Tabled.{Tabled}
use Rattle.rc_lookup.specs.Crowds.{loses-before}
use Rattle.rc_shard.specs.declared.readers.PartitionReader.{PartitionReader}
use Rattle.rc_shard.specs.calls.Looking.{AreKnownStill}
use Rattle.rc_shard.specs.calls.Reading.{IsReadOfFirst, IsRefilled}
use Rattle.rc_shard.proofs.Counted.{if-ok-all}
use Rattle.rc_shard.proofs.Filled.{read-fits}
use Rattle.rc_shard.proofs.Given.{apart-refilled, asks-within, counts-after, keeps-by, put-past, stops-behind, stops-over, stops-same, stops-to, takes-behind, whole-past}
use Rattle.rc_shard.proofs.Known.{known-then}
use Rattle.rc_shard.proofs.Looking.{counts-used, lost-within, no-count, on-ok, on-ok-weaker, rest-of}
use Rattle.rc_shard.proofs.Losing.{crowded-since}
use Rattle.rc_shard.proofs.Places.{place-of}
use Rattle.rc_shard.proofs.Standing.{if-ok-weaker, on-err, on-err-weaker}
use Rattle.rc_shard.proofs.Taking.{found-at, takes-unread, to-files}
use Rattle.rc_shard.proofs.shard.Shard.read_past.Goals as goal

pub read_first-requires : goal.read_first-requires
read_first-requires g c =
    let q = c.requires in
    let k = c.args.self.now in
    let d : ℕ × PartitionReader = c.index.result.now in
    let f = found-at _ (g.W.Store.files c.args.store.now) k q.1 q.0 c.args.at d q.2 (place-of q.0 k.readers.items c.args.at q.3) (sym c.index.ensures) in
    (q.1, f.served.opened.later, q.2.over, sym q.2.over.infos ∙ f.served.opened.are)

pub refill-requires-clause-place : goal.refill-requires-clause-place
refill-requires-clause-place g c = (c.requires.0, g.W.Store.files c.args.store.now, c.requires.1, c.requires.2, c.requires.3)

pub refill-requires-clause-fits : goal.refill-requires-clause-fits
refill-requires-clause-fits g c =
    let files = g.W.Store.files c.args.store.now in
    let q = c.requires in
    let k = c.args.self.now in
    let d : ℕ × PartitionReader = c.index.result.now in
    let here : get_or k.readers.items c.args.at d ≡ d = sym c.index.ensures in
    let fits = read-fits k.folder.schema c.in-Ok.read d.1.tables d.1.key c.in-Ok.ensures.mutation (λ read changes is join. c.a_join_says_what_the_writes_say.ensures read changes is join) (λ schema read changes is same fits. c.what_says_the_same_fits.ensures schema read changes is same fits) c.in-Ok.ensures.some in
    fits

pub pass-requires : goal.pass-requires
pass-requires g c =
    let files = g.W.Store.files c.args.store.now in
    let q = c.requires in
    let k = c.args.self.now in
    let d : ℕ × PartitionReader = c.index.result.now in
    let here : get_or k.readers.items c.args.at d ≡ d = sym c.index.ensures in
    let fits = read-fits k.folder.schema c.in-Ok.read d.1.tables d.1.key c.in-Ok.ensures.mutation (λ read changes is join. c.a_join_says_what_the_writes_say.ensures read changes is join) (λ schema read changes is same fits. c.what_says_the_same_fits.ensures schema read changes is same fits) c.in-Ok.ensures.some in
    let read : IsReadOfFirst files k.folder d.1 c.in-Ok.read = record { said = λ m later over are. c.in-Ok.ensures.said m later over are; mutation = c.in-Ok.ensures.mutation; fits = fits } in
    let f = c.refill.new.self in
    let beside = c.refill.ensures.beside in
    let items = ap (λ readers. readers.items) beside.readers in
    let there : get_or f.readers.items c.args.at d ≡ d = subst (λ (os : List (ℕ × PartitionReader)). get_or os c.args.at d ≡ d) (sym items) here in
    let now : IsReadOfFirst files f.folder d.1 c.in-Ok.read = subst (λ (t : Tabled). IsReadOfFirst files t d.1 c.in-Ok.read) (sym beside.folder) read in
    let place = subst (λ (os : List (ℕ × PartitionReader)). position (λ reader. reader.0 == q.0) os ≡ Some c.args.at) (sym items) q.3 in
    let keeps = keeps-by _ files k f q.0 c.args.at d c.in-Ok.read here q.3 read (λ id files m o said s place there by join. c.refill.ensures.keeps id files m o said s place there by join) in
    (q.0, files, q.1, d, keeps q.1 q.2, place, there, now)

-- ---- it was read

pub returns-in_ok-refill-in-Ok-clause-step : goal.returns-in_ok-refill-in-Ok-clause-step
returns-in_ok-refill-in-Ok-clause-step g c = λ id place.
    let files = g.W.Store.files c.args.store.now in
    let q = c.requires in
    let k = c.args.self.now in
    let d : ℕ × PartitionReader = c.index.result.now in
    let here : get_or k.readers.items c.args.at d ≡ d = sym c.index.ensures in
    let fits = read-fits k.folder.schema c.in-Ok.read d.1.tables d.1.key c.in-Ok.ensures.mutation (λ read changes is join. c.a_join_says_what_the_writes_say.ensures read changes is join) (λ schema read changes is same fits. c.what_says_the_same_fits.ensures schema read changes is same fits) c.in-Ok.ensures.some in
    let read : IsReadOfFirst files k.folder d.1 c.in-Ok.read = record { said = λ m later over are. c.in-Ok.ensures.said m later over are; mutation = c.in-Ok.ensures.mutation; fits = fits } in
    let f = c.refill.new.self in
    let beside = c.refill.ensures.beside in
    let items = ap (λ readers. readers.items) beside.readers in
    let there : get_or f.readers.items c.args.at d ≡ d = subst (λ (os : List (ℕ × PartitionReader)). get_or os c.args.at d ≡ d) (sym items) here in
    let now : IsReadOfFirst files f.folder d.1 c.in-Ok.read = subst (λ (t : Tabled). IsReadOfFirst files t d.1 c.in-Ok.read) (sym beside.folder) read in
    let own = subst (λ (os : List (ℕ × PartitionReader)). position (λ reader. reader.0 == id) os ≡ Some c.args.at) (sym items) place in
    let keeps = keeps-by _ files k f id c.args.at d c.in-Ok.read here place read (λ id files m o said s place there by join. c.refill.ensures.keeps id files m o said s place there by join) in
    if-ok-weaker c.pass.result _ _ (λ reply t. to-files _ files k c.pass.new.self (g.W.Store.files c.read_first.new.store) (Read id c.args.count) reply c.read_first.ensures.store.0 (takes-behind _ files files k f c.pass.new.self id c.args.count reply keeps t))
    (c.pass.ensures.step id files d own there now)

pub returns-in_ok-refill-in-Ok-clause-err : goal.returns-in_ok-refill-in-Ok-clause-err
returns-in_ok-refill-in-Ok-clause-err g c = λ id place.
    let files = g.W.Store.files c.args.store.now in
    let q = c.requires in
    let k = c.args.self.now in
    let d : ℕ × PartitionReader = c.index.result.now in
    let here : get_or k.readers.items c.args.at d ≡ d = sym c.index.ensures in
    let fits = read-fits k.folder.schema c.in-Ok.read d.1.tables d.1.key c.in-Ok.ensures.mutation (λ read changes is join. c.a_join_says_what_the_writes_say.ensures read changes is join) (λ schema read changes is same fits. c.what_says_the_same_fits.ensures schema read changes is same fits) c.in-Ok.ensures.some in
    let read : IsReadOfFirst files k.folder d.1 c.in-Ok.read = record { said = λ m later over are. c.in-Ok.ensures.said m later over are; mutation = c.in-Ok.ensures.mutation; fits = fits } in
    let f = c.refill.new.self in
    let beside = c.refill.ensures.beside in
    let items = ap (λ readers. readers.items) beside.readers in
    let there : get_or f.readers.items c.args.at d ≡ d = subst (λ (os : List (ℕ × PartitionReader)). get_or os c.args.at d ≡ d) (sym items) here in
    let now : IsReadOfFirst files f.folder d.1 c.in-Ok.read = subst (λ (t : Tabled). IsReadOfFirst files t d.1 c.in-Ok.read) (sym beside.folder) read in
    let own = subst (λ (os : List (ℕ × PartitionReader)). position (λ reader. reader.0 == id) os ≡ Some c.args.at) (sym items) place in
    let keeps = keeps-by _ files k f id c.args.at d c.in-Ok.read here place read (λ id files m o said s place there by join. c.refill.ensures.keeps id files m o said s place there by join) in
    on-err-weaker c.pass.result _ _ (λ t. stops-to _ files (g.W.Store.files c.read_first.new.store) k c.pass.new.self id c.args.count c.read_first.ensures.store.0 (stops-behind _ files files k f c.pass.new.self id c.args.count keeps t))
    (c.pass.ensures.err id files d own there now)

pub returns-in_ok-refill-in-Ok-clause-faults : goal.returns-in_ok-refill-in-Ok-clause-faults
returns-in_ok-refill-in-Ok-clause-faults g c = (c.in-Ok.ensures.cause, c.pass.ensures.faultless (g.W.Store.faults c.args.store.now) (g.W.Store.faults c.read_first.new.store))

pub returns-in_ok-refill-in-Ok-clause-asks : goal.returns-in_ok-refill-in-Ok-clause-asks
returns-in_ok-refill-in-Ok-clause-asks g c = λ id m place s.
    let k = c.args.self.now in
    let d : ℕ × PartitionReader = c.index.result.now in
    asks-within _ (g.W.Store.files c.args.store.now) k m id c.args.at d (g.W.Store.asks c.args.store.now) (g.W.Store.asks c.read_first.new.store) (place-of id k.readers.items c.args.at place) (sym c.index.ensures) s c.read_first.ensures.asks

pub returns-in_ok-refill-in-Ok-clause-filled : goal.returns-in_ok-refill-in-Ok-clause-filled
returns-in_ok-refill-in-Ok-clause-filled g c = λ o own.
    let k = c.args.self.now in
    let f = c.refill.new.self in
    let k2 = c.pass.new.self in
    let beside = c.refill.ensures.beside in
    let items = ap (λ readers. readers.items) beside.readers in
    let d = o in
    let here = own in
    let there : get_or f.readers.items c.args.at d ≡ d = subst (λ (os : List (ℕ × PartitionReader)). get_or os c.args.at d ≡ d) (sym items) here in
    let refilled : IsRefilled d.1 k f = c.in_ok-refill-in-Ok.ensures.refilled d here in
    let first = (rest-of None k.unstored.chains f.unstored.chains beside.rest).counts in
    let since = c.pass.ensures.counts.none_fell in
    if-ok-all c.pass.result _ (λ reply. put-past d.1 reply k k2 (λ none holds.
    whole-past d.1 k f k2 refilled holds (lost-within k.unstored.chains k.unstored.chains f.unstored.chains k2.unstored.chains (no-count k.unstored.chains) first since none)
    (λ apart. c.pass.ensures.stays d d.1.key there apart (lost-within k.unstored.chains f.unstored.chains k2.unstored.chains k2.unstored.chains first since (no-count k2.unstored.chains) none))))

pub returns-in_ok-refill-in-Ok-clause-stays : goal.returns-in_ok-refill-in-Ok-clause-stays
returns-in_ok-refill-in-Ok-clause-stays g c = λ id.
    let k = c.args.self.now in
    let f = c.refill.new.self in
    let k2 = c.pass.new.self in
    let beside = c.refill.ensures.beside in
    let items = ap (λ readers. readers.items) beside.readers in
    let d : ℕ × PartitionReader = c.index.result.now in
    let here : get_or k.readers.items c.args.at d ≡ d = sym c.index.ensures in
    let there : get_or f.readers.items c.args.at d ≡ d = subst (λ (os : List (ℕ × PartitionReader)). get_or os c.args.at d ≡ d) (sym items) here in
    let refilled : IsRefilled d.1 k f = c.in_ok-refill-in-Ok.ensures.refilled d here in
    let first = (rest-of None k.unstored.chains f.unstored.chains beside.rest).counts in
    let since = c.pass.ensures.counts.none_fell in
    let stays : AreKnownStill k f = c.in_ok-refill-in-Ok.ensures.stays in
    on-ok c.pass.result _ (λ none key listed. known-then k f k2 key
    (stays (lost-within k.unstored.chains k.unstored.chains f.unstored.chains k2.unstored.chains (no-count k.unstored.chains) first since none) key)
    (c.pass.ensures.stays d key there (apart-refilled d.1 k f key refilled listed) (lost-within k.unstored.chains f.unstored.chains k2.unstored.chains k2.unstored.chains first since (no-count k2.unstored.chains) none)))

pub returns-in_ok-refill-in-Ok-clause-touches : goal.returns-in_ok-refill-in-Ok-clause-touches
returns-in_ok-refill-in-Ok-clause-touches g c = λ id place o own.
    let items = ap (λ readers. readers.items) c.refill.ensures.beside.readers in
    c.pass.ensures.touches id o (subst (λ (os : List (ℕ × PartitionReader)). position (λ reader. reader.0 == id) os ≡ Some c.args.at) (sym items) place) (subst (λ (os : List (ℕ × PartitionReader)). get_or os c.args.at o ≡ o) (sym items) own)

pub returns-in_ok-refill-in-Ok-clause-crowds : goal.returns-in_ok-refill-in-Ok-clause-crowds
returns-in_ok-refill-in-Ok-clause-crowds g c =
    let old = c.args.self.now.unstored.chains in
    let mid = c.refill.new.self.unstored.chains in
    let new = c.pass.new.self.unstored.chains in
    on-ok-weaker c.pass.result _ _ (λ l. crowded-since old new (loses-before 131072 1 old mid new c.refill.ensures.loses l)) c.pass.ensures.loses

pub returns-in_ok-refill-in-Ok-clause-counts : goal.returns-in_ok-refill-in-Ok-clause-counts
returns-in_ok-refill-in-Ok-clause-counts g c = counts-after c.args.self.now c.refill.new.self c.pass.new.self (counts-used None c.args.self.now c.refill.new.self c.refill.ensures.beside) c.pass.ensures.counts

-- ---- memory ran out

pub returns-in_err-refill-in-Ok-clause-err : goal.returns-in_err-refill-in-Ok-clause-err
returns-in_err-refill-in-Ok-clause-err g c = λ id place.
    let files = g.W.Store.files c.args.store.now in
    let q = c.requires in
    let k = c.args.self.now in
    let d : ℕ × PartitionReader = c.index.result.now in
    let here : get_or k.readers.items c.args.at d ≡ d = sym c.index.ensures in
    let fits = read-fits k.folder.schema c.in-Ok.read d.1.tables d.1.key c.in-Ok.ensures.mutation (λ read changes is join. c.a_join_says_what_the_writes_say.ensures read changes is join) (λ schema read changes is same fits. c.what_says_the_same_fits.ensures schema read changes is same fits) c.in-Ok.ensures.some in
    let read : IsReadOfFirst files k.folder d.1 c.in-Ok.read = record { said = λ m later over are. c.in-Ok.ensures.said m later over are; mutation = c.in-Ok.ensures.mutation; fits = fits } in
    on-err c.from_residual.result _ (stops-over _ files (g.W.Store.files c.read_first.new.store) k c.refill.new.self id c.args.count c.read_first.ensures.store.0
    (keeps-by _ files k c.refill.new.self id c.args.at d c.in-Ok.read here place read (λ id files m o said s place there by join. c.refill.ensures.keeps id files m o said s place there by join)))

pub returns-in_err-refill-in-Ok-clause-asks : goal.returns-in_err-refill-in-Ok-clause-asks
returns-in_err-refill-in-Ok-clause-asks g c = λ id m place s.
    let k = c.args.self.now in
    let d : ℕ × PartitionReader = c.index.result.now in
    asks-within _ (g.W.Store.files c.args.store.now) k m id c.args.at d (g.W.Store.asks c.args.store.now) (g.W.Store.asks c.read_first.new.store) (place-of id k.readers.items c.args.at place) (sym c.index.ensures) s c.read_first.ensures.asks

pub returns-in_err-refill-in-Ok-clause-counts : goal.returns-in_err-refill-in-Ok-clause-counts
returns-in_err-refill-in-Ok-clause-counts g c = counts-used None c.args.self.now c.refill.new.self c.refill.ensures.beside

-- ---- it could not be read

pub returns-in-Err-clause-step : goal.returns-in-Err-clause-step
returns-in-Err-clause-step g c = λ id place.
    let files = g.W.Store.files c.args.store.now in
    let k = c.args.self.now in
    let d : ℕ × PartitionReader = c.index.result.now in
    takes-unread _ files (g.W.Store.files c.read_first.new.store) k id c.args.count c.args.at d c.in-Err.error (g.W.Store.faults c.args.store.now) (g.W.Store.faults c.read_first.new.store) c.not_read.result (place-of id k.readers.items c.args.at place) (sym c.index.ensures)
    c.read_first.ensures.store.0 c.in-Err.ensures.damaged c.in-Err.ensures.cause c.not_read.ensures

pub returns-in-Err-clause-err : goal.returns-in-Err-clause-err
returns-in-Err-clause-err g c = λ id place.
    on-err c.not_read.result _ (stops-same _ (g.W.Store.files c.args.store.now) (g.W.Store.files c.read_first.new.store) c.args.self.now c.args.self.now id c.args.count c.read_first.ensures.store.0 (λ files m s. s))

pub returns-in-Err-clause-asks : goal.returns-in-Err-clause-asks
returns-in-Err-clause-asks g c = λ id m place s.
    let k = c.args.self.now in
    let d : ℕ × PartitionReader = c.index.result.now in
    asks-within _ (g.W.Store.files c.args.store.now) k m id c.args.at d (g.W.Store.asks c.args.store.now) (g.W.Store.asks c.read_first.new.store) (place-of id k.readers.items c.args.at place) (sym c.index.ensures) s c.read_first.ensures.asks
