-- The reader that was opened stands behind the others; else the snapshot of the row cache went.
use Rattle.std.proofs.Common.{◌≡◌, ◌==◌, ℕ, List, Some, refl, ap, ◌∙◌}
use Rattle.std.specs.Map.{lookup}
use Rattle.rc_lookup.specs.Found.{entry_number}
use Rattle.rc_lookup.specs.NoMore.{counts-then}
use Rattle.rc_shard.specs.declared.readers.PartitionReader.{PartitionReader}
use Rattle.rc_shard.specs.declared.shard.Shard.{Shard}
use Rattle.rc_shard.specs.Readers.{written_snaps_of}
use Rattle.rc_shard.proofs.Closing.{past-rest}
use Rattle.rc_shard.proofs.Known.{known-where}
use Rattle.rc_shard.proofs.Looking.{cached-opened, head-taken, held-opened, known-pinned, same-recency}
use Rattle.rc_shard.proofs.Losing.{pinned-loses}
use Rattle.rc_shard.proofs.Opened.{none-ok}
use Rattle.rc_shard.proofs.Latest.{latest-opened}
use Rattle.rc_shard.proofs.Opening.{not-opened, opens-reader, source-apart, source-of-key, source-read, source-there, tells-of, told-writes}
use Rattle.rc_shard.proofs.Places.{nowhere-of}
use Rattle.rc_shard.proofs.Rereading.{found-behind}
use Rattle.rc_shard.proofs.Standing.{kept-itself, on-err}
use Rattle.rc_shard.proofs.shard.Shard.open_over.Goals as goal

pub open_in-requires-clause-kept : goal.open_in-requires-clause-kept
open_in-requires-clause-kept c =
    let s = c.requires.stands.2 in
    let h = s.have in
    let schema = c.args.self.now.folder.schema in
    let key = c.args.opening.key in
    let told = told-writes schema key c.requires.stands.1 h.sealed h.later (λ writes later. c.both_say_what_was_written.ensures.changes key writes later) s.over.schema s.sound.mutations s.over.fit h.are in
    (schema, h.sealed, h.later, h.have, told.of_sealed, told.of_later)

pub open_in-requires-clause-there : goal.open_in-requires-clause-there
open_in-requires-clause-there c = source-there c.args.self.now c.requires.stands.1 c.args.opening.key c.args.source c.requires.stands.3

pub open_in-requires-clause-read : goal.open_in-requires-clause-read
open_in-requires-clause-read c = source-read c.args.self.now c.requires.stands.1 c.args.opening.key c.args.source c.requires.stands.3

pub returns-in_err-opened-clause-opened : goal.returns-in_err-opened-clause-opened
returns-in_err-opened-clause-opened c = λ files m s of.
    let k = c.args.self.now in
    let told = tells-of _ c.a_reader_stays.ensures files k k.unstored m c.args.opening.key c.args.source s (kept-itself k.folder.schema k.unstored) of in
    (told.said, told.of_tables, none-ok c.from_residual.result _ c.from_residual.ensures.0)

pub returns-in_err-opened-clause-err : goal.returns-in_err-opened-clause-err
returns-in_err-opened-clause-err c = λ files m s of.
    let k = c.args.self.now in
    let new : Shard = record k { unstored = c.open_in.new.unstored } in
    on-err c.from_residual.result _ (not-opened _ c.a_reader_stays.ensures (λ schema u n writes later. c.what_leaves_the_chains_of_both_leaves_their_writes.ensures.beside 131072 schema u n writes later)
    files k new m c.args.opening.key c.args.source refl refl refl refl (c.in_err-opened.ensures.err k.folder.schema) of s)

pub returns-in_err-opened-clause-counts : goal.returns-in_err-opened-clause-counts
returns-in_err-opened-clause-counts c =
    let k = c.args.self.now in
    let went = c.in_err-opened.ensures.err k.folder.schema in
    record { answered = refl; segments = refl; asked = refl; none_fell = counts-then k.unstored.chains went.0.chains c.open_in.new.unstored.chains went.1.room.counts (past-rest _ went.0.chains c.open_in.new.unstored.chains went.2).fell }

pub returns-clause-opened : goal.returns-clause-opened
returns-clause-opened c = λ files m s of.
    let k = c.args.self.now in
    let x : PartitionReader = c.in_ok-opened.opened in
    let key = c.args.opening.key in
    let source = c.args.source in
    let new : Shard = record k { unstored = c.open_in.new.unstored; readers = c.push.new.self } in
    let t = c.in_ok-opened.ensures in
    let told = tells-of _ c.a_reader_stays.ensures files k c.open_in.new.unstored m key source s (t.kept k.folder.schema) of in (
      told.said,
      told.of_tables,
      opens-reader _ c.a_reader_stays.ensures files k new c.args.id key c.args.opening.slice x source (λ writes later. c.both_say_what_was_written.ensures.changes key writes later)
          c.requires.unused refl refl refl c.in-Ok.ensures.items (λ schema. t.kept schema) told.said (λ schema writes later below h of_writes of_later of_tables tells. t.gives schema writes later below told.said h of_writes of_later of_tables tells)
          t.held t.snap t.key (t.tables ∙ c.requires.tables) t.fresh (source-apart k m key source of) (source-of-key k m key source of s.cached.are) m s told.of_tables told.tells told.fits,
    )

pub returns-clause-caught : goal.returns-clause-caught
returns-clause-caught c = λ m is some.
    let k = c.args.self.now in
    let id = c.args.id in
    let x : PartitionReader = c.in_ok-opened.opened in
    let new : Shard = record k { unstored = c.open_in.new.unstored; readers = c.push.new.self } in
    let t = c.in_ok-opened.ensures in
    let found : lookup (λ q. q == id) c.push.new.self.items ≡ Some x = ap (λ (os : List (ℕ × PartitionReader)). lookup (λ q. q == id) os) c.in-Ok.ensures.items ∙ found-behind id x k.readers.items (nowhere-of id k.readers.items c.requires.unused) in
    cached-opened k new m id c.args.opening.key x c.args.source is some t.snap refl t.key found (latest-opened k.folder.infos x (t.tables ∙ c.requires.tables))

pub returns-clause-held : goal.returns-clause-held
returns-clause-held c = λ m is known.
    let k = c.args.self.now in
    let id = c.args.id in
    let x : PartitionReader = c.in_ok-opened.opened in
    let new : Shard = record k { unstored = c.open_in.new.unstored; readers = c.push.new.self } in
    let t = c.in_ok-opened.ensures in
    let took = t.pins.exact in
    let snaps = written_snaps_of x in
    let found : lookup (λ q. q == id) c.push.new.self.items ≡ Some x = ap (λ (os : List (ℕ × PartitionReader)). lookup (λ q. q == id) os) c.in-Ok.ensures.items ∙ found-behind id x k.readers.items (nowhere-of id k.readers.items c.requires.unused) in
    held-opened k new m id c.args.opening.key x c.args.source is known t.snap refl t.key found
    (λ s on head. (let first = head-taken k.unstored.chains took.0 snaps.sealed s took.1 on head in (head-taken took.0 c.open_in.new.unstored.chains snaps.active s took.2 first.0 first.1).1))
    (latest-opened k.folder.infos x (t.tables ∙ c.requires.tables))

pub returns-clause-stays : goal.returns-clause-stays
returns-clause-stays c = λ q.
    let took = c.in_ok-opened.ensures.pins.exact in
    let snaps = written_snaps_of c.in_ok-opened.opened in
    let new : Shard = record c.args.self.now { unstored = c.open_in.new.unstored; readers = c.push.new.self } in
    known-where c.args.self.now new q (λ P h. known-pinned (entry_number c.args.self.now.cache.entries q) c.args.self.now.unstored.chains took.0 c.open_in.new.unstored.chains snaps.sealed snaps.active took.1 took.2 P h)

pub returns-clause-recency : goal.returns-clause-recency
returns-clause-recency c =
    let took = c.in_ok-opened.ensures.pins.exact in
    let snaps = written_snaps_of c.in_ok-opened.opened in
    (refl, same-recency took.0 c.open_in.new.unstored.chains snaps.active took.2 ∙ same-recency c.args.self.now.unstored.chains took.0 snaps.sealed took.1)

pub returns-clause-loses : goal.returns-clause-loses
returns-clause-loses c =
    let took = c.in_ok-opened.ensures.pins.exact in
    let snaps = written_snaps_of c.in_ok-opened.opened in
    pinned-loses c.args.self.now.unstored.chains took.0 c.open_in.new.unstored.chains snaps.sealed snaps.active took.1 took.2
