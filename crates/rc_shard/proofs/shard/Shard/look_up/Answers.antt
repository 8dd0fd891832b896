-- A snapshot that the cache hands out is one of the partition's entry, and handing it out leaves the rest.
use Rattle.std.proofs.Common.{refl, arith}
use Rattle.rc_lookup.specs.Memtables.{in_chains}
use Rattle.rc_shard.specs.declared.shard.Shard.{Shard}
use Rattle.rc_shard.specs.Readers.{number_of_snaps}
use Rattle.rc_shard.specs.calls.Looking.{snap_taken}
use Rattle.rc_lookup.specs.Found.{entry_number}
use Rattle.rc_lookup.specs.Known.{IsStaticRowIn}
use Rattle.rc_shard.proofs.Known.{known-still, some-entry}
use Rattle.rc_shard.proofs.Looking.{beside-of, both-some, cached-looked, entry-snapshot, if-some, over-of, rest-of, used-for}
use Rattle.rc_shard.proofs.shard.Shard.look_up.Goals as goal

pub take_known-requires : goal.take_known-requires
take_known-requires c =
    let s = c.requires.2 in
    let schema = c.args.self.now.folder.schema in
    (omega arith, (s.cached.are, (schema, (λ id phase. s.cached.below id), over-of schema c.args.self.now.cache.entries c.args.self.now.unstored.chains c.requires.1 s.cached)))

pub returns-clause-says : goal.returns-clause-says
returns-clause-says c = λ files m s.
    let k = c.args.self.now in
    let new : Shard = record k { cache = c.take_known.new.cache; unstored = in_chains c.take_known.new.chains k.unstored } in
    if-some c.take_known.result _ _ (λ t h. entry-snapshot _ files k new m c.args.key.now t s refl h) c.take_known.ensures.taken

pub returns-clause-keeps : goal.returns-clause-keeps
returns-clause-keeps c = λ files m s.
    let k = c.args.self.now in
    let rest = rest-of (snap_taken c.take_known.result) k.unstored.chains c.take_known.new.chains (beside-of c.take_known.result k.unstored.chains c.take_known.new.chains c.take_known.ensures.rest c.take_known.ensures.rest_err) in
    let cached = cached-looked (number_of_snaps (snap_taken c.take_known.result)) k.folder.schema k.cache.entries c.take_known.new.cache.entries k.unstored.chains c.take_known.new.chains m rest (λ schema below says. c.take_known.ensures.says schema below says) c.take_known.ensures.entries c.take_known.ensures.forgotten s.cached in
    used-for _ c.a_reader_stays.ensures (λ schema u n writes later. c.what_leaves_the_chains_of_both_leaves_their_writes.ensures.beside 131072 schema u n writes later)
    files k.folder k.unstored c.take_known.new.chains k.cache.entries c.take_known.new.cache.entries k.readers.items k.segments (number_of_snaps (snap_taken c.take_known.result)) m rest cached s (λ id pin h. refl) (λ id pin there key found. (c.take_known.ensures.forgotten.left key id found).0)

pub returns-clause-beside : goal.returns-clause-beside
returns-clause-beside c = record { rest = beside-of c.take_known.result c.args.self.now.unstored.chains c.take_known.new.chains c.take_known.ensures.rest c.take_known.ensures.rest_err; keys = record { sealed = refl; active = refl }; folder = refl; readers = refl; answered = refl; segments = refl; asked = refl }

pub returns-clause-stays : goal.returns-clause-stays
returns-clause-stays c = λ q. known-still c.args.self.now (record c.args.self.now { cache = c.take_known.new.cache; unstored = in_chains c.take_known.new.chains c.args.self.now.unstored }) q c.requires.2.cached.are c.known.ensures.told (c.take_known.ensures.stays q)

pub returns-clause-loses : goal.returns-clause-loses
returns-clause-loses c = c.take_known.ensures.loses

pub returns-clause-known : goal.returns-clause-known
returns-clause-known c = λ on. let e = some-entry (entry_number c.args.self.now.cache.entries c.args.key.now) (IsStaticRowIn c.args.self.now.unstored.chains) on in c.take_known.ensures.known e.0 e.1 e.2

pub returns-clause-head : goal.returns-clause-head
returns-clause-head c = both-some c.take_known.result _ _ c.take_known.ensures.head c.take_known.ensures.was
