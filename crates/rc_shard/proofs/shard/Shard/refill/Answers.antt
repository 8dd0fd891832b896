-- What was read lies below its new chain, and filling leaves the rest.
use Rattle.std.proofs.Common.{inl, inr, ◌≡◌, ◌∙◌, ℕ, refl, sym, subst, arith}
use Rattle.rc_folder.specs.Tabled.{IsSaidByFirst}
use Rattle.rc_lookup.specs.Crowds.{loses-nothing}
use Rattle.rc_lookup.specs.Losing.{loses-wider}
use Rattle.rc_lookup.specs.Memtables.{in_chains}
use Rattle.rc_shard.specs.declared.readers.PartitionReader.{PartitionReader}
use Rattle.rc_shard.specs.declared.shard.Shard.{Shard}
use Rattle.rc_shard.specs.Filling.{MayRefill}
use Rattle.rc_shard.specs.Readers.{cached_of}
use Rattle.rc_shard.specs.calls.Reading.{IsRefilled}
use Rattle.rc_shard.proofs.Filled.{filled-for, put-in-place, some-held}
use Rattle.rc_shard.proofs.Known.{filled-known, known-itself}
use Rattle.rc_shard.proofs.Looking.{on-ok-both, on-ok-weaker, over-of, rest-plain, used-itself}
use Rattle.rc_shard.proofs.OfItsKey.{of-at}
use Rattle.rc_shard.proofs.Places.{in-range, place-of, same-there}
use Rattle.rc_shard.proofs.Taking.{found-at}
use Rattle.rc_shard.proofs.shard.Shard.refill.Goals as goal

pub populate-requires : goal.populate-requires
populate-requires c =
    let s = c.requires.place.3 in
    let schema = c.args.self.now.folder.schema in
    (omega arith, (s.cached.are, (omega arith, (schema, (λ id phase. s.cached.below id), over-of schema c.args.self.now.cache.entries c.args.self.now.unstored.chains c.requires.place.2 s.cached, c.requires.fits))))

pub returns-then-may_refill-clause-keeps : goal.returns-then-may_refill-clause-keeps
returns-then-may_refill-clause-keeps c = λ id files m o said s place there by join.
    let k = c.args.self.now in
    let n = c.populate.new.chains in
    let b = c.populate.new.cache.entries in
    let d : ℕ × PartitionReader = c.index.result.now in
    let p = place-of id k.readers.items c.args.at place in
    let here = sym c.index.ensures in
    let same : o ≡ d = same-there id k.readers.items c.args.at o d p there here in
    let f = found-at _ files k m id c.args.at d s p here in
    let by_first : IsSaidByFirst m d.1.tables d.1.key said = subst (λ (x : ℕ × PartitionReader). IsSaidByFirst m x.1.tables x.1.key said) same by in
    let of = f.served.opened in
    let told = c.may_refill.ensures.latest c.if-may_refill.true files m of.later said s.over (sym s.over.infos ∙ of.are) by_first in
    filled-for _ c.a_reader_stays.ensures (λ schema u n writes later. c.what_leaves_the_chains_of_both_leaves_their_writes.ensures.beside 131072 schema u n writes later)
    files k n b d.1.key c.args.read.now 0 m said c.requires.mutation c.requires.fits (rest-plain k.unstored.chains n c.populate.ensures.rest) c.populate.ensures.entries
    (λ q id found apart. c.populate.ensures.others q id found apart) (λ schema below writes over fit same. c.populate.ensures.says schema below writes over fit same) (λ id pin there found. c.populate.ensures.apart id pin found there) s told join

pub returns-then-may_refill-clause-refilled : goal.returns-then-may_refill-clause-refilled
returns-then-may_refill-clause-refilled c = λ o there.
    let q = c.requires.place in
    let k = c.args.self.now in
    let n = c.populate.new.chains in
    let b = c.populate.new.cache.entries in
    let new : Shard = record k { cache = c.populate.new.cache; unstored = in_chains n k.unstored } in
    let d : ℕ × PartitionReader = c.index.result.now in
    let p = place-of q.0 k.readers.items c.args.at q.4 in
    let here = sym c.index.ensures in
    let same : o ≡ d = same-there q.0 k.readers.items c.args.at o d p there here in
    let f = found-at _ q.1 k q.2 q.0 c.args.at d q.3 p here in
    let held = some-held (cached_of d.1) (c.may_refill.ensures.held c.if-may_refill.true) in
    let own = of-at k.cache.entries k.readers.items c.args.at d (in-range q.0 k.readers.items c.args.at p) here q.3.apart in
    on-ok-weaker c.populate.result _ _ (λ known. subst (λ (x : ℕ × PartitionReader). IsRefilled x.1 k new) (sym same)
    (inr (put-in-place k new d held.0 held.1 own f.served.held.cached (λ none. known none) (λ id pin found on. c.populate.ensures.apart id pin found on) (λ key id found apart. c.populate.ensures.others key id found apart))))
    c.populate.ensures.known

pub returns-else-may_refill-clause-refilled : goal.returns-else-may_refill-clause-refilled
returns-else-may_refill-clause-refilled c = λ o there.
    let q = c.requires.place in
    let k = c.args.self.now in
    let d : ℕ × PartitionReader = c.index.result.now in
    let same : o ≡ d = same-there q.0 k.readers.items c.args.at o d (place-of q.0 k.readers.items c.args.at q.4) there (sym c.index.ensures) in
    inl ((λ may. c.may_refill.ensures.no c.if-may_refill.false (subst (λ (x : ℕ × PartitionReader). MayRefill k.folder.infos x.1) same may)), refl)

pub returns-then-may_refill-clause-stays : goal.returns-then-may_refill-clause-stays
returns-then-may_refill-clause-stays c =
    let k = c.args.self.now in
    let d : ℕ × PartitionReader = c.index.result.now in
    let new : Shard = record k { cache = c.populate.new.cache; unstored = in_chains c.populate.new.chains k.unstored } in
    on-ok-both c.populate.result _ _ _ (λ known stays. filled-known k new d.1.key c.requires.place.3.cached.are c.known.ensures.told (λ none. known none) (λ none q ne. stays none q ne)) c.populate.ensures.known c.populate.ensures.stays

pub returns-else-may_refill-clause-stays : goal.returns-else-may_refill-clause-stays
returns-else-may_refill-clause-stays c = λ none q. known-itself c.args.self.now q

pub returns-then-may_refill-clause-loses : goal.returns-then-may_refill-clause-loses
returns-then-may_refill-clause-loses c = c.populate.ensures.loses

pub returns-else-may_refill-clause-loses : goal.returns-else-may_refill-clause-loses
returns-else-may_refill-clause-loses c = let m = c.args.self.now.unstored.chains in loses-wider 131072 1 m m (loses-nothing 131072 m)

pub returns-then-may_refill-clause-beside : goal.returns-then-may_refill-clause-beside
returns-then-may_refill-clause-beside c = record { rest = c.populate.ensures.rest; keys = record { sealed = refl; active = refl }; folder = refl; readers = refl; answered = refl; segments = refl; asked = refl }

pub returns-else-may_refill-clause-beside : goal.returns-else-may_refill-clause-beside
returns-else-may_refill-clause-beside c = used-itself c.args.self.now
