-- The reader's place is that of its id; its snapshots are taken back.
use Rattle.std.proofs.Common.{inl, ◌≡◌, ◌==◌, ℕ, List, Some, None, position, refl, sym, subst}
use Rattle.rc_paging.specs.declared.layers.HeldSnaps.{HeldSnaps}
use Rattle.rc_shard.specs.declared.readers.PartitionReader.{PartitionReader}
use Rattle.rc_shard.specs.declared.shard.Shard.{Shard}
use Rattle.rc_shard.specs.Readers.{AreHeldThere}
use Rattle.rc_shard.specs.calls.Opened.{AreHeldReleased}
use Rattle.rc_shard.proofs.Closing.{back-counts, lost-past, past-rest, takes-close}
use Rattle.rc_shard.proofs.Counted.{counts-itself}
use Rattle.rc_shard.proofs.Known.{back-known, known-itself}
use Rattle.rc_shard.proofs.Places.{nowhere-of, place-of}
use Rattle.rc_shard.proofs.Taking.{found-at, takes-no-close}
use Rattle.rc_shard.proofs.shard.Shard.close_reader.Goals as goal

pub release_held-requires : goal.release_held-requires
release_held-requires c =
    let s = c.requires in
    let at = place-of c.args.id c.args.self.now.readers.items c.in-Some.at (subst (λ (os : List (ℕ × PartitionReader)). position (λ reader. reader.0 == c.args.id) os ≡ Some c.in-Some.at) c.as_slice.ensures.value (sym c.in-Some.ensures)) in
    let f = found-at _ s.0 c.args.self.now s.1 c.args.id c.in-Some.at c.remove-id.result s.2 at (sym c.remove-id.ensures.value) in
    subst (AreHeldThere c.args.self.now.unstored.chains) (sym c.held_of.ensures) f.served.held

pub returns-in-None-clause-step : goal.returns-in-None-clause-step
returns-in-None-clause-step c = λ files.
    takes-no-close _ files c.args.self.now c.args.id (nowhere-of c.args.id c.args.self.now.readers.items (subst (λ (os : List (ℕ × PartitionReader)). position (λ reader. reader.0 == c.args.id) os ≡ None) c.as_slice.ensures.value (sym c.in-None.ensures)))

pub returns-in-Some-clause-step : goal.returns-in-Some-clause-step
returns-in-Some-clause-step c = λ files.
    let at = place-of c.args.id c.args.self.now.readers.items c.in-Some.at (subst (λ (os : List (ℕ × PartitionReader)). position (λ reader. reader.0 == c.args.id) os ≡ Some c.in-Some.at) c.as_slice.ensures.value (sym c.in-Some.ensures)) in
    let new : Shard = record c.args.self.now { unstored = c.release_held.new.unstored; readers = c.remove-id.new.self } in
    takes-close _ c.a_reader_stays.ensures (λ schema u n writes later. c.what_leaves_the_chains_of_both_leaves_their_writes.ensures.beside 131072 schema u n writes later)
    files c.args.self.now new c.args.id c.in-Some.at c.remove-id.result at (sym c.remove-id.ensures.value) refl refl refl c.remove-id.ensures.items
    (subst (λ (h : HeldSnaps). AreHeldReleased h c.args.self.now.unstored c.release_held.new.unstored) c.held_of.ensures c.release_held.ensures)

pub returns-in-None-clause-counts : goal.returns-in-None-clause-counts
returns-in-None-clause-counts c = counts-itself c.args.self.now

pub returns-in-Some-clause-counts : goal.returns-in-Some-clause-counts
returns-in-Some-clause-counts c = record {
  answered = refl;
  segments = refl;
  asked = refl;
  none_fell = back-counts (λ schema u n writes later. c.what_leaves_the_chains_of_both_leaves_their_writes.ensures.beside 131072 schema u n writes later) c.held_of.result c.args.self.now.unstored c.release_held.new.unstored c.release_held.ensures;
}

pub returns-in-None-clause-same : goal.returns-in-None-clause-same
returns-in-None-clause-same c = refl

pub returns-in-Some-clause-same : goal.returns-in-Some-clause-same
returns-in-Some-clause-same c = c.release_held.ensures.counts

pub returns-in-None-clause-stays : goal.returns-in-None-clause-stays
returns-in-None-clause-stays c = λ none key listed. known-itself c.args.self.now key

pub returns-in-Some-clause-stays : goal.returns-in-Some-clause-stays
returns-in-Some-clause-stays c = λ none key listed.
    let k = c.args.self.now in
    let new : Shard = record k { unstored = c.release_held.new.unstored; readers = c.remove-id.new.self } in
    let s = c.requires.2 in
    let b = c.release_held.ensures in
    let rest = past-rest c.held_of.result.cached k.unstored.chains b.mid b.past in
    back-known c.held_of.result.cached k new b.mid key s.cached.are c.known.ensures.told refl b.past b.cache.left (lost-past k.unstored.chains b.mid c.release_held.new.unstored.chains rest.counts none) (inl listed)
