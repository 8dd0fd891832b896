-- What open readers hold while they are closed, and what is left to the others.
use Rattle.std.proofs.Common.{◌≡◌, ◌==◌, ◌+◌, ◌≤◌, ℕ, not, List, [], ◌∷◌, ◌++◌, filter, length, map, get_or, remove, AllPairs, Option, Some, None, IfSome, refl, sym, ap, ◌∙◌, subst, le_refl, arith}
use Rattle.std.specs.List.{AllByRecursion, AllZip}
use Rattle.std.proofs.lemmas.List.{get_or_append_left, length-append, map-append}
use Rattle.rc_outside.specs.Files.{Files}
use Rattle.rc_schema.specs.SchemaValue.{SchemaValue}
use Rattle.rc_mutation.specs.declared.mutations.Mutation.{Mutation}
use Rattle.rc_mutation.specs.declared.mutations.Write.{Write}
use Rattle.rc_query.specs.declared.lines.OutLine.{OutLine}
use Rattle.rc_memory.specs.Memory.{KeptChain, Memory, chain_at}
use Rattle.rc_registry.specs.ChainKind.TheVariants.{Memtable}
use Rattle.rc_memory.specs.declared.counts.Counts.{Counts}
use Rattle.rc_stream.specs.Snapshot.{NoneLost}
use Rattle.rc_lookup.specs.Fillers.{losses}
use Rattle.rc_chain.specs.declared.chains.Snap.{Snap}
use Rattle.rc_cached.specs.Stands.{HasCacheSnapshot}
use Rattle.rc_snapshots.specs.Seeing.{HasSnap, StillSees}
use Rattle.rc_snapshots.specs.laws.Seeing.{there-then}
use Rattle.rc_lines.specs.declared.commands.Command.TheVariants.{Close}
use Rattle.rc_lines.specs.declared.commands.Reply.TheVariants as replies
use Rattle.rc_lookup.specs.Entries.{AreEntries}
use Rattle.rc_lookup.specs.Footprint.{AreInUse, HaveOneVersion, cache_snapshots, memtable_bytes}
use Rattle.rc_lookup.specs.LetGo.{NoCountFell}
use Rattle.rc_lookup.specs.Memtables.{HaveWrites, in_chains}
use Rattle.rc_lookup.specs.NoMore.{counts-same, counts-then}
use Rattle.rc_lookup.specs.Readers.{IsNoneOf}
use Rattle.rc_lookup.specs.Saying.{Below, CacheSays}
use Rattle.rc_lookup.specs.Unstored.{Unstored}
use Rattle.rc_paging.specs.declared.forms.PartReader.{PartReader}
use Rattle.rc_paging.specs.declared.layers.HeldSnaps.{HeldSnaps}
use Rattle.rc_paging.specs.Forms.{held_by}
use Rattle.rc_folder.specs.laws.Over.{over_reading}
use Rattle.rc_machine.specs.Serving.{Takes}
use Rattle.rc_machine.specs.State.{Reader, State}
use Rattle.rc_shard.specs.declared.readers.PartitionReader.{PartitionReader}
use Rattle.rc_shard.specs.declared.shard.Shard.{Shard}
use Rattle.rc_shard.specs.Cached.{HaveCached}
use Rattle.rc_shard.specs.Readers.{AreHeldThere, AreTwo, IsServed, cached_of, number_of_snaps, holding}
use Rattle.rc_shard.specs.Releasing.{IsSnapGivenBack}
use Rattle.rc_shard.specs.Stands.{AreFor, Stands}
use Rattle.rc_shard.specs.calls.Opened.{AreHeldReleased}
use Rattle.rc_shard.specs.calls.Staying.{Staying}
use Rattle.rc_shard.proofs.Looking.{Beside}
use Rattle.rc_shard.proofs.OfItsKey.{of-fewer}
use Rattle.rc_shard.proofs.Places.{IsPlace, in-range}
use Rattle.rc_shard.proofs.Served.{beside-still, cached-beside, cached-removed, each-later, fewer-two, pairs-rest, removed-served, share-back}
use Rattle.rc_shard.proofs.Standing.{opened-reading, sound-less, stands-cached}
use Rattle.rc_shard.proofs.Taking.{found-at, moved}

-- ---- what a snapshot of the row cache leaves that is taken back, if there is one

-- so much of it holds also where there is none
pub record IsPastRest (snap : Option Snap) (old new : Memory) : Type 0 where
  pub says : (schema : SchemaValue) (below : Below) → CacheSays schema below old → CacheSays schema below new
  pub entries : (entries : List (List ℕ × ℕ)) → AreEntries entries old → AreEntries entries new
  pub one : HaveOneVersion old → HaveOneVersion new
  pub used : AreInUse old → AreInUse new
  pub memtables : (id : ℕ) (k : KeptChain) → chain_at old id ≡ Some k → k.chain.kind ≡ Memtable → chain_at new id ≡ Some k
  pub seen : (t : Snap) → HasSnap old t → StillSees t old new
  pub pins : (id pin : ℕ) → IfSome snap (λ s. id ≡ s.chain → pin ≡ s.pin → ⊥) → HasCacheSnapshot old id pin → HasCacheSnapshot new id pin
  pub snapshots : cache_snapshots new + number_of_snaps snap ≤ cache_snapshots old
  pub bytes : memtable_bytes new ≤ memtable_bytes old
  pub segments : length new.region.usages ≡ length old.region.usages
  pub counts : new.counts ≡ old.counts
  pub fell : NoCountFell old new
  pub recency : new.recency ≡ old.recency

pub past-rest : (snap : Option Snap) (old new : Memory) → IsSnapGivenBack snap old new → IsPastRest snap old new
past-rest None old new same = subst (IsPastRest None old) (sym same) (record {
  says = λ schema below h. h;
  entries = λ es h. h;
  one = λ h. h;
  used = λ h. h;
  memtables = λ id k there kind. there;
  seen = λ t h. record { pin = h.pin; versions = refl; kind = refl };
  pins = λ id pin other h. h;
  snapshots = omega arith;
  bytes = le_refl (memtable_bytes old);
  segments = refl;
  counts = refl;
  fell = counts-same old old refl refl;
  recency = refl;
})
past-rest (Some s) old new r = record {
  says = r.says;
  entries = r.entries;
  one = r.one;
  used = r.used;
  memtables = r.memtables;
  seen = r.seen;
  pins = r.pins;
  snapshots = r.snapshots;
  bytes = r.bytes;
  segments = r.segments;
  counts = r.counts;
  fell = r.fell;
  recency = r.recency;
}

-- nothing was lost since
pub lost-past : (old mid new : Memory) → mid.counts ≡ old.counts → NoneLost (losses old) (losses new) → NoneLost (losses mid) (losses new)
lost-past old mid new same none = subst (λ (c : Counts). NoneLost (c.evicted + c.skipped) (losses new)) (sym same) none

-- what was written stays
pub writes-past : Beside → (snap : Option Snap) (u : Unstored 131072) (n : Memory) → IsPastRest snap u.chains n → (schema : SchemaValue) (writes later : List Write) → HaveWrites schema u writes later → HaveWrites schema (in_chains n u) writes later
writes-past beside snap u n r schema writes later h = beside schema u n writes later
    (λ key id e. let k = h.sealed.kept key id e in r.memtables id k.0 k.1 k.2.kind ∙ sym k.1) (λ key id e. let k = h.active.kept key id e in r.memtables id k.0 k.1 k.2.kind ∙ sym k.1) h

-- both calls together
module _ (beside : Beside) (held : HeldSnaps) (u v : Unstored 131072) (a : AreHeldReleased held u v) where
  pub back-rest : IsPastRest held.cached u.chains a.mid
  back-rest = past-rest held.cached u.chains a.mid a.past

  pub back-writes : (schema : SchemaValue) (writes later : List Write) → HaveWrites schema u writes later → HaveWrites schema v writes later
  back-writes schema writes later h = a.both.stands schema writes later (writes-past beside held.cached u a.mid back-rest schema writes later h)

  -- a snapshot of what is written that is none of these sees what it saw
  pub back-seen : (s : Snap) → HasSnap u.chains s → IsNoneOf held.written s → StillSees s u.chains v.chains
  back-seen s h none =
      let first = back-rest.seen s h in
      let since = a.both.others s none first.pin in
      record { pin = since.pin; versions = since.versions ∙ first.versions; kind = since.kind ∙ first.kind }

  pub back-pins : (id pin : ℕ) → IfSome held.cached (λ s. id ≡ s.chain → pin ≡ s.pin → ⊥) → HasCacheSnapshot u.chains id pin → HasCacheSnapshot v.chains id pin
  back-pins id pin other h = a.cache.left.snapshots.each id pin (back-rest.pins id pin other h)

  pub back-counts : NoCountFell u.chains v.chains
  back-counts = counts-then u.chains a.mid v.chains back-rest.fell a.both.room.counts

last-of : {X : Type 0} (P : X → Type 0) (xs : List X) (y : X) → AllByRecursion P (xs ++ y ∷ []) → P y
last-of P [] y h = h.0
last-of P (x ∷ xs) y h = last-of P xs y h.1

pub last-held : (m : Memory) (x : ℕ × PartitionReader) (os : List (ℕ × PartitionReader)) → AllByRecursion (λ o. AreHeldThere m (held_by o.1.reader)) (os ++ x ∷ []) → AreHeldThere m (held_by x.1.reader)
last-held m x os h = last-of (λ o. AreHeldThere m (held_by o.1.reader)) os x h

pub closed-held : (m n : Memory) (x : ℕ × PartitionReader) (os : List (ℕ × PartitionReader)) → ((s : Snap) → HasSnap m s → IsNoneOf (held_by x.1.reader).written s → StillSees s m n) → ((id pin : ℕ) → IfSome (held_by x.1.reader).cached (λ s. id ≡ s.chain → pin ≡ s.pin → ⊥) → HasCacheSnapshot m id pin → HasCacheSnapshot n id pin) →
    AllPairs AreTwo (map holding (os ++ x ∷ [])) → AllByRecursion (λ o. AreHeldThere m (held_by o.1.reader)) (os ++ x ∷ []) → AllByRecursion (λ o. AreHeldThere n (held_by o.1.reader)) os
closed-held m n x [] sees pins two h = tt
closed-held m n x (o ∷ os) sees pins two h =
    let later = each-later AreTwo (holding o) (map holding (os ++ x ∷ [])) two in
    let apart : AreTwo (holding o) (holding x) = last-of (AreTwo (holding o)) (map holding os) (holding x) (subst (AllByRecursion (AreTwo (holding o))) (map-append holding os (x ∷ [])) later) in
    let share = share-back (held_by o.1.reader) (held_by x.1.reader) apart.snaps in
    let seen = beside-still (held_by x.1.reader).written (held_by o.1.reader).written m n sees share.sealed share.active h.0.written in
    (record { written = there-then m n (held_by o.1.reader).written h.0.written seen; two = h.0.two; cached = cached-beside (held_by x.1.reader).cached m n (held_by o.1.reader).cached pins share.cached h.0.cached }, closed-held m n x os sees pins (pairs-rest AreTwo (holding o) (map holding (os ++ x ∷ [])) two) h.1)

pairs-front : {X : Type 0} (R : X → X → Type 0) (xs ys : List X) → AllPairs R (xs ++ ys) → AllPairs R xs
pairs-front R xs ys h = λ i j d l k.
    let long : length (xs ++ ys) ≡ length xs + length ys = length-append xs ys in
    subst (λ z. R (get_or xs i d) z) (get_or_append_left xs ys d j k) (subst (λ z. R z (get_or (xs ++ ys) j d)) (get_or_append_left xs ys d i (omega (arith, l, k))) (h i j d l (omega (arith, long, k))))

pub front-two : (x : ℕ × PartitionReader) (os : List (ℕ × PartitionReader)) → AllPairs AreTwo (map holding (os ++ x ∷ [])) → AllPairs AreTwo (map holding os)
front-two x os two = pairs-front AreTwo (map holding os) (map holding (x ∷ [])) (subst (AllPairs AreTwo) (map-append holding os (x ∷ [])) two)

pub served-held : (lines : PartReader → Memory → List Mutation → List OutLine → Type 0) (below : ℕ → List Mutation) (st : State) (m : Memory) (os : List (ℕ × PartitionReader)) (rs : List (ℕ × Reader)) → AllZip (IsServed lines below st m) os rs → AllByRecursion (λ o. AreHeldThere m (held_by o.1.reader)) os
served-held lines below st m [] rs h = tt
served-held lines below st m (o ∷ os) [] h = absurd h
served-held lines below st m (o ∷ os) (r ∷ rs) h = (h.0.held, served-held lines below st m os rs h.1)

-- ---- one is closed

module _ (lines : PartReader → Memory → List Mutation → List OutLine → Type 0) (stays : Staying lines) (beside : Beside) where
  pub takes-close : (files : Option Files) (k k' : Shard) (id at : ℕ) (d : ℕ × PartitionReader) → IsPlace id k.readers.items at → get_or k.readers.items at d ≡ d → k'.folder ≡ k.folder → k'.cache.entries ≡ k.cache.entries → k'.segments ≡ k.segments → k'.readers.items ≡ remove k.readers.items at →
      AreHeldReleased (held_by d.1.reader) k.unstored k'.unstored → Takes (Stands lines) files k (Close id) replies.Fine files k'
  takes-close files k k' id at d p here folder cache segs items back = λ m s.
      let held = held_by d.1.reader in
      let f = found-at lines files k m id at d s p here in
      let given : List (ℕ × Reader) = filter (λ reader. not (reader.0 == id)) m.readers in
      let new : State = record m { readers = given } in
      let first = past-rest held.cached k.unstored.chains back.mid back.past in
      let rest = back.cache.left in
      let cached : HaveCached k.folder.schema k.cache.entries k'.unstored.chains new = record {
        limits = s.cached.limits;
        small = s.cached.small;
        below = s.cached.below;
        fit = s.cached.fit;
        says = rest.says k.folder.schema (λ id phase. s.cached.below id) (first.says k.folder.schema (λ id phase. s.cached.below id) s.cached.says);
        of_tables = λ key id found. (let j = s.cached.of_tables key id found in record { join = j.join; said = j.said; is = j.is; mutation = j.mutation; of_tables = j.of_tables; joined = j.joined });
        are = rest.entries k.cache.entries (first.entries k.cache.entries s.cached.are);
        one = rest.one (first.one s.cached.one);
        used = rest.used (first.used s.cached.used);
      } in
      let served = removed-served lines stays m new (opened-reading m given) k.unstored.chains k'.unstored.chains s.cached.below (stands-cached lines stays k.folder.schema k.cache.entries k'.unstored.chains new cached) held
      (back-seen beside held k.unstored k'.unstored back) (back-pins beside held k.unstored k'.unstored back) id at d k.readers.items m.readers (ap (λ (o : ℕ × PartitionReader). held_by o.1.reader) here) p s.two s.served in
      let t = sound-less k.unstored.chains k'.unstored.chains m (back.both.room.budget ∙ first.segments) (let a = first.bytes in let b = back.cache.bytes in omega (arith, a, b)) s.sound in
      let made : AreFor lines files k.folder k'.unstored k.cache.entries (remove k.readers.items at) k.segments 0 new = record {
        over = over_reading files k.folder.schema k.folder.infos m given s.over;
        have = record { sealed = s.have.sealed; later = s.have.later; have = back-writes beside held k.unstored k'.unstored back k.folder.schema s.have.sealed s.have.later s.have.have; are = s.have.are; count = s.have.count };
        whole = s.whole;
        left = s.left;
        budget = s.budget;
        sound = record { mutations = t.mutations; budget = t.budget; weigh = t.weigh };
        cached = cached;
        taken = (
            let a = s.taken in
            let b = first.snapshots in
            let c = rest.snapshots.number in
            let sum = cached-removed at d k.readers.items (in-range id k.readers.items at p) in
            let e = ap (λ (o : ℕ × PartitionReader). number_of_snaps (cached_of o.1)) here in
            omega (arith, a, b, c, sum, e));
        served = served;
        two = fewer-two id at k.readers.items p s.two;
        apart = of-fewer k.cache.entries k.readers.items at s.apart;
      } in
      (new, rw (f.found) (refl, refl), moved lines files k k' k'.unstored (remove k.readers.items at) new folder refl cache segs items made)
