-- What asking the row cache, and filling it, leaves of what a shard stands for.
use Rattle.std.proofs.Common.{inl, inr, ◌≡◌, ◌==◌, ◌≤◌, ◌+◌, ℕ, List, Option, Some, None, IsSome, Result, Ok, Err, IfOk, refl, sym, ap, ◌∙◌, subst, le_refl, length, arith}
use Rattle.std.specs.Prelude.{[], ◌∷◌, IfSome, IsSomeAnd, IsTrue, MatchOption, OnErr, OnOk}
use Rattle.std.specs.Map.{lookup}
use Rattle.std.specs.List.{AllByRecursion, AllZip}
use Rattle.std.specs.Option.{option_map}
use Rattle.rc_outside.specs.Files.{Files}
use Rattle.rc_schema.specs.SchemaValue.{SchemaValue}
use Rattle.rc_mutation.specs.declared.mutations.Write.{Write}
use Rattle.rc_mutation.specs.declared.mutations.Mutation.{Mutation}
use Rattle.rc_query.specs.declared.lines.OutLine.{OutLine}
use Rattle.rc_registry.specs.ChainKind.{ChainKind}
use Rattle.rc_registry.specs.ChainKind.TheVariants.{Memtable}
use Rattle.rc_core.specs.Chain.{has_flag}
use Rattle.rc_core.specs.laws.Pins.{pin-others, pin-was-free}
use Rattle.rc_registry.specs.Continuity.{static_states}
use Rattle.rc_registry.specs.Steps.{pin_at}
use Rattle.rc_registry.specs.Version.{Version}
use Rattle.rc_memory.specs.Memory.{HasPin, KeptChain, Memory, chain_at, snapshot_number, with_snapshot}
use Rattle.rc_chain.specs.declared.chains.Snap.{Snap}
use Rattle.rc_lookup.specs.LetGo.{NoCountFell}
use Rattle.rc_lookup.specs.Writes.{HasWrites, chain_of}
use Rattle.rc_lookup.specs.NoMore.{counts-same, counts-then}
use Rattle.rc_lookup.specs.Fillers.{losses}
use Rattle.rc_cached.specs.Stands.{HasCacheSnapshot}
use Rattle.rc_snapshots.specs.Seeing.{AllStillSee}
use Rattle.rc_snapshots.specs.Snapshots.{kind_in, kind_seen, versions_in, versions_seen, versions_upto}
use Rattle.rc_snapshots.specs.laws.Seeing.{all-see, seen-then}
use Rattle.rc_stream.specs.Snapshot.{NoneLost}
use Rattle.rc_lookup.specs.Unstored.{Unstored}
use Rattle.rc_lookup.specs.Memtables.{HaveWrites, in_chains}
use Rattle.rc_lookup.specs.Readers.{IsTakenIf}
use Rattle.rc_lookup.specs.Entries.{AreEntries}
use Rattle.rc_lookup.specs.Found.{IsForgotten, entry_number}
use Rattle.rc_lookup.specs.Known.{KnowsStaticRow}
use Rattle.rc_lookup.specs.Saying.{Below, CacheSays}
use Rattle.rc_lookup.specs.Footprint.{AreInUse, HaveOneVersion, cache_snapshots, memtable_bytes}
use Rattle.rc_lookup.specs.Held.{IsHeldOf}
use Rattle.rc_lookup.specs.Rest.{LeavesBut, LeavesRest}
use Rattle.rc_lookup.specs.Looked.{IsCacheOver}
use Rattle.rc_paging.specs.declared.forms.PartReader.{PartReader}
use Rattle.rc_folder.specs.Tabled.{Tabled}
use Rattle.rc_machine.specs.State.{Reader, State}
use Rattle.rc_shard.specs.declared.readers.PartitionReader.{PartitionReader}
use Rattle.rc_shard.specs.declared.readers.Source.{Source}
use Rattle.rc_shard.specs.declared.readers.Source.TheVariants as source
use Rattle.rc_shard.specs.Filling.{IsCachedByReader, IsHeldByReader, ReadsLatest}
use Rattle.rc_shard.specs.declared.shard.Shard.{Shard}
use Rattle.rc_shard.specs.Cached.{HaveCached}
use Rattle.rc_shard.specs.Knowing.{IsChainWhere}
use Rattle.rc_shard.specs.Readers.{IsCachedThere, IsOtherSnap, IsServed, cached_of, number_of_snaps}
use Rattle.rc_shard.specs.Stands.{AreFor, Stands}
use Rattle.rc_shard.specs.Using.{LeavesBeside}
use Rattle.rc_shard.specs.calls.Keeping.{CountsStay}
use Rattle.rc_shard.specs.calls.Looking.{IsCacheUsed, IsEntrySnapshot, IsSourceIn, IsSourceKnown, snap_taken, source_snap}
use Rattle.rc_shard.specs.calls.Staying.{Staying}
use Rattle.rc_shard.proofs.Numbered.{chain-beside, chain-here, here-or-beside}
use Rattle.rc_shard.proofs.Served.{all-served, below-served, same-opened}
use Rattle.rc_shard.proofs.OfItsKey.{all-still}
use Rattle.rc_shard.proofs.Standing.{sound-less, stands-cached}

-- ---- what is left

-- what is left of everything else, where so many snapshots of the row cache were taken
pub record IsRest (more : ℕ) (old new : Memory) : Type 0 where
  pub memtables : (id : ℕ) (k : KeptChain) → chain_at old id ≡ Some k → k.chain.kind ≡ Memtable → chain_at new id ≡ Some k
  pub seen : AllStillSee old new
  pub segments : length new.region.usages ≡ length old.region.usages
  pub counts : NoCountFell old new
  pub bytes : memtable_bytes new ≤ memtable_bytes old
  pub one : HaveOneVersion old → HaveOneVersion new
  pub used : HaveOneVersion old → AreInUse old → AreInUse new
  pub pins : (id pin : ℕ) → HasCacheSnapshot old id pin → HasCacheSnapshot new id pin
  pub snapshots : cache_snapshots new ≤ cache_snapshots old + more

pub rest-plain : (old new : Memory) → LeavesRest old new → IsRest 0 old new
rest-plain old new r = record { memtables = r.memtables; seen = r.seen; segments = r.segments; counts = r.counts; bytes = r.bytes; one = r.one; used = r.used; pins = r.pins; snapshots = (let a = r.snapshots in omega (arith, a)) }

pub rest-of : (taken : Option Snap) (old new : Memory) → LeavesBeside taken old new → IsRest (number_of_snaps taken) old new
rest-of None old new r = rest-plain old new r
rest-of (Some s) old new r = record { memtables = r.memtables; seen = r.seen; segments = r.segments; counts = r.counts; bytes = r.bytes; one = r.one; used = r.used; pins = r.pins; snapshots = r.snapshots }

-- ---- one call after another

rest-itself : (m : Memory) → LeavesRest m m
rest-itself m = record {
  memtables = λ id k there kind. there;
  seen = all-see m m (λ s on. record { pin = on; versions = refl; kind = refl });
  none_more = λ s on. on;
  segments = λ i. length m.region.usages;
  counts = counts-same m m refl refl;
  bytes = le_refl (memtable_bytes m);
  one = λ h. h;
  used = λ one h. h;
  pins = λ id pin h. h;
  snapshots = le_refl (cache_snapshots m);
}

rest-then : (old mid new : Memory) → LeavesRest old mid → LeavesRest mid new → LeavesRest old new
rest-then old mid new f g = record {
  memtables = λ id k there kind. g.memtables id k (f.memtables id k there kind) kind;
  seen = seen-then old mid new f.seen g.seen;
  none_more = λ s on. f.none_more s (g.none_more s on);
  segments = g.segments ∙ f.segments;
  counts = counts-then old mid new f.counts g.counts;
  bytes = (let a = f.bytes in let b = g.bytes in omega (arith, a, b));
  one = λ h. g.one (f.one h);
  used = λ one h. g.used (f.one one) (f.used one h);
  pins = λ id pin h. g.pins id pin (f.pins id pin h);
  snapshots = (let a = f.snapshots in let b = g.snapshots in omega (arith, a, b));
}

but-then : (s : Snap) (old mid new : Memory) → LeavesRest old mid → LeavesBut s mid new → LeavesBut s old new
but-then s old mid new f g = record {
  memtables = λ id k there kind. g.memtables id k (f.memtables id k there kind) kind;
  seen = seen-then old mid new f.seen g.seen;
  none_more = λ t on. elim (g.none_more t on) [ inl was ↦ inl (f.none_more t was) | inr it ↦ inr it ];
  segments = g.segments ∙ f.segments;
  counts = counts-then old mid new f.counts g.counts;
  bytes = (let a = f.bytes in let b = g.bytes in omega (arith, a, b));
  one = λ h. g.one (f.one h);
  used = λ one h. g.used (f.one one) (f.used one h);
  pins = λ id pin h. g.pins id pin (f.pins id pin h);
  snapshots = (let a = f.snapshots in let b = g.snapshots in omega (arith, a, b));
}

beside-then : (taken : Option Snap) (old mid new : Memory) → LeavesRest old mid → LeavesBeside taken mid new → LeavesBeside taken old new
beside-then None old mid new f g = rest-then old mid new f g
beside-then (Some s) old mid new f g = but-then s old mid new f g

pub used-itself : (k : Shard) → IsCacheUsed None k k
used-itself k = record { rest = rest-itself k.unstored.chains; keys = record { sealed = refl; active = refl }; folder = refl; readers = refl; answered = refl; segments = refl; asked = refl }

pub used-then : (taken : Option Snap) (k l k' : Shard) → IsCacheUsed None k l → IsCacheUsed taken l k' → IsCacheUsed taken k k'
used-then taken k l k' f g = record {
  rest = beside-then taken k.unstored.chains l.unstored.chains k'.unstored.chains f.rest g.rest;
  keys = record { sealed = g.keys.sealed ∙ f.keys.sealed; active = g.keys.active ∙ f.keys.active };
  folder = g.folder ∙ f.folder;
  readers = g.readers ∙ f.readers;
  answered = g.answered ∙ f.answered;
  segments = g.segments ∙ f.segments;
  asked = g.asked ∙ f.asked;
}

-- the counts stay where the cache was asked, and where calls behind that let them
pub counts-used : (taken : Option Snap) (k l : Shard) → IsCacheUsed taken k l → CountsStay k l
counts-used taken k l u = record { answered = u.answered; segments = u.segments; asked = u.asked; none_fell = (rest-of taken k.unstored.chains l.unstored.chains u.rest).counts }

pub counts-behind : (taken : Option Snap) (k l k' : Shard) → IsCacheUsed taken k l → CountsStay l k' → CountsStay k k'
counts-behind taken k l k' u c = record {
  answered = c.answered ∙ u.answered;
  segments = c.segments ∙ u.segments;
  asked = c.asked ∙ u.asked;
  none_fell = counts-then k.unstored.chains l.unstored.chains k'.unstored.chains (rest-of taken k.unstored.chains l.unstored.chains u.rest).counts c.none_fell;
}

-- where nothing was lost over several calls nothing was lost at one of them
-- so nothing was skipped
pub skipped-within : (a b c d : Memory) → NoCountFell a b → NoCountFell b c → NoCountFell c d → NoneLost a.counts.skipped d.counts.skipped → NoneLost b.counts.skipped c.counts.skipped
skipped-within a b c d f g h none =
    let e = none.0 in
    let l = none.1 in
    let first = f.skipped in
    let second = g.skipped in
    let third = h.skipped in
    (omega (arith, e, first, second, third), omega (arith, e, l, first, second, third))

pub lost-within : (a b c d : Memory) → NoCountFell a b → NoCountFell b c → NoCountFell c d → NoneLost (losses a) (losses d) → NoneLost (losses b) (losses c)
lost-within a b c d f g h none =
    let e = none.0 in
    let l = none.1 in
    let f-evicted = f.evicted in
    let f-skipped = f.skipped in
    let g-evicted = g.evicted in
    let g-skipped = g.skipped in
    let h-evicted = h.evicted in
    let h-skipped = h.skipped in
    (omega (arith, e, f-evicted, f-skipped, g-evicted, g-skipped, h-evicted, h-skipped), omega (arith, l, h-evicted, h-skipped))

pub no-count : (m : Memory) → NoCountFell m m
no-count m = counts-same m m refl refl

-- ---- memtables and snapshots

-- what leaves the chains of both memtables leaves their writes
abbrev pub Beside : Type 0
Beside = (schema : SchemaValue) (u : Unstored 131072) (m : Memory) (writes later : List Write) → ((key : List ℕ) (id : ℕ) → chain_of u.sealed key ≡ Some id → chain_at m id ≡ chain_at u.chains id) → ((key : List ℕ) (id : ℕ) → chain_of u.active key ≡ Some id → chain_at m id ≡ chain_at u.chains id) →
    HaveWrites schema u writes later → HaveWrites schema (in_chains m u) writes later

chain-still : (more : ℕ) (m n : Memory) → IsRest more m n → (schema : SchemaValue) (keys : List (List ℕ × ℕ)) (writes : List Write) → HasWrites schema keys m writes → (key : List ℕ) (id : ℕ) → chain_of keys key ≡ Some id → chain_at n id ≡ chain_at m id
chain-still more m n r schema keys writes h key id e = let k = h.kept key id e in r.memtables id k.0 k.1 k.2.kind ∙ sym k.1

writes-still : Beside → (more : ℕ) (u : Unstored 131072) (n : Memory) → IsRest more u.chains n → (schema : SchemaValue) (writes later : List Write) → HaveWrites schema u writes later → HaveWrites schema (in_chains n u) writes later
writes-still beside more u n r schema writes later h = beside schema u n writes later (chain-still more u.chains n r schema u.sealed writes h.sealed) (chain-still more u.chains n r schema u.active later h.active) h

-- ---- what the cache says

-- what lies below the cache fits the schema
pub over-of : (schema : SchemaValue) (entries : List (List ℕ × ℕ)) (m : Memory) (st : State) (h : HaveCached schema entries m st) → IsCacheOver 131072 schema (λ id phase. h.below id) m
over-of schema entries m st h = record { limits = h.limits; small = h.small; fits = λ id phase. h.fit id; says = h.says }

-- a snapshot that was not there before is no reader's
some-is : (o : Option ℕ) (j : ℕ) → o ≡ Some j → IsSome o
some-is None j e = absurd (cc)
some-is (Some i) j e = refl

-- a snapshot of the row cache is there
has-pin : (m : Memory) (s : Snap) → HasCacheSnapshot m s.chain s.pin → HasPin m s.chain s.pin
has-pin m s h = subst (λ (o : Option KeptChain). IsSomeAnd o (λ q. IsSome (pin_at q.chain.pins s.pin))) (sym h.there) (some-is (pin_at h.chain.chain.pins s.pin) h.number h.pinned)

not-this : (m : Memory) (s : Snap) → (HasPin m s.chain s.pin → ⊥) → (o : Option Snap) → IsCachedThere m o → IsOtherSnap o s
not-this m s fresh None h = tt
not-this m s fresh (Some t) h = λ c p. fresh (subst (λ i. HasPin m i s.pin) (sym c) (subst (λ i. HasPin m t.chain i) (sym p) (has-pin m t h)))

none-taken : (lines : PartReader → Memory → List Mutation → List OutLine → Type 0) (below : ℕ → List Mutation) (st : State) (m : Memory) (s : Snap) (fresh : HasPin m s.chain s.pin → ⊥) (os : List (ℕ × PartitionReader)) (rs : List (ℕ × Reader)) → AllZip (IsServed lines below st m) os rs → AllByRecursion (λ o. IsOtherSnap (cached_of o.1) s) os
none-taken lines below st m s fresh [] rs h = tt
none-taken lines below st m s fresh (o ∷ os) [] h = absurd h
none-taken lines below st m s fresh (o ∷ os) (r ∷ rs) h = (not-this m s fresh (cached_of o.1) h.0.held.cached, none-taken lines below st m s fresh os rs h.1)

-- a snapshot that was handed out is one of the partition's entry
pub entry-snapshot : (lines : PartReader → Memory → List Mutation → List OutLine → Type 0) (files : Option Files) (k k' : Shard) (m : State) (key : List ℕ) (s : Snap) → Stands lines files k m → k'.readers ≡ k.readers → IsHeldOf key k'.cache.entries k.unstored.chains k'.unstored.chains s → IsEntrySnapshot k' key s
entry-snapshot lines files k k' m key s stands same h = record {
  entry = h.entry;
  there = h.there;
  apart = subst (AllByRecursion (λ o. IsOtherSnap (cached_of o.1) s)) (sym (ap (λ rs. rs.items) same)) (none-taken lines stands.cached.below m k.unstored.chains s h.fresh k.readers.items m.readers stands.served);
}

-- what is left by the answer of a call that hands out a snapshot, if it does
pub beside-of : {E : Type 0} (r : Result (Option Snap) E) (old new : Memory) → IfOk r (λ o. MatchOption o (LeavesRest old new) (λ s. LeavesBut s old new)) → OnErr r (LeavesRest old new) → LeavesBeside (snap_taken r) old new
beside-of (Ok None) old new h k = h
beside-of (Ok (Some s)) old new h k = h
beside-of (Err e) old new h k = k

-- what holds of a snapshot that may have been handed out
pub if-some : {E : Type 0} (r : Result (Option Snap) E) (P Q : Snap → Type 0) → ((s : Snap) → P s → Q s) → IfOk r (λ o. IfSome o P) → IfOk r (λ o. IfSome o Q)
if-some (Ok None) P Q f h = tt
if-some (Ok (Some s)) P Q f h = f s h
if-some (Err e) P Q f h = tt

pub both-some : {E : Type 0} (r : Result (Option Snap) E) (P Q : Snap → Type 0) → IfOk r (λ o. IfSome o P) → IfOk r (λ o. IfSome o Q) → IfOk r (λ o. IfSome o (λ s. P s × Q s))
both-some (Ok None) P Q h k = tt
both-some (Ok (Some s)) P Q h k = (h, k)
both-some (Err e) P Q h k = tt

-- what holds anyway, and what follows, where a call is done
pub on-ok : {A E : Type 0} (r : Result A E) (P : Type 0) → P → OnOk r P
on-ok (Ok x) P h = h
on-ok (Err e) P h = tt

pub on-ok-weaker : {A E : Type 0} (r : Result A E) (P Q : Type 0) → (P → Q) → OnOk r P → OnOk r Q
on-ok-weaker (Ok x) P Q f h = f h
on-ok-weaker (Err e) P Q f h = tt

pub on-ok-both : {A E : Type 0} (r : Result A E) (P Q R : Type 0) → (P → Q → R) → OnOk r P → OnOk r Q → OnOk r R
on-ok-both (Ok x) P Q R f h k = f h k
on-ok-both (Err e) P Q R f h k = tt

pub none-some : (o : Option Snap) → o ≡ None → IsSome o → ⊥
none-some None e on = cc
none-some (Some t) e on = cc

-- a partition was looked up
abbrev pub cached-looked : (more : ℕ) (schema : SchemaValue) (a b : List (List ℕ × ℕ)) (m n : Memory) (st : State) → IsRest more m n → ((schema : SchemaValue) (below : Below) → CacheSays schema below m → CacheSays schema below n) → AreEntries b n → IsForgotten m.dropped a b → HaveCached schema a m st → HaveCached schema b n st
cached-looked more schema a b m n st r says are gone h = record {
  limits = h.limits;
  small = h.small;
  below = h.below;
  fit = h.fit;
  says = says schema (λ id phase. h.below id) h.says;
  of_tables = λ key id found. h.of_tables key id (gone.left key id found).0;
  are = are;
  one = r.one h.one;
  used = r.used h.one h.used;
}

-- ---- what is known

abbrev ChainIn : (ChainKind → List Version → Type 0) → Option KeptChain → Type 0
ChainIn P o = IsSomeAnd o (λ k. P k.chain.kind k.chain.versions)

pinned-known : (P : ChainKind → List Version → Type 0) (o : Option KeptChain) → ChainIn P o → ChainIn P (option_map (λ k. with_snapshot (snapshot_number k.chain) k) o)
pinned-known P None h = absurd h
pinned-known P (Some k) h = h

-- a snapshot that was taken takes nothing from what a chain knows
known-taken : (P : ChainKind → List Version → Type 0) (m n : Memory) (taken : Option Snap) → IsTakenIf m n taken → (id : ℕ) → IsChainWhere P m id → IsChainWhere P n id
known-taken P m n None same id h = subst (λ (x : Memory). IsChainWhere P x id) (sym same) h
known-taken P m n (Some s) taken id h =
    let is = ap (λ (x : Memory). x.chains) taken.now in
    let now = option_map (λ k. with_snapshot (snapshot_number k.chain) k) (chain_at m s.chain) in
    here-or-beside (λ i. ChainIn P (chain_at m i) → ChainIn P (chain_at n i)) s.chain id
    (λ on. subst (ChainIn P) (sym (chain-here m n s.chain now is)) (pinned-known P (chain_at m s.chain) on))
    (λ ne on. subst (ChainIn P) (sym (chain-beside m n s.chain now is id ne)) on) h

-- nor from what another snapshot sees
none-number : (o : Option ℕ) → o ≡ None → IsSome o → ⊥
none-number None e on = cc
none-number (Some i) e on = cc

seen-here : (o : Option KeptChain) (pin : ℕ) → IsSomeAnd o (λ q. IsSome (pin_at q.chain.pins pin)) → (versions_in (option_map (λ k. with_snapshot (snapshot_number k.chain) k) o) pin ≡ versions_in o pin) × (kind_in (option_map (λ k. with_snapshot (snapshot_number k.chain) k) o) ≡ kind_in o)
seen-here None pin on = absurd on
seen-here (Some k) pin on = (ap (versions_upto k.chain.versions) (pin-others (snapshot_number k.chain) k.chain.pins pin (λ free. none-number (pin_at k.chain.pins pin) (ap (pin_at k.chain.pins) free ∙ pin-was-free k.chain.pins) on)), refl)

seen-taken : (m n : Memory) (taken : Option Snap) → IsTakenIf m n taken → (id pin : ℕ) → IsSomeAnd (chain_at m id) (λ q. IsSome (pin_at q.chain.pins pin)) → (versions_in (chain_at n id) pin ≡ versions_in (chain_at m id) pin) × (kind_in (chain_at n id) ≡ kind_in (chain_at m id))
seen-taken m n None same id pin on = (ap (λ (x : Memory). versions_in (chain_at x id) pin) same, ap (λ (x : Memory). kind_in (chain_at x id)) same)
seen-taken m n (Some s) taken id pin on =
    let is = ap (λ (x : Memory). x.chains) taken.now in
    let now = option_map (λ k. with_snapshot (snapshot_number k.chain) k) (chain_at m s.chain) in
    here-or-beside (λ i. IsSomeAnd (chain_at m i) (λ q. IsSome (pin_at q.chain.pins pin)) → (versions_in (chain_at n i) pin ≡ versions_in (chain_at m i) pin) × (kind_in (chain_at n i) ≡ kind_in (chain_at m i))) s.chain id
    (λ here. let was = seen-here (chain_at m s.chain) pin here in let there = chain-here m n s.chain now is in (ap (λ o. versions_in o pin) there ∙ was.0, ap kind_in there ∙ was.1))
    (λ ne here. let there = chain-beside m n s.chain now is id ne in (ap (λ o. versions_in o pin) there, ap kind_in there)) on

pub head-taken : (m n : Memory) (taken : Option Snap) (s : Snap) → IsTakenIf m n taken → HasPin m s.chain s.pin → KnowsStaticRow m s → HasPin n s.chain s.pin × KnowsStaticRow n s
head-taken m n taken s t on known =
    let same = seen-taken m n taken t s.chain s.pin on in (
      pinned-still m n taken t s.chain s.pin on,
      subst (λ (vs : List Version). IsTrue (has_flag (kind_seen n s) (static_states vs))) (sym same.0) (subst (λ q. IsTrue (has_flag q (static_states (versions_seen m s)))) (sym same.1) known),
    )
  where
    pin-here : (o : Option KeptChain) (pin : ℕ) → IsSomeAnd o (λ q. IsSome (pin_at q.chain.pins pin)) → IsSomeAnd (option_map (λ k. with_snapshot (snapshot_number k.chain) k) o) (λ q. IsSome (pin_at q.chain.pins pin))
    pin-here None pin on = absurd on
    pin-here (Some k) pin on = subst (λ (i : Option ℕ). IsSome i) (sym (pin-others (snapshot_number k.chain) k.chain.pins pin (λ free. none-number (pin_at k.chain.pins pin) (ap (pin_at k.chain.pins) free ∙ pin-was-free k.chain.pins) on))) on

    pinned-still : (m n : Memory) (taken : Option Snap) → IsTakenIf m n taken → (id pin : ℕ) → HasPin m id pin → HasPin n id pin
    pinned-still m n None same id pin on = subst (λ (x : Memory). HasPin x id pin) (sym same) on
    pinned-still m n (Some s) taken id pin on =
        let is = ap (λ (x : Memory). x.chains) taken.now in
        let now = option_map (λ k. with_snapshot (snapshot_number k.chain) k) (chain_at m s.chain) in
        here-or-beside (λ i. HasPin m i pin → HasPin n i pin) s.chain id
        (λ here. subst (λ (o : Option KeptChain). IsSomeAnd o (λ q. IsSome (pin_at q.chain.pins pin))) (sym (chain-here m n s.chain now is)) (pin-here (chain_at m s.chain) pin here))
        (λ ne here. subst (λ (o : Option KeptChain). IsSomeAnd o (λ q. IsSome (pin_at q.chain.pins pin))) (sym (chain-beside m n s.chain now is id ne)) here) on

pub same-recency : (m n : Memory) (taken : Option Snap) → IsTakenIf m n taken → n.recency ≡ m.recency
same-recency m n None same = ap (λ (x : Memory). x.recency) same
same-recency m n (Some s) taken = ap (λ (x : Memory). x.recency) taken.now

pub some-known : (o : Option ℕ) (P Q : ℕ → Type 0) → ((id : ℕ) → P id → Q id) → IsSomeAnd o P → IsSomeAnd o Q
some-known None P Q f h = absurd h
some-known (Some id) P Q f h = f id h

pub known-pinned : (entry : Option ℕ) (m mid n : Memory) (first second : Option Snap) → IsTakenIf m mid first → IsTakenIf mid n second → (P : ChainKind → List Version → Type 0) → IsSomeAnd entry (IsChainWhere P m) → IsSomeAnd entry (IsChainWhere P n)
known-pinned entry m mid n first second a b P h = some-known entry (IsChainWhere P m) (IsChainWhere P n) (λ id k. known-taken P mid n second b id (known-taken P m mid first a id k)) h

-- ---- what a shard stands for

-- a reader that was opened over a snapshot holds it
pub cached-opened : (k new : Shard) (m : State) (id : ℕ) (key : List ℕ) (x : PartitionReader) (source : Source) → IsSourceIn k m key source → IsSome (source_snap source) → cached_of x ≡ source_snap source → new.cache.entries ≡ k.cache.entries → x.key ≡ key → lookup (λ q. q == id) new.readers.items ≡ Some x → ReadsLatest new.folder.infos x → IsCachedByReader id key new
cached-opened k new m id key x (source.Read list) is some snap entries own found latest = absurd (cc)
cached-opened k new m id key x (source.Cached s) is some snap entries own found latest = record {
  reader = x;
  found = found;
  of_key = own;
  holds = record { snap = s; held = snap; entry = subst (λ (q : List ℕ). entry_number new.cache.entries q ≡ Some s.chain) (sym own) (ap (λ es. entry_number es key) entries ∙ is.entry) };
  latest = latest;
}

-- to which the static row is known where it was
pub held-opened : (k new : Shard) (m : State) (id : ℕ) (key : List ℕ) (x : PartitionReader) (source : Source) → IsSourceIn k m key source → IsSourceKnown k.unstored.chains source → cached_of x ≡ source_snap source → new.cache.entries ≡ k.cache.entries → x.key ≡ key → lookup (λ q. q == id) new.readers.items ≡ Some x →
    ((s : Snap) → HasPin k.unstored.chains s.chain s.pin → KnowsStaticRow k.unstored.chains s → KnowsStaticRow new.unstored.chains s) → ReadsLatest new.folder.infos x → IsHeldByReader id key new
unfolding cached-opened
held-opened k new m id key x (source.Read list) is known snap entries own found keeps latest = absurd known
held-opened k new m id key x (source.Cached s) is known snap entries own found keeps latest = record {
  reads = cached-opened k new m id key x (source.Cached s) is refl snap entries own found latest;
  head = keeps s (has-pin k.unstored.chains s is.there) known;
}

module _ (lines : PartReader → Memory → List Mutation → List OutLine → Type 0) (stays : Staying lines) where
  -- where below chains of which no snapshot was taken something else lies now
  pub used-for : Beside → (told : Option Files) (f : Tabled) (u : Unstored 131072) (n : Memory) (a b : List (List ℕ × ℕ)) (readers : List (ℕ × PartitionReader)) (segments taken : ℕ) (m : State) → IsRest taken u.chains n → (cached : HaveCached f.schema b n m) (s : AreFor lines told f u a readers segments 0 m) →
      ((id pin : ℕ) → HasCacheSnapshot u.chains id pin → cached.below id ≡ s.cached.below id) → ((id pin : ℕ) → HasCacheSnapshot u.chains id pin → (key : List ℕ) → entry_number b key ≡ Some id → entry_number a key ≡ Some id) → AreFor lines told f (in_chains n u) b readers segments taken m
  used-for beside told f u n a b readers segments taken m r cached s same were = record {
    over = s.over;
    have = record { sealed = s.have.sealed; later = s.have.later; have = writes-still beside taken u n r f.schema s.have.sealed s.have.later s.have.have; are = s.have.are; count = s.have.count };
    whole = s.whole;
    left = s.left;
    budget = s.budget;
    sound = sound-less u.chains n m r.segments r.bytes s.sound;
    cached = cached;
    taken = (let a = s.taken in let b = r.snapshots in omega (arith, a, b));
    served = all-served lines stays m m (same-opened m) u.chains n cached.below (stands-cached lines stays f.schema b n m cached) readers m.readers r.seen r.pins (below-served lines s.cached.below cached.below m u.chains readers m.readers same s.served);
    two = s.two;
    apart = all-still u.chains a b were lines s.cached.below m readers m.readers s.served s.apart;
  }
