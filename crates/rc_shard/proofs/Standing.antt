-- For which state a shard stands after its calls.
use Rattle.std.proofs.Common.{◌≡◌, ℕ, ◌+◌, ◌-◌, ◌*◌, ◌/◌, ◌<◌, ◌≤◌, List, [], ◌∷◌, ◌++◌, length, map, sum_by, filter, slice_index_or, Option, Some, None, AllPairs, refl, sym, ap, subst, ◌∙◌, arith, append_assoc}
use Rattle.std.specs.Prelude.{Err, IfOk, IfSome, Ok, OnErr, Result}
use Rattle.std.specs.List.{AllByRecursion, AllZip}
use Rattle.std.proofs.Math.Seq.{drop-append-le}
use Rattle.std.proofs.lemmas.List.Elements.{All-append, All-cons}
use Rattle.std.proofs.lemmas.List.Sums.{sum_by_push}
use Rattle.lsa_region.specs.Region.{live_bytes}
use Rattle.rc_outside.specs.Files.{Files}
use Rattle.rc_schema.specs.SchemaValue.{SchemaValue}
use Rattle.rc_writes.specs.Weight.{weight}
use Rattle.rc_mutation.specs.declared.mutations.Mutation.{Mutation}
use Rattle.rc_mutation.specs.declared.mutations.Write.{Write}
use Rattle.rc_mutation.specs.Source.{IsMutation}
use Rattle.rc_query.specs.declared.lines.OutLine.{OutLine}
use Rattle.rc_lines.specs.Fits.{CommandFits}
use Rattle.rc_lines.specs.declared.commands.Command.TheVariants.{Put}
use Rattle.rc_registry.specs.ChainKind.TheVariants.{Cache, Memtable}
use Rattle.rc_memory.specs.Memory.{HasPin, KeptChain, Memory, chain_at}
use Rattle.rc_memory.specs.laws.Places.{no_some}
use Rattle.rc_chain.specs.declared.chains.Snap.{Snap}
use Rattle.rc_snapshots.specs.declared.snaps.Snaps.{Snaps}
use Rattle.rc_snapshots.specs.Seeing.{AreSameSnapshots, HasSnap, StillSees}
use Rattle.rc_snapshots.specs.Snapshots.{kind_seen}
use Rattle.rc_snapshots.specs.laws.Seeing.{all-see, seen-then}
use Rattle.rc_lookup.specs.Unstored.{Unstored}
use Rattle.rc_lookup.specs.Memtables.{HaveWrites, in_chains}
use Rattle.rc_lookup.specs.Readers.{IsNoneOf, IsSnapshotOfKey}
use Rattle.rc_cached.specs.Stands.{HasCacheSnapshot}
use Rattle.rc_paging.specs.declared.forms.PartReader.{PartReader}
use Rattle.rc_paging.specs.Pages.{StandsCached}
use Rattle.rc_shard.specs.declared.readers.PartitionReader.{PartitionReader}
use Rattle.rc_folder.specs.Tabled.{Tabled}
use Rattle.rc_folder.specs.laws.Over.{over_reading, over_written}
use Rattle.rc_machine.specs.Room.{MayBeFull}
use Rattle.rc_machine.specs.State.{Reader, State, Table, opened_state}
use Rattle.rc_machine.specs.Steps.{IsSaid}
use Rattle.rc_machine.specs.Tables.{AreListed, AreTables}
use Rattle.rc_shard.specs.Readers.{AreTwo, IsOfItsKey, IsServed, cached_readers, holding}
use Rattle.rc_shard.specs.Stands.{AreFor, AreSound, HaveUnstored}
use Rattle.rc_shard.specs.calls.Staying.{Staying}
use Rattle.rc_lookup.specs.LetGo.{TakesNoMore}
use Rattle.rc_lookup.specs.NoMore.{no-more-itself, no-more-then}
use Rattle.rc_memory.specs.Kept.{present}
use Rattle.rc_memory.specs.Room.{chain_bytes}
use Rattle.rc_lookup.specs.Footprint.{cache_snapshots, is_chain_of, memtable_bytes, snapshots_of}
use Rattle.rc_shard.specs.Cached.{HaveCached, IsJoinSaid}
use Rattle.rc_shard.specs.calls.Caching.{KeepsCache, LeavesCache}
use Rattle.rc_shard.specs.calls.Storing.{KeepsUnstored, TakesWrite}
use Rattle.rc_shard.proofs.Caching.{keeps-itself, keeps-then, leaves-itself}
use Rattle.rc_shard.proofs.Served.{AreSameOpened, all-served, same-opened}

-- what all writes weigh
abbrev pub weigh : List Write → ℕ
weigh writes = sum_by (λ (w : Write). weight w.change) writes

pub sound-less : (m n : Memory) (st : State) → length n.region.usages ≡ length m.region.usages → memtable_bytes n ≤ memtable_bytes m → AreSound m st → AreSound n st
sound-less m n st budget bytes s = record { mutations = s.mutations; budget = budget ∙ s.budget; weigh = let a = bytes in let b = s.weigh in omega (arith, a, b) }

-- what was said of a key in one state is said in another one
pub joined-still : (st new : State) (key : List ℕ) (changes : List Mutation) → ((said : List Mutation) → IsSaid st key said → IsSaid new key said) → IsJoinSaid st key changes → IsJoinSaid new key changes
joined-still st new key changes same j = record { join = j.join; said = j.said; is = j.is; mutation = j.mutation; of_tables = same j.said j.of_tables; joined = j.joined }

-- the cache has what it must
abbrev pub cached-still : (schema : SchemaValue) (entries : List (List ℕ × ℕ)) (m n : Memory) (st new : State) → ((key : List ℕ) (said : List Mutation) → IsSaid st key said → IsSaid new key said) → LeavesCache m n → HaveCached schema entries m st → HaveCached schema entries n new
cached-still schema entries m n st new same left h = record {
  limits = h.limits;
  small = h.small;
  below = h.below;
  fit = h.fit;
  says = left.says schema (λ id phase. h.below id) h.says;
  of_tables = λ key id found. joined-still st new key (h.below id) (same key) (h.of_tables key id found);
  are = left.entries entries h.are;
  one = left.one h.one;
  used = left.used h.used;
}

pub within : (told : Option Files) (f : Tabled) (u : Unstored 131072) (m : State) (sealed later : List Write) → m.stored ≤ m.sealed → m.sealed ≤ length m.log → m.stored ≤ length m.log
within told f u m sealed later a b = omega (arith, a, b)

-- where no chain is there memtables take nothing, and there is none of the cache
pub no-bytes : (m : Memory) → m.chains ≡ [] → memtable_bytes m ≡ 0
no-bytes m e = subst (λ (cs : List (Option KeptChain)). sum_by chain_bytes (filter (is_chain_of Memtable) (present cs)) ≡ 0) (sym e) refl

pub no-snapshots : (m : Memory) → m.chains ≡ [] → cache_snapshots m ≡ 0
no-snapshots m e = subst (λ (cs : List (Option KeptChain)). sum_by snapshots_of (filter (is_chain_of Cache) (present cs)) ≡ 0) (sym e) refl

pub no-chain : (m : Memory) → m.chains ≡ [] → (id : ℕ) (k : KeptChain) → chain_at m id ≡ Some k → ⊥
no-chain m e id k there = no_some k (ap (λ (cs : List (Option KeptChain)). slice_index_or cs id None) (sym e) ∙ there)

-- one write more
pub sound-more : (m n : Memory) (st : State) (w : Write) → IsMutation w.change → length n.region.usages ≡ length m.region.usages → memtable_bytes n ≤ memtable_bytes m + weight w.change → AreSound m st → AreSound n (record st { log = st.log ++ w ∷ [] })
sound-more m n st w is budget bytes s = record {
  mutations = All-append (λ (v : Write). IsMutation v.change) st.log (w ∷ []) s.mutations (All-cons (λ (v : Write). IsMutation v.change) w [] is (λ i d l. absurd (omega arith)));
  budget = budget ∙ s.budget;
  weigh =
      let whole : weigh (st.log ++ w ∷ []) ≡ weigh st.log + weight w.change = sum_by_push (λ (v : Write). weight v.change) st.log w in
      let a = s.weigh in omega (arith, whole, bytes, a);
}

pub unstored-more : (schema : SchemaValue) (u v : Unstored 131072) (m : State) (w : Write) → m.stored ≤ length m.log → ((writes later : List Write) → HaveWrites schema u writes later → HaveWrites schema v writes (later ++ w ∷ [])) → HaveUnstored schema u m → HaveUnstored schema v (record m { log = m.log ++ w ∷ [] })
unstored-more schema u v m w in_log stands h = record {
  sealed = h.sealed;
  later = h.later ++ w ∷ [];
  have = stands h.sealed h.later h.have;
  are = sym (append_assoc h.sealed h.later (w ∷ [])) ∙ ap (λ ws. ws ++ w ∷ []) h.are ∙ sym (drop-append-le m.stored m.log (w ∷ []) in_log);
  count = h.count;
}

-- a write may be refused where more is live than the bound
pub may-be-full : (n : Memory) (m : State) → AreSound n m → cache_snapshots n ≤ length m.readers → live_bytes n.region ≤ memtable_bytes n + 152 * cache_snapshots n → 3 * 131072 / 4 * (length n.region.usages - 2) < live_bytes n.region → MayBeFull m
may-be-full n m s taken live crowded = let a = s.weigh in let b = ap (λ k. 3 * 131072 / 4 * (k - 2)) s.budget in omega (arith, a, b, taken, live, crowded)

-- what holds holds after a failure
pub on-err : {A E : Type 0} (r : Result A E) (P : Type 0) → P → OnErr r P
on-err (Ok x) P h = tt
on-err (Err e) P h = h

pub on-each : {A E : Type 0} (r : Result A E) (Q P : State → Type 0) → ((m : State) → Q m → OnErr r (P m)) → OnErr r ((m : State) → Q m → P m)
on-each (Ok x) Q P f = tt
on-each (Err e) Q P f = λ m q. f m q

pub on-err-weaker : {A E : Type 0} (r : Result A E) (P Q : Type 0) → (P → Q) → OnErr r P → OnErr r Q
on-err-weaker (Ok x) P Q f h = tt
on-err-weaker (Err e) P Q f h = f h

pub if-ok-weaker : {A E : Type 0} (r : Result A E) (P Q : A → Type 0) → ((x : A) → P x → Q x) → IfOk r P → IfOk r Q
if-ok-weaker (Ok x) P Q f h = f x h
if-ok-weaker (Err e) P Q f h = tt

pub if-ok-both : {A E : Type 0} (r : Result A E) (P Q R : Type 0) → (P → Q → R) → IfOk r (λ _. P) → IfOk r (λ _. Q) → IfOk r (λ _. R)
if-ok-both (Ok x) P Q R f h k = f h k
if-ok-both (Err e) P Q R f h k = tt

-- ---- what is kept

pub kept-itself : (schema : SchemaValue) (u : Unstored 131072) → KeepsUnstored schema u u
kept-itself schema u = record { stands = λ writes later h. h; seen = all-see u.chains u.chains (λ s on. record { pin = on; versions = refl; kind = refl }); room = no-more-itself u.chains; cache = keeps-itself u.chains }

pub kept-then : (schema : SchemaValue) (u v w : Unstored 131072) → KeepsUnstored schema u v → KeepsUnstored schema v w → KeepsUnstored schema u w
kept-then schema u v w a b = record {
  stands = λ writes later h. b.stands writes later (a.stands writes later h);
  seen = seen-then u.chains v.chains w.chains a.seen b.seen;
  room = no-more-then u.chains v.chains w.chains a.room b.room;
  cache = keeps-then u.chains v.chains w.chains a.cache b.cache;
}

-- where objects moved
pub room-kept : (schema : SchemaValue) (u v : Unstored 131072) → ((writes later : List Write) → HaveWrites schema u writes later → HaveWrites schema v writes later) → AreSameSnapshots u.chains v.chains → TakesNoMore u.chains v.chains → KeepsCache u.chains v.chains → KeepsUnstored schema u v
room-kept schema u v stands same room cache = record { stands = stands; seen = all-see u.chains v.chains same.alike; room = room; cache = cache }

-- in chains that are the same
pub kept-in : (schema : SchemaValue) (u v : Unstored 131072) (m : Memory) → m ≡ v.chains → KeepsUnstored schema u v → KeepsUnstored schema u (in_chains m v)
kept-in schema u v m e k = subst (λ (x : Memory). KeepsUnstored schema u (in_chains x v)) (sym e) k

-- once snapshots are given back that were not there before
pub kept-back : (schema : SchemaValue) (u v w : Unstored 131072) (snaps : Snaps) → KeepsUnstored schema u v → ((s : Snap) → HasPin u.chains s.chain s.pin → IsNoneOf snaps s) → ((writes later : List Write) → HaveWrites schema v writes later → HaveWrites schema w writes later) →
    ((s : Snap) → IsNoneOf snaps s → HasPin v.chains s.chain s.pin → StillSees s v.chains w.chains) → TakesNoMore v.chains w.chains → KeepsCache v.chains w.chains → KeepsUnstored schema u w
kept-back schema u v w snaps k fresh stands others room cache = record {
  stands = λ writes later h. stands writes later (k.stands writes later h);
  seen = record {
    see = λ s h. let a = k.seen.see s h in let b = others s (fresh s h.pin) a.pin in record { pin = b.pin; versions = b.versions ∙ a.versions; kind = b.kind ∙ a.kind };
    there = λ s on. (others s (fresh s on) (k.seen.there s on)).pin;
  };
  room = no-more-then u.chains v.chains w.chains k.room room;
  cache = keeps-then u.chains v.chains w.chains k.cache cache;
}

-- a snapshot of a key is of a memtable's chain
pub kind-of : (key : List ℕ) (writes : List Write) (m n : Memory) (o : Option Snap) → IsSnapshotOfKey key writes m n o → IfSome o (λ s. kind_seen n s ≡ Memtable)
kind-of key writes m n None h = tt
kind-of key writes m n (Some s) h = h.1.kind

pub there-of : (key : List ℕ) (writes : List Write) (m n : Memory) (o : Option Snap) → IsSnapshotOfKey key writes m n o → IfSome o (HasSnap n)
there-of key writes m n None h = tt
there-of key writes m n (Some s) h = record { pin = h.1.pin; kind = h.1.kind }

-- a snapshot that was not there is none that was
none-new : (key : List ℕ) (writes : List Write) (m n : Memory) (o : Option Snap) (s : Snap) → IsSnapshotOfKey key writes m n o → HasPin m s.chain s.pin → IfSome o (λ x. s.chain ≡ x.chain → s.pin ≡ x.pin → ⊥)
none-new key writes m n None s h on = tt
none-new key writes m n (Some x) s h on = λ c p. h.2 (subst (λ i. HasPin m i x.pin) c (subst (λ i. HasPin m s.chain i) p on))

pub none-of-new : (key : List ℕ) (writes later : List Write) (m n l : Memory) (snaps : Snaps) → IsSnapshotOfKey key writes m n snaps.sealed → IsSnapshotOfKey key later m l snaps.active → (s : Snap) → HasPin m s.chain s.pin → IsNoneOf snaps s
none-of-new key writes later m n l snaps a b s on = (none-new key writes m n snaps.sealed s a on, none-new key later m l snaps.active s b on)

-- a snapshot of the row cache stands for what lies below it
pub stands-cached : (lines : PartReader → Memory → List Mutation → List OutLine → Type 0) → Staying lines → (schema : SchemaValue) (entries : List (List ℕ × ℕ)) (m : Memory) (st : State) (h : HaveCached schema entries m st) (s : Snap) → HasCacheSnapshot m s.chain s.pin → StandsCached 131072 (h.below s.chain) m s
stands-cached lines stays schema entries m st h s there = record {
  ready = record { snapshot = there; roomy = omega arith };
  stands = stays.below schema (λ id phase. h.below id) m s.chain s.pin there (h.below s.chain) h.limits h.small (h.fit s.chain) h.says (record { head = refl; statics = refl; clustered = λ x. refl });
}

-- a write more, or writes that are sealed, leave the tables
pub opened-logged : (m : State) (log : List Write) → AreSameOpened m (record m { log = log })
opened-logged m log = record { schema = refl; opened = λ first r w. record { later = w.later; are = w.are; listed = w.listed; said = w.said } }

pub opened-sealed : (m : State) (sealed : ℕ) → AreSameOpened m (record m { sealed = sealed })
opened-sealed m sealed = record { schema = refl; opened = λ first r w. record { later = w.later; are = w.are; listed = w.listed; said = w.said } }

pub opened-reading : (m : State) (given : List (ℕ × Reader)) → AreSameOpened m (record m { readers = given })
opened-reading m given = record { schema = refl; opened = λ first r w. record { later = w.later; are = w.are; listed = w.listed; said = w.said } }

-- the same lines are left over the same chains
pub lines-same : (lines : PartReader → Memory → List Mutation → List OutLine → Type 0) → Staying lines → (x : PartReader) (m n : Memory) (below : List Mutation) (left : List OutLine) → n ≡ m → lines x n below left → lines x m below left
lines-same lines stays x m n below left e h = subst (λ (k : Memory). lines x k below left) e h

-- as many snapshots of the row cache are taken beside those that readers hold
pub taken-as : {lines : PartReader → Memory → List Mutation → List OutLine → Type 0} {told : Option Files} {f : Tabled} {u : Unstored 131072} {entries : List (List ℕ × ℕ)} {readers : List (ℕ × PartitionReader)} {segments a b : ℕ} {m : State} → a ≡ b → AreFor lines told f u entries readers segments a m → AreFor lines told f u entries readers segments b m
taken-as {lines} {told} {f} {u} {entries} {readers} {segments} {a} {b} {m} e s = subst (λ n. AreFor lines told f u entries readers segments n m) e s

module _ (lines : PartReader → Memory → List Mutation → List OutLine → Type 0) where
  module _ (stays : Staying lines) where
    -- what was written stays, and so does what snapshots see
    abbrev pub kept-for : (told : Option Files) (f : Tabled) (u v : Unstored 131072) (entries : List (List ℕ × ℕ)) (readers : List (ℕ × PartitionReader)) (segments more : ℕ) (m : State) → KeepsUnstored f.schema u v → AreFor lines told f u entries readers segments more m → AreFor lines told f v entries readers segments more m
    kept-for told f u v entries readers segments more m k s =
        let cached = cached-still f.schema entries u.chains v.chains m m (λ key said h. h) k.cache.left s.cached in
        let snaps = k.cache.left.snapshots in
        record {
          over = s.over;
          have = record { sealed = s.have.sealed; later = s.have.later; have = k.stands s.have.sealed s.have.later s.have.have; are = s.have.are; count = s.have.count };
          whole = s.whole;
          left = s.left;
          budget = s.budget;
          sound = sound-less u.chains v.chains m k.room.budget k.cache.bytes s.sound;
          cached = cached;
          taken = (let a = s.taken in let b = snaps.number in omega (arith, a, b));
          served = all-served lines stays m m (same-opened m) u.chains v.chains s.cached.below (stands-cached lines stays f.schema entries v.chains m cached) readers m.readers k.seen snaps.each s.served;
          two = s.two;
          apart = s.apart;
        }

    -- one write more
    pub written-for : (told : Option Files) (f : Tabled) (u v : Unstored 131072) (entries : List (List ℕ × ℕ)) (readers : List (ℕ × PartitionReader)) (segments more : ℕ) (m : State) (w : Write) → CommandFits f.schema (Put w) → IsMutation w.change → TakesWrite f.schema w u v →
        AreFor lines told f u entries readers segments more m → AreFor lines told f v entries readers segments more (record m { log = m.log ++ w ∷ [] })
    written-for told f u v entries readers segments more m w fits is put s =
        let new : State = record m { log = m.log ++ w ∷ [] } in
        let cached = cached-still f.schema entries u.chains v.chains m new (λ key said h. h) put.cache s.cached in
        let snaps = put.cache.snapshots in
        record {
          over = over_written told f.schema f.infos m w fits s.over;
          have = unstored-more f.schema u v m w (let a = s.over.stored in let b = s.over.sealed in omega (arith, a, b)) put.stands s.have;
          whole = s.whole;
          left = s.left;
          budget = s.budget;
          sound = sound-more u.chains v.chains m w is put.budget put.bytes s.sound;
          cached = cached;
          taken = (let a = s.taken in let b = snaps.number in omega (arith, a, b));
          served = all-served lines stays m new (opened-logged m (m.log ++ w ∷ [])) u.chains v.chains s.cached.below (stands-cached lines stays f.schema entries v.chains new cached) readers m.readers put.seen snaps.each s.served;
          two = s.two;
          apart = s.apart;
        }

    -- the machine has other readers beside those of the shard, which hold as many snapshots of the row cache more as fewer are taken beside them
    pub reading-more : (told : Option Files) (f : Tabled) (u : Unstored 131072) (entries : List (List ℕ × ℕ)) (readers others : List (ℕ × PartitionReader)) (segments more less : ℕ) (m : State) (given : List (ℕ × Reader)) (s : AreFor lines told f u entries readers segments more m) → cached_readers others + less ≡ cached_readers readers + more →
        AllZip (IsServed lines s.cached.below m u.chains) others given → AllPairs AreTwo (map holding others) → AllByRecursion (IsOfItsKey entries) others → AreFor lines told f u entries others segments less (record m { readers = given })
    reading-more told f u entries readers others segments more less m given s many served two apart =
        let new : State = record m { readers = given } in
        let cached = cached-still f.schema entries u.chains u.chains m new (λ key said h. h) (leaves-itself u.chains) s.cached in
        record {
          over = over_reading told f.schema f.infos m given s.over;
          have = record { sealed = s.have.sealed; later = s.have.later; have = s.have.have; are = s.have.are; count = s.have.count };
          whole = s.whole;
          left = s.left;
          budget = s.budget;
          sound = record { mutations = s.sound.mutations; budget = s.sound.budget; weigh = s.sound.weigh };
          cached = cached;
          taken = (let a = s.taken in omega (arith, a, many));
          served = all-served lines stays m new (opened-reading m given) u.chains u.chains s.cached.below (stands-cached lines stays f.schema entries u.chains new cached) others given (all-see u.chains u.chains (λ t on. record { pin = on; versions = refl; kind = refl })) (λ id pin h. h) served;
          two = two;
          apart = apart;
        }

    pub reading-for : (told : Option Files) (f : Tabled) (u : Unstored 131072) (entries : List (List ℕ × ℕ)) (readers others : List (ℕ × PartitionReader)) (segments more : ℕ) (m : State) (given : List (ℕ × Reader)) (s : AreFor lines told f u entries readers segments more m) → cached_readers others ≡ cached_readers readers →
        AllZip (IsServed lines s.cached.below m u.chains) others given → AllPairs AreTwo (map holding others) → AllByRecursion (IsOfItsKey entries) others → AreFor lines told f u entries others segments more (record m { readers = given })
    reading-for told f u entries readers others segments more m given s many served two apart = reading-more told f u entries readers others segments more more m given s (ap (λ n. n + more) many) served two apart

  -- as it is opened
  pub opened-for : (told old : Option Files) (f : Tabled) (u : Unstored 131072) (entries : List (List ℕ × ℕ)) (readers : List (ℕ × PartitionReader)) (segments : ℕ) (schema : SchemaValue) (tables : List Table) → f.schema ≡ schema → told ≡ old → AreTables old schema tables → AreListed old schema tables f.infos →
      ((s : SchemaValue) → HaveWrites s u [] []) → length u.chains.region.usages ≡ segments → memtable_bytes u.chains ≡ 0 → cache_snapshots u.chains ≡ 0 → HaveCached f.schema entries u.chains (opened_state segments old schema tables f.infos) → readers ≡ [] → AreFor lines told f u entries readers segments 0 (opened_state segments old schema tables f.infos)
  opened-for told old f u entries readers segments schema tables same files are listed none budget bytes taken cached empty = record {
    over = record { schema = sym same; files = sym files; infos = refl; tables = are; listed = listed; stored = omega arith; sealed = omega arith; fit = λ i d l. absurd (omega (arith, l)) };
    have = record { sealed = []; later = []; have = none f.schema; are = refl; count = refl };
    whole = refl;
    left = refl;
    budget = refl;
    sound = record { mutations = λ i d l. absurd (omega (arith, l)); budget = budget; weigh = omega (arith, bytes) };
    cached = cached;
    taken = omega (arith, taken);
    served = subst (λ os. AllZip (IsServed lines cached.below (opened_state segments old schema tables f.infos) u.chains) os []) (sym empty) tt;
    two = subst (λ os. AllPairs AreTwo (map holding os)) (sym empty) (λ i j d l k. absurd (omega (arith, k)));
    apart = subst (AllByRecursion (IsOfItsKey entries)) (sym empty) tt;
  }
