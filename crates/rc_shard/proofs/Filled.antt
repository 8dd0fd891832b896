-- What lies below the row cache once what was read of a partition is in it.
use Rattle.std.proofs.Common.{◌≡◌, ◌≤◌, ℕ, Result, Ok, Err, IfOk, true, false, cond, nat_eq, List, [], ◌∷◌, Option, Some, None, All, refl, sym, ap, ◌∙◌, subst, eq-eqb, ne_eqb, arith}
use Rattle.std.specs.Prelude.{IfErr, IfSome, IsSome}
use Rattle.std.specs.List.{AllByRecursion}
use Rattle.std.specs.Ordering.{eq_by_cmp}
use Rattle.std.proofs.lemmas.List.Elements.{All-cons}
use Rattle.rc_outside.specs.Files.{Files}
use Rattle.rc_position.specs.Position.{bytes_cmp}
use Rattle.rc_stream.specs.Causes.{Caused}
use Rattle.rc_stream.specs.Stream.{Stream}
use Rattle.rc_stream.specs.declared.streams.StreamErr.{StreamErr}
use Rattle.rc_stream.specs.declared.streams.StreamErr.TheVariants as stream_err
use Rattle.rc_schema.specs.SchemaValue.{SchemaValue}
use Rattle.rc_writes.specs.Allowed.{ChangeFits}
use Rattle.rc_mutation.specs.declared.mutations.Mutation.{Mutation}
use Rattle.rc_mutation.specs.Source.{IsJoinOf, IsMutation, SameSource}
use Rattle.rc_stream.specs.Snapshot.{NoneLost}
use Rattle.rc_lookup.specs.Fillers.{losses}
use Rattle.rc_query.specs.declared.lines.OutLine.{OutLine}
use Rattle.rc_memory.specs.Memory.{Memory}
use Rattle.rc_memory.specs.laws.Places.{no_some, same_some}
use Rattle.rc_lookup.specs.Entries.{AreEntries}
use Rattle.rc_lookup.specs.Found.{entry_number}
use Rattle.rc_lookup.specs.Calls.{below_entry}
use Rattle.rc_chain.specs.declared.chains.Snap.{Snap}
use Rattle.rc_cached.specs.Stands.{HasCacheSnapshot}
use Rattle.rc_lookup.specs.Looked.{IsCacheOver}
use Rattle.rc_lookup.specs.Memtables.{in_chains}
use Rattle.rc_lookup.specs.Saying.{Below, CacheSays, SaysBelow}
use Rattle.rc_paging.specs.declared.forms.PartReader.{PartReader}
use Rattle.rc_tfile.specs.declared.info.TableInfo.{TableInfo}
use Rattle.rc_tables.specs.Located.{SaysOf}
use Rattle.rc_tables.specs.Tables.{IsDamageOf, IsSomeJoin}
use Rattle.rc_machine.specs.State.{State}
use Rattle.rc_machine.specs.Steps.{IsSaid}
use Rattle.rc_shard.specs.declared.readers.Source.{Source}
use Rattle.rc_shard.specs.declared.readers.Source.TheVariants.{Read}
use Rattle.rc_shard.specs.declared.shard.Shard.{Shard}
use Rattle.rc_shard.specs.Cached.{HaveCached, IsJoinSaid}
use Rattle.rc_shard.specs.declared.readers.PartitionReader.{PartitionReader}
use Rattle.rc_shard.specs.Knowing.{IsCachedWhole}
use Rattle.rc_shard.specs.calls.Reading.{IsPutInPlace}
use Rattle.rc_shard.specs.Readers.{IsCachedThere, IsOfItsKey, cached_of, number_of_snaps}
use Rattle.rc_shard.specs.Stands.{AreFor, Stands}
use Rattle.rc_shard.specs.calls.Looking.{source_snap, source_taken}
use Rattle.rc_shard.specs.calls.Staying.{Staying}
use Rattle.rc_shard.proofs.Forgotten.{key-is, key-itself}
use Rattle.rc_shard.proofs.Looking.{Beside, IsRest, over-of, used-for}
use Rattle.rc_shard.proofs.Numbered.{either}

-- what lies below chains, but that what was read lies below that of an entry, where there is one
abbrev pub below-now : Option ℕ → Mutation → (ℕ → List Mutation) → ℕ → List Mutation
below-now None read below i = below i
below-now (Some id) read below i = cond (nat_eq id i) (read ∷ []) (below i)

pub below-is : (o : Option ℕ) (read : Mutation) (below : ℕ → List Mutation) (i : ℕ) → below_entry o (λ phase. read ∷ []) (λ id phase. below id) i ≡ (λ (phase : ℕ). below-now o read below i)
below-is None read below i = refl
below-is (Some id) read below i = elim (nat_eq id i) as (λ b. ◌≡◌ {A = ℕ → List Mutation} (cond b (λ phase. read ∷ []) (λ phase. below i)) (λ phase. cond b (read ∷ []) (below i))) [
  | true ↦ refl
  | false ↦ refl
]

pub each-fits : (schema : SchemaValue) (changes : List Mutation) → AllByRecursion (SaysOf schema) changes → All (ChangeFits schema) changes
each-fits schema [] h = λ i d l. absurd (omega (arith, l))
each-fits schema (c ∷ cs) h = All-cons (ChangeFits schema) c cs h.0.1 (each-fits schema cs h.1)

pub one-fits : (schema : SchemaValue) (read : Mutation) → ChangeFits schema read → All (ChangeFits schema) (read ∷ [])
one-fits schema read fits = All-cons (ChangeFits schema) read [] fits (λ i d l. absurd (omega (arith, l)))

pub fits-now : (schema : SchemaValue) (o : Option ℕ) (read : Mutation) (below : ℕ → List Mutation) → ((id : ℕ) → All (ChangeFits schema) (below id)) → ChangeFits schema read → (i : ℕ) → All (ChangeFits schema) (below-now o read below i)
fits-now schema None read below fit fits i = fit i
fits-now schema (Some id) read below fit fits i = elim (nat_eq id i) as (λ b. All (ChangeFits schema) (cond b (read ∷ []) (below i))) [
  | true ↦ one-fits schema read fits
  | false ↦ fit i
]

-- below the entry's own chain
pub own-now : (o : Option ℕ) (read : Mutation) (below : ℕ → List Mutation) (id : ℕ) → o ≡ Some id → below-now o read below id ≡ read ∷ []
own-now None read below id e = absurd (no_some id e)
own-now (Some j) read below id e = ap (λ b. cond b (read ∷ []) (below id)) (eq-eqb j id (same_some j id e))

-- below another one
pub other-now : (o : Option ℕ) (read : Mutation) (below : ℕ → List Mutation) (i : ℕ) → (o ≡ Some i → ⊥) → below-now o read below i ≡ below i
other-now None read below i ne = refl
other-now (Some id) read below i ne = ap (λ b. cond b (read ∷ []) (below i)) (ne_eqb id i (λ same. ne (ap Some same)))

module _ (schema : SchemaValue) (key : List ℕ) (read : Mutation) (a b : List (List ℕ × ℕ)) (m n : Memory) (st : State) (said : List Mutation) (is : IsMutation read) (of : IsSaid st key said) (join : IsJoinOf read said)
    (are : AreEntries b n) (others : (q : List ℕ) (id : ℕ) → entry_number b q ≡ Some id → (q ≡ key → ⊥) → entry_number a q ≡ Some id) (h : HaveCached schema a m st) where
  abbrev pub lies : ℕ → List Mutation
  lies = below-now (entry_number b key) read h.below

  -- of the partition that was read
  pub of-own : (q : List ℕ) (id : ℕ) → key ≡ q → entry_number b q ≡ Some id → IsJoinSaid st q (lies id)
  of-own q id e found =
      let own : entry_number b key ≡ Some id = ap (entry_number b) e ∙ found in
      let made : IsJoinSaid st key (lies id) = record { join = read; said = said; is = own-now (entry_number b key) read h.below id own; mutation = is; of_tables = of; joined = join } in
      subst (λ (x : List ℕ). IsJoinSaid st x (lies id)) e made

  -- of another one
  pub of-other : (q : List ℕ) (id : ℕ) → (q ≡ key → ⊥) → entry_number b q ≡ Some id → IsJoinSaid st q (lies id)
  of-other q id apart found =
      subst (IsJoinSaid st q) (sym (other-now (entry_number b key) read h.below id (λ own. apart (are.apart q key id found own)))) (h.of_tables q id (others q id found apart))

  pub of-each : (q : List ℕ) (id : ℕ) → entry_number b q ≡ Some id → IsJoinSaid st q (lies id)
  of-each q id found = either (IsJoinSaid st q (lies id)) (eq_by_cmp bytes_cmp key q)
      (λ same. of-own q id (key-is key q same) found)
      (λ off. of-other q id (λ e. let t : false ≡ true = sym off ∙ ap (eq_by_cmp bytes_cmp key) e ∙ key-itself key in absurd (cc)) found)

  abbrev pub cached-filled : (more : ℕ) → ChangeFits schema read → IsRest more m n → CacheSays schema (below_entry (entry_number b key) (λ phase. read ∷ []) (λ id phase. h.below id)) n → HaveCached schema b n st
  cached-filled more fits r says = record {
    limits = h.limits;
    small = h.small;
    below = lies;
    fit = fits-now schema (entry_number b key) read h.below h.fit fits;
    says = λ id k there kind. subst (λ (x : ℕ → List Mutation). SaysBelow schema x k) (below-is (entry_number b key) read h.below id) (says id k there kind);
    of_tables = of-each;
    are = are;
    one = r.one h.one;
    used = r.used h.one h.used;
  }

  -- below a chain that is not the entry's lies what lay below it
  pub lies-apart : (i : ℕ) → (entry_number b key ≡ Some i → ⊥) → lies i ≡ h.below i
  lies-apart i ne = other-now (entry_number b key) read h.below i ne

-- ---- what was read fits

pub read-fits : (schema : SchemaValue) (read : Mutation) (infos : List TableInfo) (key : List ℕ) → IsMutation read → ((read : Mutation) (changes : List Mutation) → IsMutation read → IsJoinOf read changes → SameSource (read ∷ []) changes) →
    ((schema : SchemaValue) (read : Mutation) (changes : List Mutation) → IsMutation read → SameSource (read ∷ []) changes → All (ChangeFits schema) changes → ChangeFits schema read) → IsSomeJoin schema infos key read → ChangeFits schema read
read-fits schema read infos key is says fits some = fits schema read some.changes is (says read some.changes is some.joined) (each-fits schema some.changes some.fit)

pub same-source : (changes : List Mutation) → SameSource changes changes
same-source changes = record { head = refl; statics = refl; clustered = λ x. refl }

-- ---- why a partition could not be read

-- want of memory is no damage, and comes of no fault
pub no-damage : {T : Type 0} (schema : SchemaValue) (key : List ℕ) (infos : List TableInfo) (r : Result T StreamErr) → IfErr r (λ e. e ≡ stream_err.NoMemory) → IfErr r (IsDamageOf schema key infos)
no-damage schema key infos (Ok x) h = tt
no-damage schema key infos (Err e) h = subst (IsDamageOf schema key infos) (sym h) tt

pub read-cause : {T : Type 0} (r : Result T StreamErr) (files : Option Files) (before now : ℕ) → before ≤ now → IfErr r (λ e. e ≡ stream_err.NoMemory) → Caused r files before now
read-cause (Ok x) files before now le h = le
read-cause {T} (Err e) files before now le h = subst (λ x. Caused {T = T} (Err x) files before now) (sym h) le

-- it comes of the same, whatever was to be read
pub cause-of : (T U : Type 0) (e : StreamErr) (files : Option Files) (before now : ℕ) → Caused {T = T} (Err e) files before now → Caused {T = U} (Err e) files before now
cause-of T U stream_err.Fault files before now h = h
cause-of T U (stream_err.Damaged file offset) files before now h = h
cause-of T U stream_err.NoMemory files before now h = h

-- ---- what a shard stands for

-- what was read gives no snapshot
pub none-taken : {E : Type 0} (r : Result Source E) (s : Stream) → IfOk r (λ source. source ≡ Read s) → number_of_snaps (source_taken r) ≡ 0
none-taken (Ok source) s e = ap (λ x. number_of_snaps (source_snap x)) e
none-taken (Err e) s h = refl

-- no snapshot is of the entry, where none was of the chain of the one that was handed out
pub other-chain : (o : Option ℕ) (m : Memory) (s : Snap) → o ≡ Some s.chain → ((pin : ℕ) → HasCacheSnapshot m s.chain pin → ⊥) → (id pin : ℕ) → HasCacheSnapshot m id pin → o ≡ Some id → ⊥
other-chain o m s own apart id pin there found = let same : id ≡ s.chain = same_some id s.chain (sym found ∙ own) in apart pin (subst (λ i. HasCacheSnapshot m i pin) same there)

pub none-found : (o : Option ℕ) (m : Memory) → o ≡ None → (id pin : ℕ) → HasCacheSnapshot m id pin → o ≡ Some id → ⊥
none-found o m none id pin there found = no_some id (sym none ∙ found)

module _ (lines : PartReader → Memory → List Mutation → List OutLine → Type 0) (stays : Staying lines) where
  -- what was read lies below its chain, of which no reader has a snapshot
  pub filled-for : Beside → (files : Option Files) (k : Shard) (n : Memory) (b : List (List ℕ × ℕ)) (key : List ℕ) (read : Mutation) (more : ℕ) (m : State) (said : List Mutation) → IsMutation read → ChangeFits k.folder.schema read → IsRest more k.unstored.chains n → AreEntries b n →
      ((q : List ℕ) (id : ℕ) → entry_number b q ≡ Some id → (q ≡ key → ⊥) → entry_number k.cache.entries q ≡ Some id) →
      ((schema : SchemaValue) (below : Below) (writes : List Mutation) → IsCacheOver 131072 schema below k.unstored.chains → All (ChangeFits schema) writes → SameSource (read ∷ []) writes → CacheSays schema (below_entry (entry_number b key) (λ phase. writes) below) n) →
      ((id pin : ℕ) → HasCacheSnapshot k.unstored.chains id pin → entry_number b key ≡ Some id → ⊥) → Stands lines files k m → IsSaid m key said → IsJoinOf read said → AreFor lines files k.folder (in_chains n k.unstored) b k.readers.items k.segments more m
  filled-for beside files k n b key read more m said is fits rest are others says apart s of join =
      let schema : SchemaValue = k.folder.schema in
      let told = says schema (λ id phase. s.cached.below id) (read ∷ []) (over-of schema k.cache.entries k.unstored.chains m s.cached) (one-fits schema read fits) (same-source (read ∷ [])) in
      let cached = cached-filled schema key read k.cache.entries b k.unstored.chains n m said is of join are others s.cached more fits rest told in
      used-for lines stays beside files k.folder k.unstored n k.cache.entries b k.readers.items k.segments more m rest cached s
      (λ id pin there. lies-apart schema key read k.cache.entries b k.unstored.chains n m said is of join are others s.cached id (apart id pin there))
      (λ id pin there q found. either (entry_number k.cache.entries q ≡ Some id) (eq_by_cmp bytes_cmp key q)
      (λ same. absurd (apart id pin there (ap (entry_number b) (key-is key q same) ∙ found)))
      (λ off. others q id found (λ e. let t : false ≡ true = sym off ∙ ap (eq_by_cmp bytes_cmp key) e ∙ key-itself key in absurd (cc))))

-- the snapshot that there is
pub some-held : (o : Option Snap) → IsSome o → (s : Snap) × (o ≡ Some s)
some-held None h = absurd (cc)
some-held (Some s) h = (s, refl)

-- no entry has the chain that the reader holds a snapshot of, once what was read is in its place
pub put-in-place : (k new : Shard) (d : ℕ × PartitionReader) (snap : Snap) → cached_of d.1 ≡ Some snap → IsOfItsKey k.cache.entries d → IsCachedThere k.unstored.chains (cached_of d.1) → (NoneLost (losses k.unstored.chains) (losses new.unstored.chains) → IsCachedWhole new d.1.key) →
    ((id pin : ℕ) → entry_number new.cache.entries d.1.key ≡ Some id → HasCacheSnapshot k.unstored.chains id pin → ⊥) → ((q : List ℕ) (id : ℕ) → entry_number new.cache.entries q ≡ Some id → (q ≡ d.1.key → ⊥) → entry_number k.cache.entries q ≡ Some id) → IsPutInPlace d.1 k new
put-in-place k new d snap held own there whole apart others = record {
  snap = snap;
  held = held;
  whole = whole;
  apart = λ q found. either ⊥ (eq_by_cmp bytes_cmp d.1.key q)
      (λ same. apart snap.chain snap.pin (ap (entry_number new.cache.entries) (key-is d.1.key q same) ∙ found) (subst (IsCachedThere k.unstored.chains) held there))
      (λ off.
      let ne : q ≡ d.1.key → ⊥ = λ e. (let t : false ≡ true = sym off ∙ ap (eq_by_cmp bytes_cmp d.1.key) e ∙ key-itself d.1.key in absurd (cc)) in
      let of : (r : List ℕ) → entry_number k.cache.entries r ≡ Some snap.chain → r ≡ d.1.key = subst (λ (o : Option Snap). IfSome o (λ s. (r : List ℕ) → entry_number k.cache.entries r ≡ Some s.chain → r ≡ d.1.key)) held own in
      ne (of q (others q snap.chain found ne)));
}
