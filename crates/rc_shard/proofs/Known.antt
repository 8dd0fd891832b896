-- What the row cache knows of a partition it knows still.
use Rattle.std.proofs.Common.{inl, inr, ◌≡◌, ℕ, true, false, List, [], ◌∷◌, Option, Some, None, Result, Ok, Err, refl, sym, ap, ◌∙◌, subst}
use Rattle.std.specs.Prelude.{◌⊎◌, ◌||◌, IfErr, IfOk, IfSome, IsSomeAnd, IsTrue, OnOk, cond, is_some, map}
use Rattle.std.specs.Global.{Vec}
use Rattle.std.specs.List.{list_any}
use Rattle.std.specs.Ordering.{eq_by_cmp}
use Rattle.std.specs.FinMap as finite
use Rattle.std.specs.declared.alloc.AllocError.{AllocError}
use Rattle.rc_position.specs.Position.{bytes_cmp}
use Rattle.rc_position.specs.laws.Orders.{bytes_cmp_total}
use Rattle.rc_schema.specs.SchemaValue.{SchemaValue}
use Rattle.rc_mutation.specs.declared.mutations.Partition.{Partition}
use Rattle.rc_mutation.specs.declared.mutations.Write.{Write}
use Rattle.rc_mutation.specs.Fragments.{IsParts}
use Rattle.rc_outside.specs.Files.{Files}
use Rattle.rc_core.specs.Chain.{has_flag}
use Rattle.rc_registry.specs.ChainKind.{ChainKind}
use Rattle.rc_registry.specs.Continuity.{static_states}
use Rattle.rc_registry.specs.Registry.{IsNumberIn}
use Rattle.rc_registry.specs.Version.{Version}
use Rattle.rc_memory.specs.Memory.{KeptChain, Memory, chain_at}
use Rattle.rc_memory.specs.laws.Places.{no_some, same_some}
use Rattle.rc_chain.specs.declared.chains.Snap.{Snap}
use Rattle.rc_stream.specs.declared.streams.StreamErr.{StreamErr}
use Rattle.rc_stream.specs.declared.streams.StreamErr.TheVariants as stream_err
use Rattle.rc_stream.specs.Snapshot.{NoneLost}
use Rattle.rc_cacheread.specs.Passing.{IsKnownFrom}
use Rattle.rc_snapshots.specs.Snapshots.{IsKnownAs}
use Rattle.rc_snapshots.specs.Streams.{first_position}
use Rattle.rc_lookup.specs.Entries.{AreEntries, IsCached}
use Rattle.rc_lookup.specs.Fillers.{losses}
use Rattle.rc_lookup.specs.Found.{entry_number}
use Rattle.rc_lookup.specs.Known.{IsPartitionKnown}
use Rattle.rc_lookup.specs.Memtables.{HaveWrites}
use Rattle.rc_lookup.specs.Staying.{IsEntryStill}
use Rattle.rc_lookup.specs.laws.Staying.{entry-then, same-content}
use Rattle.rc_lookup.specs.Unstored.{Unstored}
use Rattle.rc_lookup.specs.Writes.{HasWrites, chain_of, names}
use Rattle.rc_lines.specs.declared.commands.Command.TheVariants.{Flush}
use Rattle.rc_lines.specs.declared.commands.Reply.{Reply}
use Rattle.rc_shard.specs.declared.readers.PartitionReader.{PartitionReader}
use Rattle.rc_shard.specs.declared.shard.Shard.{Shard}
use Rattle.rc_shard.specs.Knowing.{IsCachedWhere, IsCachedWhole, IsChainWhere, IsKnownStill, IsUnwritten, StaysKnown}
use Rattle.rc_shard.specs.Releasing.{IsSnapGivenBack, IsChainListed}
use Rattle.rc_shard.specs.calls.Caching.{AreOthers, Forgets, HasCache, LeavesCache}
use Rattle.rc_shard.specs.calls.Keeping.{TellsOf}
use Rattle.rc_shard.specs.calls.Reading.{IsSparedPast}
use Rattle.rc_shard.specs.calls.Looking.{AreKnownStill, IsCacheLeft, UnlessMemory}
use Rattle.rc_shard.specs.calls.Storing.{IsFlushAnswered, IsTableStored}
use Rattle.rc_shard.proofs.Forgotten.{differ, entry-still, key-is, key-itself}
use Rattle.rc_shard.proofs.Looking.{some-known}
use Rattle.rc_shard.proofs.Numbered.{either}

-- ---- one entry

-- a number that is to be told is of no chain
abbrev pub AreGone : Memory → Type 0
AreGone m = (id : ℕ) → IsNumberIn m.dropped id → chain_at m id ≡ None

pub some-entry : (o : Option ℕ) (P : ℕ → Type 0) → IsSomeAnd o P → (id : ℕ) × (o ≡ Some id) × P id
some-entry None P h = absurd h
some-entry (Some id) P h = (id, refl, h)

pub no-entry : (o : Option ℕ) (P : ℕ → Type 0) → o ≡ None → IsSomeAnd o P → ⊥
no-entry None P e h = h
no-entry (Some id) P e h = cc e

not-there : (P : ChainKind → List Version → Type 0) (o : Option KeptChain) → o ≡ None → IsSomeAnd o (λ k. P k.chain.kind k.chain.versions) → ⊥
not-there P None e h = h
not-there P (Some k) e h = no_some k (sym e)

cached-by : (P : ChainKind → List Version → Type 0) (entries : List (List ℕ × ℕ)) (m : Memory) (key : List ℕ) (id : ℕ) → AreEntries entries m → AreGone m → entry_number entries key ≡ Some id → IsChainWhere P m id → IsCached m id
cached-by P entries m key id are gone e known = elim (are.kept key id e) [ inl cached ↦ cached | inr out ↦ absurd (not-there P (chain_at m id) (gone id out) known) ]

-- what holds of the chain of an entry holds of it still
where-still : (P : ChainKind → List Version → Type 0) (k k' : Shard) (key : List ℕ) → AreEntries k.cache.entries k.unstored.chains → AreGone k.unstored.chains → IsEntryStill key k.cache.entries k.unstored.chains k'.cache.entries k'.unstored.chains → IsCachedWhere P k key → IsCachedWhere P k' key
where-still P k k' key are gone still known =
    let e = some-entry (entry_number k.cache.entries key) (IsChainWhere P k.unstored.chains) known in
    let on = cached-by P k.cache.entries k.unstored.chains key e.0 are gone e.1 e.2 in
    let x = still e.0 e.1 on in
    let now = x.1 on.kept on.there in
    let was : P on.kept.chain.kind on.kept.chain.versions = subst (λ (o : Option KeptChain). IsSomeAnd o (λ q. P q.chain.kind q.chain.versions)) on.there e.2 in
    let is : P now.0.chain.kind now.0.chain.versions = subst (λ q. P q now.0.chain.versions) (sym now.2.kind) (subst (P on.kept.chain.kind) (sym now.2.versions) was) in
    let there : IsChainWhere P k'.unstored.chains e.0 = subst (λ (o : Option KeptChain). IsSomeAnd o (λ q. P q.chain.kind q.chain.versions)) (sym now.1) is in
    subst (λ o. IsSomeAnd o (IsChainWhere P k'.unstored.chains)) (sym x.0) there

-- ---- what is known of a partition

-- where whatever holds of the chain of a partition holds of it still, what is known of it is known still
pub known-where : (k k' : Shard) (key : List ℕ) → ((P : ChainKind → List Version → Type 0) → IsCachedWhere P k key → IsCachedWhere P k' key) → IsKnownStill key k k'
known-where k k' key still = record {
  each = λ x from to. still (λ kind versions. IsKnownFrom (IsKnownAs kind versions) first_position x);
  static_row = still (λ kind versions. IsTrue (has_flag kind (static_states versions)));
  whole = still IsPartitionKnown;
}

pub known-itself : (k : Shard) (key : List ℕ) → IsKnownStill key k k
known-itself k key = known-where k k key (λ P h. h)

pub known-then : (k l m : Shard) (key : List ℕ) → IsKnownStill key k l → IsKnownStill key l m → IsKnownStill key k m
known-then k l m key a b = record {
  each = λ x from to h. b.each x from to (a.each x from to h);
  static_row = λ h. b.static_row (a.static_row h);
  whole = λ h. b.whole (a.whole h);
}

-- what is known of an entry is known of it still
pub known-still : (k k' : Shard) (key : List ℕ) → AreEntries k.cache.entries k.unstored.chains → AreGone k.unstored.chains → IsEntryStill key k.cache.entries k.unstored.chains k'.cache.entries k'.unstored.chains → IsKnownStill key k k'
known-still k k' key are gone still = known-where k k' key (λ P known. where-still P k k' key are gone still known)

where-known : (P Q : ChainKind → List Version → Type 0) → ((kind : ChainKind) (versions : List Version) → P kind versions → Q kind versions) → (o : Option KeptChain) → IsSomeAnd o (λ k. P k.chain.kind k.chain.versions) → IsSomeAnd o (λ k. Q k.chain.kind k.chain.versions)
where-known P Q f None h = absurd h
where-known P Q f (Some k) h = f k.chain.kind k.chain.versions h

where-weaker : (P Q : ChainKind → List Version → Type 0) → ((kind : ChainKind) (versions : List Version) → P kind versions → Q kind versions) → (k : Shard) (key : List ℕ) → IsCachedWhere P k key → IsCachedWhere Q k key
where-weaker P Q f k key h = some-known (entry_number k.cache.entries key) (IsChainWhere P k.unstored.chains) (IsChainWhere Q k.unstored.chains) (λ id on. where-known P Q f (chain_at k.unstored.chains id) on) h

-- of a partition of which all is known whatever was known is
pub known-whole : (k k' : Shard) (key : List ℕ) → IsCachedWhole k' key → IsKnownStill key k k'
known-whole k k' key whole = record {
  each = λ x from to h. where-weaker IsPartitionKnown (λ kind versions. IsKnownFrom (IsKnownAs kind versions) first_position x) (λ kind versions p. p.each x from to) k' key whole;
  static_row = λ h. where-weaker IsPartitionKnown (λ kind versions. IsTrue (has_flag kind (static_states versions))) (λ kind versions p. p.static_row) k' key whole;
  whole = λ h. whole;
}

-- and so is what is known of each, where the cache was left
pub left-known : (k k' : Shard) → AreEntries k.cache.entries k.unstored.chains → AreGone k.unstored.chains → IsCacheLeft k k' → AreKnownStill k k'
left-known k k' are gone h none key =
    known-still k k' key are gone (subst (λ es. IsEntryStill key k.cache.entries k.unstored.chains es k'.unstored.chains) (sym (ap (λ c. c.entries) h.cache)) (entry-still key k.cache.entries k.unstored.chains k'.unstored.chains (h.left.still none)))

-- ---- a snapshot of the row cache is taken back

-- a partition of which something could be evicted has its chain still, and so has one that is of another chain
apart-still : (snap : Option Snap) (key : List ℕ) (es : List (List ℕ × ℕ)) (old mid : Memory) → IsSnapGivenBack snap old mid → IsSomeAnd (entry_number es key) (IsChainListed old) ⊎ IfSome snap (λ s. entry_number es key ≡ Some s.chain → ⊥) → IsEntryStill key es old es mid
apart-still None key es old mid same apart = subst (IsEntryStill key es old es) (sym same) (λ id e on. (e, λ k there. (k, there, same-content k)))
apart-still (Some s) key es old mid r (inl listed) = λ id e on. (e, λ k there. r.still id k there (ap (λ (q : KeptChain). q.chain.kind) (same_some k on.kept (sym there ∙ on.there)) ∙ on.kind) (subst (λ o. IsSomeAnd o (IsChainListed old)) e listed))
apart-still (Some s) key es old mid r (inr other) = λ id e on. (e, λ k there. (k, r.beside id (λ same. other (e ∙ ap Some same)) ∙ there, same-content k))

-- what is known of such a partition is known still, where a snapshot was taken back and then the cache was left
pub back-known : (snap : Option Snap) (k k' : Shard) (mid : Memory) (key : List ℕ) → AreEntries k.cache.entries k.unstored.chains → AreGone k.unstored.chains → k'.cache ≡ k.cache → IsSnapGivenBack snap k.unstored.chains mid → LeavesCache mid k'.unstored.chains → NoneLost (losses mid) (losses k'.unstored.chains) → IsSparedPast snap k key → IsKnownStill key k k'
back-known snap k k' mid key are gone cache back left none apart =
    let es = k.cache.entries in
    let first : IsEntryStill key es k.unstored.chains es mid = apart-still snap key es k.unstored.chains mid back apart in
    let since : IsEntryStill key es mid es k'.unstored.chains = entry-still key es mid k'.unstored.chains (left.still none) in
    known-still k k' key are gone (subst (λ xs. IsEntryStill key es k.unstored.chains xs k'.unstored.chains) (sym (ap (λ c. c.entries) cache)) (entry-then key es es es k.unstored.chains mid k'.unstored.chains first since))

-- ---- room for one more reader

-- what is known of a partition is known whether there is room for one more reader or not
pub known-reserved : (k : Shard) (readers : Vec (ℕ × PartitionReader)) (l : Shard) → AreKnownStill (record k { readers = readers }) l → AreKnownStill k l
known-reserved k readers l h none key = known-then k (record k { readers = readers }) l key (known-where k (record k { readers = readers }) key (λ P on. on)) (h none key)

-- ---- a partition that was read

pub filled-known : (k k' : Shard) (key : List ℕ) → AreEntries k.cache.entries k.unstored.chains → AreGone k.unstored.chains → (NoneLost (losses k.unstored.chains) (losses k'.unstored.chains) → IsCachedWhole k' key) →
    (NoneLost (losses k.unstored.chains) (losses k'.unstored.chains) → (q : List ℕ) → (q ≡ key → ⊥) → IsEntryStill q k.cache.entries k.unstored.chains k'.cache.entries k'.unstored.chains) → AreKnownStill k k'
filled-known k k' key are gone own others none q = either (IsKnownStill q k k') (eq_by_cmp bytes_cmp key q)
    (λ same. known-whole k k' q (subst (IsCachedWhole k') (key-is key q same) (own none)))
    (λ off. known-still k k' q are gone (others none q (λ e. let t : false ≡ true = sym off ∙ ap (eq_by_cmp bytes_cmp key) e ∙ key-itself key in absurd (cc))))

-- ---- answers

pub unless-all : {T : Type 0} (r : Result T StreamErr) (P : Type 0) → P → UnlessMemory r P
unless-all (Ok x) P h = h
unless-all (Err stream_err.Fault) P h = h
unless-all (Err (stream_err.Damaged file offset)) P h = h
unless-all (Err stream_err.NoMemory) P h = tt

pub unless-ok : {T : Type 0} (r : Result T StreamErr) (P : Type 0) → OnOk r P → IfErr r (λ e. e ≡ stream_err.NoMemory) → UnlessMemory r P
unless-ok (Ok x) P h is = h
unless-ok {T} (Err e) P h is = subst (λ x. UnlessMemory {T = T} (Err x) P) (sym is) tt

pub unless-weaker : {T : Type 0} (r : Result T StreamErr) (P Q : Type 0) → (P → Q) → UnlessMemory r P → UnlessMemory r Q
unless-weaker (Ok x) P Q f h = f h
unless-weaker (Err stream_err.Fault) P Q f h = f h
unless-weaker (Err (stream_err.Damaged file offset)) P Q f h = f h
unless-weaker (Err stream_err.NoMemory) P Q f h = tt

pub on-unread : (T : Type 0) (e : StreamErr) (r : Result Reply AllocError) (P : Type 0) → UnlessMemory {T = T} (Err e) P → IfOk r (TellsOf e) → OnOk r P
on-unread T e (Err x) P h told = tt
on-unread T stream_err.Fault (Ok reply) P h told = h
on-unread T (stream_err.Damaged file offset) (Ok reply) P h told = h
on-unread T stream_err.NoMemory (Ok reply) P h told = absurd told

pub on-opened : (k l k' : Shard) (r : Result Reply AllocError) → (NoneLost (losses k.unstored.chains) (losses k'.unstored.chains) → NoneLost (losses k.unstored.chains) (losses l.unstored.chains)) → AreKnownStill k l → IfOk r (λ _. (q : List ℕ) → IsKnownStill q l k') → OnOk r (AreKnownStill k k')
on-opened k l k' (Ok reply) before first since = λ none q. known-then k l k' q (first (before none) q) (since q)
on-opened k l k' (Err e) before first since = tt

-- ---- a flush

-- a key that no write names is that of no part
none-named : (key : List ℕ) (writes : List Write) → names key writes ≡ false → finite.get (finite.from_entries {R = bytes_cmp} (map (λ (w : Write). (w.key, w.change)) writes)) key ≡ None
none-named key [] h = finite.get-empty bytes_cmp key
none-named key (w ∷ ws) h = either (finite.get (finite.from_entries {R = bytes_cmp} (map (λ (v : Write). (v.key, v.change)) (w ∷ ws))) key ≡ None) (eq_by_cmp bytes_cmp w.key key)
    (λ on. absurd (let t : true ≡ false = sym (ap (λ b. b || names key ws) on) ∙ h in cc))
    (λ off. finite.get-insert bytes_cmp_total (finite.from_entries {R = bytes_cmp} (map (λ (v : Write). (v.key, v.change)) ws)) w.key w.change key
    ∙ ap (λ b. cond b (Some w.change) (finite.get (finite.from_entries {R = bytes_cmp} (map (λ (v : Write). (v.key, v.change)) ws)) key)) (differ key w.key off)
    ∙ none-named key ws (sym (ap (λ b. b || names key ws) off) ∙ h))

each-other : (key : List ℕ) (parts : List Partition) → list_any (eq_by_cmp bytes_cmp key) (map (λ (p : Partition). p.key) parts) ≡ false → AreOthers key parts
each-other key [] h = tt
each-other key (p ∷ ps) h = either (AreOthers key (p ∷ ps)) (eq_by_cmp bytes_cmp key p.key)
    (λ on. absurd (let t : true ≡ false = sym (ap (λ b. b || list_any (eq_by_cmp bytes_cmp key) (map (λ (q : Partition). q.key) ps)) on) ∙ h in cc))
    (λ off. (off, each-other key ps (sym (ap (λ b. b || list_any (eq_by_cmp bytes_cmp key) (map (λ (q : Partition). q.key) ps)) off) ∙ h)))

unnamed-other : (key : List ℕ) (parts : List Partition) (writes : List Write) → IsParts parts writes → names key writes ≡ false → AreOthers key parts
unnamed-other key parts writes is h =
    let m = finite.from_entries {R = bytes_cmp} (map (λ (w : Write). (w.key, w.change)) writes) in
    each-other key parts (ap (list_any (eq_by_cmp bytes_cmp key)) is.keys ∙ sym (finite.contains_key-keys m key) ∙ ap is_some (none-named key writes h))

unnamed : (schema : SchemaValue) (keys : List (List ℕ × ℕ)) (m : Memory) (writes : List Write) (key : List ℕ) → HasWrites schema keys m writes → chain_of keys key ≡ None → names key writes ≡ false
unnamed schema keys m writes key h none = sym (h.keys key) ∙ ap is_some none

-- the sealed writes name no key that neither memtable has
pub sealed-other : (schema : SchemaValue) (u v : Unstored 131072) (writes later sealed rest : List Write) (parts : List Partition) (key : List ℕ) → chain_of u.sealed key ≡ None → chain_of u.active key ≡ None → HaveWrites schema u writes later →
    ((others : List Write) → HaveWrites schema u [] others → (v.sealed ≡ u.active) × (v.active ≡ [])) → ((w : Write) (ws others : List Write) → HaveWrites schema u (w ∷ ws) others → v ≡ u) → HaveWrites schema v sealed rest → IsParts parts sealed → AreOthers key parts
sealed-other schema u v [] later sealed rest parts key none-sealed none-active h swapped kept now is =
    unnamed-other key parts sealed is (unnamed schema v.sealed v.chains sealed key now.sealed (ap (λ es. chain_of es key) (swapped later h).0 ∙ none-active))
sealed-other schema u v (w ∷ ws) later sealed rest parts key none-sealed none-active h swapped kept now is =
    unnamed-other key parts sealed is (unnamed schema v.sealed v.chains sealed key now.sealed (ap (λ (x : Unstored 131072). chain_of x.sealed key) (kept w ws later h) ∙ none-sealed))

-- what is known of a partition that is written in no memtable is known of it still
pub flush-known : (files files' : Option Files) (n : ℕ) (k l k' : Shard) (reply : Reply) → HasCache k.cache.entries k.unstored.chains → AreGone k.unstored.chains → l.cache ≡ k.cache → l.unstored.chains ≡ k.unstored.chains →
    ((i : IsTableStored files l n files' k') (key : List ℕ) → IsUnwritten k key → AreOthers key i.parts) → IsFlushAnswered files l n files' k' reply → StaysKnown Flush k k'
flush-known files files' n k l k' reply has gone cache chains others (inl (fine, i)) none key un =
    let forgets : Forgets i.parts k.cache.entries k'.cache.entries k.unstored.chains k'.unstored.chains =
    subst (λ (m : Memory). Forgets i.parts k.cache.entries k'.cache.entries m k'.unstored.chains) chains (subst (λ es. Forgets i.parts es k'.cache.entries l.unstored.chains k'.unstored.chains) (ap (λ c. c.entries) cache) i.cache) in
    known-still k k' key has.are gone (forgets.stays has none key (others i key un))
flush-known files files' n k l k' reply has gone cache chains others (inr (fault, folder, same, kept, still)) none key un =
    left-known k k' has.are gone (record { cache = same ∙ cache; left = subst (λ (m : Memory). LeavesCache m k'.unstored.chains) chains kept.cache.left }) none key

pub on-answered : (P : Reply → Type 0) (Q : Type 0) (r : Result Reply AllocError) → ((reply : Reply) → P reply → Q) → IfOk r P → OnOk r Q
on-answered P Q (Ok reply) f h = f reply h
on-answered P Q (Err e) f h = tt
