-- What calls leave of the row cache, and of what memtables take.
use Rattle.std.proofs.Common.{inl, inr, ◌≡◌, ◌≢◌, ◌≤◌, ◌+◌, ℕ, List, Option, Some, None, IsSome, refl, sym, ap, ◌∙◌, subst, le_refl, slice_index_or, arith}
use Rattle.std.specs.Prelude.{IfSome, IsSomeAnd}
use Rattle.std.specs.Option.{option_map}
use Rattle.rc_schema.specs.SchemaValue.{SchemaValue}
use Rattle.rc_registry.specs.ChainKind.TheVariants.{Memtable}
use Rattle.rc_registry.specs.Registry.{IsNumberIn}
use Rattle.rc_registry.specs.Steps.{pin_at}
use Rattle.rc_memory.specs.declared.counts.Counts.{Counts}
use Rattle.rc_memory.specs.Memory.{IsSnapshotTaken, IsUntouched, KeptChain, Member, Memory, chain_at, snapshot_number, with_snapshot, without_snapshot}
use Rattle.rc_memory.specs.laws.Places.{no_some, same_some}
use Rattle.rc_chain.specs.declared.chains.Snap.{Snap}
use Rattle.rc_lookup.specs.Evictions.{AreEvicted}
use Rattle.rc_lookup.specs.Partitions.{AreAsBefore, IsAsBefore}
use Rattle.rc_snapshots.specs.Seeing.{HasSnap}
use Rattle.rc_snapshots.specs.Snapshots.{kind_in, kind_seen}
use Rattle.rc_lookup.specs.Readers.{IsReleased, IsReleasedIf, IsTakenIf, taken_back}
use Rattle.rc_lookup.specs.Entries.{AreEntries, LeavesCached}
use Rattle.rc_lookup.specs.Leaving.{AreCachesSame}
use Rattle.rc_lookup.specs.Saying.{Below, CacheSays}
use Rattle.rc_lookup.specs.Footprint.{AreInUse, HaveOneVersion, cache_snapshots, memtable_bytes}
use Rattle.rc_lookup.specs.Fillers.{losses}
use Rattle.rc_lookup.specs.LetGo.{NoCountFell, TakesNoMore}
use Rattle.rc_lookup.specs.laws.Lost.{each-chain-stays}
use Rattle.rc_lookup.specs.laws.Staying.{content-then, same-content}
use Rattle.rc_stream.specs.Snapshot.{NoneLost}
use Rattle.rc_shard.specs.Releasing.{KeepsSnapshots}
use Rattle.rc_shard.specs.calls.Caching.{AreStillThere, KeepsCache, LeavesCache}
use Rattle.rc_shard.proofs.Numbered.{chain-beside, chain-here, either, here-or-beside, some-chain, there-or-not}

-- ---- nothing is done, or one thing after another

-- where nothing was lost in the end nothing was lost before or since
pub lost-neither : (a b c : ℕ) → a ≤ b → b ≤ c → NoneLost a c → NoneLost a b × NoneLost b c
lost-neither a b c f g none = let e = none.0 in let l = none.1 in ((omega (arith, f, g, e), omega (arith, g, l)), (omega (arith, f, g, e), l))

still-along : (old mid new : Memory) → AreStillThere old mid → AreStillThere mid new → AreStillThere old new
still-along old mid new f g id k there kind =
    let a = f id k there kind in
    let b = g id a.0 a.1 (a.2.kind ∙ kind) in
    (b.0, b.1, content-then k a.0 b.0 a.2 b.2)

pub keeps-all : (m : Memory) → KeepsSnapshots m m
keeps-all m = record { each = λ id pin h. h; number = le_refl (cache_snapshots m) }

pub all-then : (old mid new : Memory) → KeepsSnapshots old mid → KeepsSnapshots mid new → KeepsSnapshots old new
all-then old mid new f g = record { each = λ id pin h. g.each id pin (f.each id pin h); number = (let a = f.number in let b = g.number in omega (arith, a, b)) }

pub leaves-itself : (m : Memory) → LeavesCache m m
leaves-itself m = record { says = λ schema below h. h; entries = λ es h. h; one = λ h. h; used = λ h. h; snapshots = keeps-all m; lost = le_refl (losses m); still = λ none id k there kind. (k, there, same-content k) }

pub leaves-then : (old mid new : Memory) → LeavesCache old mid → LeavesCache mid new → LeavesCache old new
leaves-then old mid new f g = record {
  says = λ schema below h. g.says schema below (f.says schema below h);
  entries = λ es h. g.entries es (f.entries es h);
  one = λ h. g.one (f.one h);
  used = λ h. g.used (f.used h);
  snapshots = all-then old mid new f.snapshots g.snapshots;
  lost = (let a = f.lost in let b = g.lost in omega (arith, a, b));
  still = λ none. (let u = lost-neither (losses old) (losses mid) (losses new) f.lost g.lost none in still-along old mid new (f.still u.0) (g.still u.1));
}

pub keeps-itself : (m : Memory) → KeepsCache m m
keeps-itself m = record { left = leaves-itself m; bytes = le_refl (memtable_bytes m) }

pub keeps-then : (old mid new : Memory) → KeepsCache old mid → KeepsCache mid new → KeepsCache old new
keeps-then old mid new f g = record { left = leaves-then old mid new f.left g.left; bytes = (let a = f.bytes in let b = g.bytes in omega (arith, a, b)) }

-- ---- what the laws of the cache say of each

no-loss-fell : (old new : Memory) → NoCountFell old new → losses old ≤ losses new
no-loss-fell old new fell = let a = fell.evicted in let b = fell.skipped in omega (arith, a, b)

-- of chains that are the same, wherever objects lie
pub record SameLaws : Type 0 where
  pub says : (schema : SchemaValue) (below : Below) (old new : Memory) → new.chains ≡ old.chains → CacheSays schema below old → CacheSays schema below new
  pub cached : (old new : Memory) → IsUntouched old new → LeavesCached old new
  pub entries : (entries : List (List ℕ × ℕ)) (old new : Memory) → LeavesCached old new → AreEntries entries old → AreEntries entries new
  pub one : (old new : Memory) → IsUntouched old new → HaveOneVersion old → HaveOneVersion new
  pub used : (old new : Memory) → IsUntouched old new → AreInUse old → AreInUse new
  pub snapshots : (old new : Memory) → IsUntouched old new → KeepsSnapshots old new

module _ (l : SameLaws) (old new : Memory) (u : IsUntouched old new) where
  pub leaves-untouched : LeavesCache old new
  leaves-untouched = record {
    says = λ schema below h. l.says schema below old new u.chains h;
    entries = λ es h. l.entries es old new (l.cached old new u) h;
    one = λ h. l.one old new u h;
    used = λ h. l.used old new u h;
    snapshots = l.snapshots old new u;
    lost = (let e = ap (λ (c : Counts). c.evicted + c.skipped) u.counts in omega (arith, e));
    still = λ none id k there kind. (k, ap (λ cs. slice_index_or cs id None) u.chains ∙ there, same-content k);
  }

-- of chains of the cache that are the same
pub record BesideLaws : Type 0 where
  pub says : (schema : SchemaValue) (below : Below) (old new : Memory) → AreCachesSame old new → CacheSays schema below old → CacheSays schema below new
  pub cached : (old new : Memory) → AreCachesSame old new → LeavesCached old new
  pub entries : (entries : List (List ℕ × ℕ)) (old new : Memory) → LeavesCached old new → AreEntries entries old → AreEntries entries new
  pub one : (old new : Memory) → AreCachesSame old new → HaveOneVersion old → HaveOneVersion new
  pub snapshots : (old new : Memory) → AreCachesSame old new → KeepsSnapshots old new

module _ (l : BesideLaws) (old new : Memory) (same : AreCachesSame old new) (used : AreInUse old → AreInUse new) (fell : NoCountFell old new) where
  pub leaves-beside : LeavesCache old new
  leaves-beside = record {
    says = λ schema below h. l.says schema below old new same h;
    entries = λ es h. l.entries es old new (l.cached old new same) h;
    one = λ h. l.one old new same h;
    used = used;
    snapshots = l.snapshots old new same;
    lost = no-loss-fell old new fell;
    still = λ none id k there kind. (k, same.stays id k kind there, same-content k);
  }

-- of objects that were evicted, as where room was made
pub record RoomLaws : Type 0 where
  pub says : (schema : SchemaValue) (below : Below) (went : List Member) (gone : List ℕ) (old new : Memory) → AreEvicted went gone old new → CacheSays schema below old → CacheSays schema below new
  pub cached : (went : List Member) (gone : List ℕ) (old new : Memory) → ((id : ℕ) → IsNumberIn old.dropped id → chain_at old id ≡ None) → AreEvicted went gone old new → LeavesCached old new
  pub entries : (entries : List (List ℕ × ℕ)) (old new : Memory) → LeavesCached old new → AreEntries entries old → AreEntries entries new
  pub one : (went : List Member) (gone : List ℕ) (old new : Memory) → AreEvicted went gone old new → HaveOneVersion old → HaveOneVersion new
  pub used : (went : List Member) (gone : List ℕ) (old new : Memory) → AreEvicted went gone old new → AreInUse old → AreInUse new
  pub snapshots : (went : List Member) (gone : List ℕ) (old new : Memory) → AreEvicted went gone old new → KeepsSnapshots old new

module _ (l : RoomLaws) (went : List Member) (gone : List ℕ) (old new : Memory) (told : (id : ℕ) → IsNumberIn old.dropped id → chain_at old id ≡ None) (evicted : AreEvicted went gone old new) (fell : NoCountFell old new) where
  pub leaves-evicted : LeavesCache old new
  leaves-evicted = record {
    says = λ schema below h. l.says schema below went gone old new evicted h;
    entries = λ es h. l.entries es old new (l.cached went gone old new told evicted) h;
    one = λ h. l.one went gone old new evicted h;
    used = λ h. l.used went gone old new evicted h;
    snapshots = l.snapshots went gone old new evicted;
    lost = no-loss-fell old new fell;
    still = λ none id k there kind. (
        let e = none.0 in
        let low = none.1 in
        let a = fell.evicted in
        let b = fell.skipped in
        (k, each-chain-stays went gone old new evicted (omega (arith, e, a, b)) (omega (arith, low, a)) id ∙ there, same-content k));
  }

-- of chains that were read
pub record ReadLaws : Type 0 where
  pub says : (schema : SchemaValue) (below : Below) (old new : Memory) → AreAsBefore old new → CacheSays schema below old → CacheSays schema below new
  pub entries : (entries : List (List ℕ × ℕ)) (old new : Memory) → LeavesCached old new → AreEntries entries old → AreEntries entries new
  pub one : (old new : Memory) → AreAsBefore old new → HaveOneVersion old → HaveOneVersion new
  pub used : (old new : Memory) → AreAsBefore old new → AreInUse old → AreInUse new
  pub snapshots : (old new : Memory) → AreAsBefore old new → KeepsSnapshots old new

module _ (old new : Memory) (b : AreAsBefore old new) where
  was-read : (id : ℕ) (k : KeptChain) → chain_at new id ≡ Some k → (was : KeptChain) × (chain_at old id ≡ Some was) × IsAsBefore was k
  was-read id k there = there-or-not _ (chain_at old id) (λ none. absurd (no_some k (sym (b.absent id none) ∙ there)))
      (λ was at. (was, at, let now = b.there id was at in subst (λ (q : KeptChain). IsAsBefore was q) (same_some now.0 k (sym now.1 ∙ there)) now.2))

  cached-read : LeavesCached old new
  cached-read = record {
    cached = λ id c. (let now = b.there id c.kept c.there in inl (record { kept = now.0; there = now.1; kind = now.2.kind ∙ c.kind; attached = now.2.attached ∙ c.attached }));
    told = λ id on. subst (λ ns. IsNumberIn ns id) (sym b.dropped) on;
    none = λ id c. (let was = was-read id c.kept c.there in record { kept = was.0; there = was.1; kind = sym was.2.kind ∙ c.kind; attached = sym was.2.attached ∙ c.attached });
  }

  pub leaves-read : ReadLaws → LeavesCache old new
  leaves-read l = record {
    says = λ schema below h. l.says schema below old new b h;
    entries = λ es h. l.entries es old new cached-read h;
    one = λ h. l.one old new b h;
    used = λ h. l.used old new b h;
    snapshots = l.snapshots old new b;
    lost = (let e = ap (λ (c : Counts). c.evicted + c.skipped) b.counts in omega (arith, e));
    still = λ none id k there kind. (let now = b.there id k there in (now.0, now.1, record { kind = now.2.kind; attached = now.2.attached; versions = now.2.versions }));
  }

-- ---- snapshots of two chains

-- to take a snapshot leaves each chain its kind
kind-here : (o : Option KeptChain) → kind_in (option_map (λ k. with_snapshot (snapshot_number k.chain) k) o) ≡ kind_in o
kind-here None = refl
kind-here (Some k) = refl

pub kind-taken : (mid new : Memory) (o : Option Snap) (s : Snap) → IsTakenIf mid new o → kind_seen mid s ≡ kind_seen new s
kind-taken mid new None s same = ap (λ (m : Memory). kind_seen m s) (sym same)
kind-taken mid new (Some t) s taken =
    let is = ap (λ (m : Memory). m.chains) taken.now in
    here-or-beside (λ i. kind_in (chain_at mid i) ≡ kind_in (chain_at new i)) t.chain s.chain
    (sym (ap kind_in (chain-here mid new t.chain (option_map (λ k. with_snapshot (snapshot_number k.chain) k) (chain_at mid t.chain)) is) ∙ kind-here (chain_at mid t.chain)))
    (λ ne. sym (ap kind_in (chain-beside mid new t.chain (option_map (λ k. with_snapshot (snapshot_number k.chain) k) (chain_at mid t.chain)) is s.chain ne)))

pub kinds-taken : (mid new : Memory) (o p : Option Snap) → IsTakenIf mid new p → IfSome o (λ s. kind_seen new s ≡ Memtable) → IfSome o (λ s. kind_seen mid s ≡ Memtable)
kinds-taken mid new None p taken seen = tt
kinds-taken mid new (Some s) p taken seen = kind-taken mid new p s taken ∙ seen

-- to take one back leaves all other chains
module _ (s : Snap) (old mid : Memory) (h : HasSnap old s) (r : IsReleased s old mid) where
  back-beside : (i : ℕ) → i ≢ s.chain → chain_at (taken_back s old) i ≡ chain_at old i
  back-beside = chain-beside old (taken_back s old) s.chain (option_map (without_snapshot s.pin) (chain_at old s.chain)) refl

  released-beside : (i : ℕ) → i ≢ s.chain → chain_at mid i ≡ chain_at old i
  released-beside i ne =
      let k = some-chain (λ q. IsSome (pin_at q.chain.pins s.pin)) (chain_at old s.chain) h.pin in
      let here : chain_at (taken_back s old) s.chain ≡ Some (without_snapshot s.pin k.0) = chain-here old (taken_back s old) s.chain (option_map (without_snapshot s.pin) (chain_at old s.chain)) refl ∙ ap (option_map (without_snapshot s.pin)) k.1 in
      either (chain_at mid i ≡ chain_at old i) k.0.chain.attached
      (λ found. ap (λ (m : Memory). chain_at m i) (r.found k.0 k.1 found) ∙ back-beside i ne)
      (λ gone. elim (r.freed k.0 k.1 gone (without_snapshot s.pin k.0) here) [
        | inl free ↦ chain-beside (taken_back s old) mid s.chain None free.1.chains i ne ∙ back-beside i ne
        | inr kept ↦ ap (λ (m : Memory). chain_at m i) kept.1 ∙ back-beside i ne
      ])

  -- and the counts
  pub counts-back : mid.counts ≡ old.counts
  counts-back =
      let k = some-chain (λ q. IsSome (pin_at q.chain.pins s.pin)) (chain_at old s.chain) h.pin in
      let here : chain_at (taken_back s old) s.chain ≡ Some (without_snapshot s.pin k.0) = chain-here old (taken_back s old) s.chain (option_map (without_snapshot s.pin) (chain_at old s.chain)) refl ∙ ap (option_map (without_snapshot s.pin)) k.1 in
      either (mid.counts ≡ old.counts) k.0.chain.attached
      (λ found. ap (λ (m : Memory). m.counts) (r.found k.0 k.1 found))
      (λ gone. elim (r.freed k.0 k.1 gone (without_snapshot s.pin k.0) here) [
        | inl free ↦ free.1.counts
        | inr kept ↦ ap (λ (m : Memory). m.counts) kept.1
      ])

  pub still-there : (t : Snap) → HasSnap old t → (s.chain ≡ t.chain → ⊥) → HasSnap mid t
  still-there t on apart =
      let same = released-beside t.chain (λ e. apart (sym e)) in
      record { pin = subst (λ (o : Option KeptChain). IsSomeAnd o (λ q. IsSome (pin_at q.chain.pins t.pin))) (sym same) on.pin; kind = ap kind_in same ∙ on.kind }

-- what holds over each call that takes one back holds over two
module _ (P : Memory → Memory → Type 0) (itself : (m : Memory) → P m m) (step : (s : Snap) (old new : Memory) → HasSnap old s → IsReleased s old new → P old new) where
  pub back-if : (o : Option Snap) (old new : Memory) → IfSome o (HasSnap old) → IsReleasedIf o old new → P old new
  back-if None old new h same = subst (P old) (sym same) (itself old)
  back-if (Some s) old new h r = step s old new h r

pub counts-back-if : (o : Option Snap) (old new : Memory) → IfSome o (HasSnap old) → IsReleasedIf o old new → new.counts ≡ old.counts
counts-back-if None old new h same = ap (λ (m : Memory). m.counts) same
counts-back-if (Some s) old new h r = counts-back s old new h r

pub there-behind : (o p : Option Snap) (old mid : Memory) → IfSome o (HasSnap old) → IfSome p (HasSnap old) → IfSome o (λ s. IfSome p (λ t. s.chain ≡ t.chain → ⊥)) → IsReleasedIf o old mid → IfSome p (HasSnap mid)
there-behind None p old mid h on apart same = subst (λ (m : Memory). IfSome p (HasSnap m)) (sym same) on
there-behind (Some s) None old mid h on apart r = tt
there-behind (Some s) (Some t) old mid h on apart r = still-there s old mid h r t on apart

-- what holds over a call that takes one holds where there is one
module _ (l : BesideLaws) (same : (old new : Memory) (taken : Option Snap) → IfSome taken (λ s. kind_seen new s ≡ Memtable) → IsTakenIf old new taken → AreCachesSame old new)
    (used : (id pin phase : ℕ) (old new : Memory) → IsSnapshotTaken old new id pin phase → AreInUse old → AreInUse new) (bytes : (id pin phase : ℕ) (old new : Memory) → IsSnapshotTaken old new id pin phase → memtable_bytes new ≡ memtable_bytes old) (fell : (old mid new : Memory) (first second : Option Snap) → IsTakenIf old mid first → IsTakenIf mid new second → TakesNoMore old new) where
  pub taken-if : (old new : Memory) (o : Option Snap) → IfSome o (λ s. kind_seen new s ≡ Memtable) → IsTakenIf old new o → KeepsCache old new
  taken-if old new None seen is = subst (KeepsCache old) (sym is) (keeps-itself old)
  taken-if old new (Some s) seen taken = record {
    left = leaves-beside l old new (same old new (Some s) seen taken) (used s.chain s.pin s.phase old new taken) (fell old new new (Some s) None taken refl).counts;
    bytes = (let e = bytes s.chain s.pin s.phase old new taken in omega (arith, e));
  }
