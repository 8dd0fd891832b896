-- What the calls of a cached stream's parts do, one after another.
use Rattle.std.specs.Prelude.{◌≡◌, ℕ, zero, suc, Bool, true, false, IsSome, Option, Some, None, is_some, length}
use Rattle.std.proofs.Common.{refl, sym, ap, ◌∙◌, subst, inl, inr}
use Rattle.std.specs.Option.{option_or}
use Rattle.rc_core.specs.Chains.{IsPinned}
use Rattle.rc_core.specs.declared.entries.ChainKind.TheVariants.{Memtable}
use Rattle.rc_memory.specs.Memory.{HasPin, KeptChain, Memory, chain_at}
use Rattle.rc_memory.specs.Recency.{IsRecency}
use Rattle.rc_chain.specs.declared.chains.Snap.{Snap}
use Rattle.rc_stream.specs.Did.{Call, InTurn, StepsInTurn}
use Rattle.rc_stream.specs.Stream.{Stream}
use Rattle.rc_stream.specs.laws.Spent.{chain-keeps}
use Rattle.rc_cursor.specs.declared.readers.SnapshotReader.{SnapshotReader}
use Rattle.rc_cursor.specs.Snapshots.{kind_seen, versions_seen}
use Rattle.rc_cacheread.specs.Did.{IsAnswered, KnownStep, ReaderCall, reader_state}
use Rattle.rc_filler.specs.declared.fillers.CacheFiller.{CacheFiller}
use Rattle.rc_filler.specs.Fills.{IsCacheFill, IsUsedAsBefore}
use Rattle.rc_snapshots.specs.laws.Seeing.{snap-then}
use Rattle.rc_cached.specs.Below.{readings_after}
use Rattle.rc_cached.specs.declared.fillers.StreamFiller.{StreamFiller}
use Rattle.rc_cached.specs.declared.readings.Readings.{Readings}
use Rattle.rc_cached.specs.declared.underlying.Underlying.{Underlying}
use Rattle.rc_cached.specs.Fillers.{IsStreamFill}
use Rattle.rc_cached.specs.Leaving.{LeavesChains}
use Rattle.rc_cached.specs.calls.Parts.{of_its_filler, of_snapshot, of_underlying}
use Rattle.rc_cached.specs.Streams.{IsOfCached, OfCache}

-- ---- what is left of the chains

-- a chain is used as it was
same-use : (k : KeptChain) → IsUsedAsBefore k k
same-use k = record { kind = refl; attached = refl; updating = refl; pins = refl; passed = refl; phases = refl }

use-then : (k l m : KeptChain) → IsUsedAsBefore k l → IsUsedAsBefore l m → IsUsedAsBefore k m
use-then k l m a b = record { kind = b.kind ∙ a.kind; attached = b.attached ∙ a.attached; updating = b.updating ∙ a.updating; pins = b.pins ∙ a.pins; passed = b.passed ∙ a.passed; phases = b.phases ∙ a.phases }

leaves-same : (m : Memory) → LeavesChains m m
leaves-same m = record {
  memtables = λ s on. record { pin = on.pin; versions = refl; kind = refl };
  pins = λ id pin on. on;
  pinned = λ id j k e on. (k, e, same-use k);
  absent = λ id e. e;
  segments = refl;
}

leaves-then : (m n o : Memory) → LeavesChains m n → LeavesChains n o → LeavesChains m o
leaves-then m n o a b = record {
  memtables = λ s on. (let x = a.memtables s on in let y = b.memtables s (snap-then m n s on x) in record { pin = y.pin; versions = y.versions ∙ x.versions; kind = y.kind ∙ x.kind });
  pins = λ id pin on. b.pins id pin (a.pins id pin on);
  pinned = λ id j k e on. (let x = a.pinned id j k e on in let y = b.pinned id j x.0 x.1 (subst (λ pins. IsPinned pins j) (sym x.2.pins) on) in (y.0, y.1, use-then k x.0 y.0 x.2 y.2));
  absent = λ id e. b.absent id (a.absent id e);
  segments = b.segments ∙ a.segments;
}

leaves-on : (m n : Memory) → n ≡ m → LeavesChains m n
leaves-on m n e = subst (LeavesChains m) (sym e) (leaves-same m)

-- what a fill leaves
pub record FillLaws (S : ℕ) : Type 0 where
  pub sees : (f g : CacheFiller) (m n : Memory) (s : Snap) → IsRecency m → IsCacheFill S f m g n → HasPin m s.chain s.pin → kind_seen m s ≡ Memtable → (versions_seen n s ≡ versions_seen m s) × (kind_seen n s ≡ kind_seen m s)
  pub pins : (f g : CacheFiller) (m n : Memory) (id pin : ℕ) → IsCacheFill S f m g n → HasPin m id pin → HasPin n id pin
  pub pinned : (f g : CacheFiller) (m n : Memory) (id j : ℕ) (k : KeptChain) → IsCacheFill S f m g n → chain_at m id ≡ Some k → IsPinned k.chain.pins j → (now : KeptChain) × (chain_at n id ≡ Some now) × IsUsedAsBefore k now
  pub absent : (f g : CacheFiller) (m n : Memory) (id : ℕ) → IsCacheFill S f m g n → chain_at m id ≡ None → chain_at n id ≡ None
  pub budget : (f g : CacheFiller) (m n : Memory) → IsCacheFill S f m g n → length n.region.usages ≡ length m.region.usages

module _ (S : ℕ) (laws : FillLaws S) where
  leaves-fill : (f g : StreamFiller) (m n : Memory) → IsStreamFill S f m g n → LeavesChains m n
  leaves-fill f g m n d = record {
    memtables = λ s on. (let x = laws.sees f.filler g.filler m n s d.rule d.fill on.pin on.kind in record { pin = laws.pins f.filler g.filler m n s.chain s.pin d.fill on.pin; versions = x.0; kind = x.1 });
    pins = λ id pin on. laws.pins f.filler g.filler m n id pin d.fill on;
    pinned = λ id j k e on. laws.pinned f.filler g.filler m n id j k d.fill e on;
    absent = λ id e. laws.absent f.filler g.filler m n id d.fill e;
    segments = laws.budget f.filler g.filler m n d.fill;
  }

-- the same filler after a fill
same-filler : (S : ℕ) (f g : StreamFiller) (m n : Memory) → IsStreamFill S f m g n → g ≡ f
same-filler S f g m n d = (λ i. record { filler = d.fill.same i })

-- ---- what a call leaves of what was read

some-or : (a b : Option Stream) → is_some a ≡ true → is_some (option_or a b) ≡ true
some-or None b e = absurd (cc)
some-or (Some s) b e = refl

none-or : (a b : Option Stream) → is_some a ≡ false → b ≡ None → is_some (option_or a b) ≡ false
none-or None b e n = ap is_some n
none-or (Some s) b e n = absurd (cc)

none-of : (a : Option Stream) → is_some a ≡ false → a ≡ None
none-of None e = refl
none-of (Some s) e = absurd (cc)

read-none : (a b : Option Stream) → option_or a b ≡ None → b ≡ None
read-none None b n = n
read-none (Some x) b n = absurd (cc)

-- what was read is there still, and nothing comes to be that was not read
kept-below : (a b c : Option Stream) (w v : Readings) → w.list ≡ b → v ≡ readings_after a b w → is_some c ≡ is_some (option_or a b) → is_some (option_or c v.list) ≡ is_some (option_or a b)
kept-below (Some s) b c w v l e k = some-or c v.list k
kept-below None (Some s) c w v l e k = some-or c v.list k
kept-below None None c w v l e k = none-or c v.list k (ap (λ (x : Readings). x.list) e ∙ l)

-- where something was read none is missed
none-missed : (a b : Option Stream) (w v : Readings) → v ≡ readings_after a b w → IsSome (option_or a b) → v.missed ≡ w.missed
none-missed (Some s) b w v e h = ap (λ (x : Readings). x.missed) e
none-missed None (Some s) w v e h = ap (λ (x : Readings). x.missed) e
none-missed None None w v e h = absurd (cc)

-- a call that was answered missed nothing
answered-missed : (a b : Option Stream) (w v : Readings) → v ≡ readings_after a b w → (option_or a b ≡ None → true ≡ false) → v.missed ≡ w.missed
answered-missed (Some s) b w v e h = ap (λ (x : Readings). x.missed) e
answered-missed None (Some s) w v e h = ap (λ (x : Readings). x.missed) e
answered-missed None None w v e h = (let n = h refl in absurd (cc))

same-begun : (a b : Option Stream) (w v : Readings) → v ≡ readings_after a b w → v.begun ≡ w.begun
same-begun (Some s) b w v e = ap (λ (x : Readings). x.begun) e
same-begun None (Some s) w v e = ap (λ (x : Readings). x.begun) e
same-begun None None w v e = ap (λ (x : Readings). x.begun) e

-- where nothing was read, nothing comes to be
none-read : (a b c : Option Stream) (w v : Readings) → w.list ≡ b → v ≡ readings_after a b w → is_some c ≡ is_some (option_or a b) → option_or a b ≡ None → (c ≡ a) × (v.list ≡ None)
none-read (Some s) b c w v l e k n = absurd (cc)
none-read None (Some s) c w v l e k n = absurd (cc)
none-read None None c w v l e k n = (none-of c k, ap (λ (x : Readings). x.list) e ∙ l)

-- what a call left that was answered was read
some-of : (o : Option Stream) → (o ≡ None → true ≡ false) → is_some o ≡ true
some-of None h = (let n = h refl in absurd (cc))
some-of (Some s) h = refl

answered-read : (u : Underlying) → IsAnswered {H = Memory} of_underlying.did u → is_some u.list ≡ true
answered-read u (f, h, w, d, g, v, did) = did.kept ∙ some-of (option_or f.list w.list) did.refused

-- so where nothing was read, no call was answered
unanswered : (A : Type 0) (u : Underlying) (b : Option Stream) → IsAnswered {H = Memory} of_underlying.did u → option_or u.list b ≡ None → A
unanswered A u b a n = not-none u.list b (answered-read u a) n where
  not-none : (a b : Option Stream) → is_some a ≡ true → option_or a b ≡ None → A
  not-none None b e n = absurd (cc)
  not-none (Some s) b e n = absurd (cc)

module _ (S : ℕ) where
  abbrev State : Type 0
  State = SnapshotReader × Underlying × StreamFiller × Memory × Readings

  abbrev Step : Call → Bool → State → State → Type 0
  Step c ok s t = ReaderCall of_snapshot of_underlying (of_its_filler S) c ok s t

  -- what was read
  abbrev pub had : State → Option Stream
  had s = option_or s.1.list s.4.list

  -- chains, snapshot, filler and readings after calls
  pub record Left (s t : State) : Type 0 where
    pub chains : LeavesChains s.3 t.3
    pub begun : t.4.begun ≡ s.4.begun
    pub snap : t.0.snap ≡ s.0.snap
    pub filler : t.2 ≡ s.2
    pub kept : is_some (had t) ≡ is_some (had s)
    pub missed : IsSome (had s) → t.4.missed ≡ s.4.missed
    pub unread : had s ≡ None → (t.3 ≡ s.3) × (t.1 ≡ s.1) × (t.4.list ≡ None)

  module _ (laws : FillLaws S) where
    left-same : (s : State) → Left s s
    left-same s = record { chains = leaves-same s.3; begun = refl; snap = refl; filler = refl; kept = refl; missed = λ h. refl; unread = λ n. (refl, refl, read-none s.1.list s.4.list n) }

    left-then : (s t u : State) → Left s t → Left t u → Left s u
    left-then s t u a b = record {
      chains = leaves-then s.3 t.3 u.3 a.chains b.chains;
      begun = b.begun ∙ a.begun;
      snap = b.snap ∙ a.snap;
      filler = b.filler ∙ a.filler;
      kept = b.kept ∙ a.kept;
      missed = λ h. b.missed (a.kept ∙ h) ∙ a.missed h;
      unread = λ n. (let x = a.unread n in let y = b.unread (none-of (had t) (a.kept ∙ ap is_some n)) in (y.0 ∙ x.0, y.1 ∙ x.1, y.2));
    }

    -- where what lies below, and the readings, are as they were
    left-beside : (s t : State) → LeavesChains s.3 t.3 → t.0.snap ≡ s.0.snap → t.2 ≡ s.2 → t.1 ≡ s.1 → t.4 ≡ s.4 → (had s ≡ None → t.3 ≡ s.3) → Left s t
    left-beside s t chains snap filler below readings unread = record {
      chains = chains;
      begun = ap (λ (x : Readings). x.begun) readings;
      snap = snap;
      filler = filler;
      kept = λ i. is_some (option_or (below i).list (readings i).list);
      missed = λ h. ap (λ (x : Readings). x.missed) readings;
      unread = λ n. (unread n, below, ap (λ (x : Readings). x.list) readings ∙ read-none s.1.list s.4.list n);
    }

    left-one : (c : Call) (ok : Bool) (s t : State) → Step c ok s t → Left s t
    left-one c ok s t (inl d) = left-beside s t (leaves-on s.3 t.3 d.0.1.home) d.0.1.snap d.2 d.1 d.3 (λ n. d.0.1.home)
    left-one c ok s t (inr (inl d)) = record {
      chains = leaves-on s.3 t.3 d.2.home;
      begun = same-begun s.1.list s.4.list s.4 t.4 d.2.readings;
      snap = ap (λ (r : SnapshotReader). r.snap) d.3;
      filler = d.4;
      kept = kept-below s.1.list s.4.list t.1.list s.4 t.4 refl d.2.readings d.2.kept;
      missed = none-missed s.1.list s.4.list s.4 t.4 d.2.readings;
      unread = λ n. (let x = none-read s.1.list s.4.list t.1.list s.4 t.4 refl d.2.readings d.2.kept n in (d.2.home, λ i. record { list = x.0 i }, x.1));
    }
    left-one c ok s t (inr (inr d)) = left-beside s t (leaves-fill S laws s.2 t.2 s.3 t.3 d.2) (ap (λ (r : SnapshotReader). r.snap) d.3) (same-filler S s.2 t.2 s.3 t.3 d.2) d.4 d.5 (unanswered (t.3 ≡ s.3) s.1 s.4.list d.1)

    pub left-all : (c : Call) (ok : Bool) (s t : State) → InTurn (Step c) ok s t → Left s t
    left-all c ok s t d = chain-keeps (Step c) Left left-same left-then (left-one c) ok s t d

  pub stays-of : (r n : OfCache) (m g : Memory) (w v : Readings) → Left (reader_state r m w) (reader_state n g v) → (s : Snap) → IsOfCached s r → IsOfCached s n
  stays-of r n m g w v a s of = record { snap = a.snap ∙ of.snap; filler = a.filler ∙ of.filler }

  -- ---- what was answered missed nothing

  answered-one : (c : Call) (s t : State) → Step c true s t → t.4.missed ≡ s.4.missed
  answered-one c s t (inl d) = ap (λ (x : Readings). x.missed) d.3
  answered-one c s t (inr (inl d)) = answered-missed s.1.list s.4.list s.4 t.4 d.2.readings d.2.refused
  answered-one c s t (inr (inr d)) = ap (λ (x : Readings). x.missed) d.5

  answered-many : (c : Call) (n : ℕ) (s t : State) → StepsInTurn (Step c true) n s t → t.4.missed ≡ s.4.missed
  answered-many c zero s t e = ap (λ (x : State). x.4.missed) (sym e)
  answered-many c (suc n) s t d = answered-many c n d.0 t d.2 ∙ answered-one c s d.0 d.1

  pub answered-all : (c : Call) (s t : State) → InTurn (Step c) true s t → t.4.missed ≡ s.4.missed
  answered-all c s t d = answered-many c d.0 s t d.1

-- calls of a snapshot alone leave the chains
home-one : (ok : Bool) (s t : SnapshotReader × Memory) → KnownStep of_snapshot.did ok s t → t.1 ≡ s.1
home-one ok s t d = d.1.home

pub home-all : (ok : Bool) (s t : SnapshotReader × Memory) → InTurn (KnownStep of_snapshot.did) ok s t → t.1 ≡ s.1
home-all ok s t d = chain-keeps (KnownStep of_snapshot.did) (λ s t. t.1 ≡ s.1) (λ s. refl) (λ s t u a b. b ∙ a) home-one ok s t d
