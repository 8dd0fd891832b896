-- Fills through one snapshot, one after another: what they leave.
use Rattle.std.proofs.Common.{inl, inr, ◌≡◌, ◌⊎◌, ◌≤◌, ◌<◌, ◌++◌, ℕ, zero, suc, [], Some, None, length, refl, sym, ap, ◌∙◌, subst, arith}
use Rattle.std.specs.Prelude.{Contains, IsTrue}
use Rattle.rc_core.specs.Chain.{content, has_flag}
use Rattle.rc_core.specs.Continuity.{static_states}
use Rattle.rc_core.specs.declared.entries.ChainKind.TheVariants.{Memtable}
use Rattle.rc_registry.specs.Registry.{IsNumberIn}
use Rattle.rc_memory.specs.Memory.{HasPin, KeptChain, Member, Memory, chain_at, on_shown, raised_by}
use Rattle.rc_memory.specs.Recency.{IsRecency}
use Rattle.rc_memory.specs.laws.Places.{same_some}
use Rattle.rc_chain.specs.declared.chains.Snap.{Snap}
use Rattle.rc_cached.specs.Filling.{on_newest_of}
use Rattle.rc_cached.specs.LetGo.{NoCountFell}
use Rattle.rc_stream.specs.Did.{Many, StepsInTurn}
use Rattle.rc_stream.specs.Snapshot.{NoneLost, most_counted}
use Rattle.rc_cursor.specs.Snapshots.{kind_in, kind_seen, versions_in, versions_seen}
use Rattle.rc_cached.specs.CacheFiller.{CacheFiller}
use Rattle.rc_row_cache.specs.Fillers.{FillerKnowsStatics, losses, versions_filled}
use Rattle.rc_cached.specs.Fills.{IsCacheFill, IsFillDone, IsUsedAsBefore, filled_with}
use Rattle.rc_cached.specs.Coming.{AreCountsInRange}
use Rattle.rc_cached.specs.declared.fillers.StreamFiller.{StreamFiller}
use Rattle.rc_cached.specs.Fillers.{IsStreamFill}
use Rattle.rc_row_cache.specs.Saying.{AreFillsDone}
use Rattle.rc_row_cache.specs.Footprint.{AreInUse, HaveOneVersion, cache_snapshots, memtable_bytes}
use Rattle.rc_lookup.specs.Known.{KnowsStaticRow}
use Rattle.rc_lookup.specs.Rest.{LeavesRest}
use Rattle.rc_lookup.specs.calls.Entering.{IsFilledThrough}
use Rattle.rc_lookup.specs.calls.Filling.{OneFill}
use Rattle.rc_cached.specs.calls.Parts.{of_its_filler}
use Rattle.rc_lookup.specs.laws.Lost.{raised-low, raised-top}
use Rattle.rc_lookup.proofs.Counted.{filled-losses, room-leaves, room-none, room-raised, room-range, skip-losses}
use Rattle.rc_lookup.proofs.Fills.{between, many-many}
use Rattle.rc_lookup.proofs.Numbered.{changed-beside, none-is-none, there-or-not}
use Rattle.rc_lookup.specs.laws.Rest.{no-count-fell, rest-none, rest-then}
use Rattle.rc_lookup.proofs.Rest.{KeepsPins, NoMorePins, none-more}

-- what one fill leaves, and what many do
pub record FillLaws : Type 0 where
  pub memtable : (S : ℕ) (f g : CacheFiller) (m n : Memory) (id : ℕ) (k : KeptChain) → IsRecency m → IsCacheFill S f m g n → chain_at m id ≡ Some k → k.chain.kind ≡ Memtable → chain_at n id ≡ Some k
  pub sees : (S : ℕ) (f g : CacheFiller) (m n : Memory) (s : Snap) → IsRecency m → IsCacheFill S f m g n → HasPin m s.chain s.pin → kind_seen m s ≡ Memtable → (versions_seen n s ≡ versions_seen m s) × (kind_seen n s ≡ kind_seen m s)
  pub pins : (S : ℕ) (f g : CacheFiller) (m n : Memory) (id pin : ℕ) → IsCacheFill S f m g n → HasPin m id pin → HasPin n id pin
  pub told : (S : ℕ) (f g : CacheFiller) (m n : Memory) (id : ℕ) (k : KeptChain) → IsCacheFill S f m g n → chain_at m id ≡ Some k → ((now : KeptChain) × (chain_at n id ≡ Some now) × IsUsedAsBefore k now) ⊎ ((chain_at n id ≡ None) × IsNumberIn n.dropped id)
  pub still : (S : ℕ) (f g : CacheFiller) (m n : Memory) (id : ℕ) → IsCacheFill S f m g n → IsNumberIn m.dropped id → IsNumberIn n.dropped id
  pub absent : (S : ℕ) (f g : CacheFiller) (m n : Memory) (id : ℕ) → IsCacheFill S f m g n → chain_at m id ≡ None → chain_at n id ≡ None
  pub budget : (S : ℕ) (f g : CacheFiller) (m n : Memory) → IsCacheFill S f m g n → length n.region.usages ≡ length m.region.usages
  pub bytes : (S id pin : ℕ) (old new : Memory) → AreFillsDone S id pin old new → memtable_bytes new ≤ memtable_bytes old
  pub one : (S id pin : ℕ) (old new : Memory) → AreFillsDone S id pin old new → HaveOneVersion old → HaveOneVersion new
  pub used : (S id pin : ℕ) (old new : Memory) → AreFillsDone S id pin old new → AreInUse old → AreInUse new
  pub held : (S id pin : ℕ) (old new : Memory) → AreFillsDone S id pin old new → KeepsPins old new
  pub snapshots : (S id pin : ℕ) (old new : Memory) → AreFillsDone S id pin old new → cache_snapshots new ≤ cache_snapshots old

-- ---- counts

-- no count is less, and counts are of 64 bits still
record IsCounted (m n : Memory) : Type 0 where
  fell : NoCountFell m n
  range : AreCountsInRange n.counts

module _ (S : ℕ) where
  module _ (id pin : ℕ) where
    counted : (m n : Memory) → AreCountsInRange m.counts → IsFillDone S id pin m n → IsCounted m n
    counted m n range (inl same) = subst (IsCounted m) (sym same) (record { fell = no-count-fell m; range = range })
    counted m n range (inr (mid, q, room, inl filled)) =
        let now = room-range S m mid range room in
        let up = room-raised S m mid range room in
        let evicted : n.counts.evicted ≡ raised_by 0 mid.counts.evicted = ap (λ c. c.evicted) filled.filled.counts in
        let skipped : n.counts.skipped ≡ raised_by 0 mid.counts.skipped = ap (λ c. c.skipped) filled.filled.counts in
        let low_evicted = raised-low 0 mid.counts.evicted now.evicted in
        let low_skipped = raised-low 0 mid.counts.skipped now.skipped in
        let moved = filled.filled.region.moved in
        record {
          fell = record { evicted = omega (arith, up.0, evicted, low_evicted); moved = omega (arith, room.moved, moved); skipped = omega (arith, up.1, skipped, low_skipped) };
          range = record { evicted = subst (λ x. x ≤ most_counted) (sym evicted) (raised-top 0 mid.counts.evicted); skipped = subst (λ x. x ≤ most_counted) (sym skipped) (raised-top 0 mid.counts.skipped) };
        }
    counted m n range (inr (mid, q, room, inr skip)) =
        let now = room-range S m mid range room in
        let up = room-raised S m mid range room in
        let low_evicted = raised-low 0 mid.counts.evicted now.evicted in
        let low_skipped = raised-low 1 mid.counts.skipped now.skipped in
        let moved = room.moved in
        subst (IsCounted m) (sym skip.1) (record {
          fell = record { evicted = omega (arith, up.0, low_evicted); moved = moved; skipped = omega (arith, up.1, low_skipped) };
          range = record { evicted = raised-top 0 mid.counts.evicted; skipped = raised-top 1 mid.counts.skipped };
        })

    -- where nothing was lost nothing went out of the list
    listed : (m n : Memory) → AreCountsInRange m.counts → IsFillDone S id pin m n → NoneLost (losses m) (losses n) → (w : Member) → Contains m.recency w → Contains n.recency w
    listed m n range (inl same) lost w on = subst (λ (x : Memory). Contains x.recency w) (sym same) on
    listed m n range (inr (mid, q, room, inl filled)) lost w on =
        let same = filled-losses id (filled_with q) (λ x. x.chain ≡ id) mid n (room-range S m mid range room) filled.filled in
        let went : room.went ≡ [] = room-none S m mid range room (lost.0 ∙ same) (subst (λ a. a < most_counted) same lost.1) in
        filled.stay w (subst (λ l. Contains l w) (room.evicted.recency ∙ ap (λ ws. ws ++ mid.recency) went) on)
    listed m n range (inr (mid, q, room, inr skip)) lost w on = elim (skip-losses S m mid range room n skip.1) [ inl less ↦ absurd (omega (arith, less, lost.0)) | inr top ↦ absurd (omega (arith, top, lost.1)) ]

    -- and each other chain is as it was
    beside : (m n : Memory) → AreCountsInRange m.counts → IsFillDone S id pin m n → NoneLost (losses m) (losses n) → (i : ℕ) → (i ≡ id → ⊥) → chain_at n i ≡ chain_at m i
    beside m n range (inl same) lost i ne = ap (λ (x : Memory). chain_at x i) same
    beside m n range (inr (mid, q, room, inl filled)) lost i ne =
        let same = filled-losses id (filled_with q) (λ x. x.chain ≡ id) mid n (room-range S m mid range room) filled.filled in
        changed-beside mid n id (on_shown (on_newest_of (filled_with q))) filled.filled.chains i ne ∙ room-leaves S m mid range room (lost.0 ∙ same) (subst (λ a. a < most_counted) same lost.1) i
    beside m n range (inr (mid, q, room, inr skip)) lost i ne = elim (skip-losses S m mid range room n skip.1) [ inl less ↦ absurd (omega (arith, less, lost.0)) | inr top ↦ absurd (omega (arith, top, lost.1)) ]

  -- ---- one fill, and several

  -- the static row is known to a snapshot, by its chain and its number
  abbrev pub KnowsStatics : Memory → ℕ → ℕ → Type 0
  KnowsStatics m id pin = IsTrue (has_flag (kind_in (chain_at m id)) (static_states (versions_in (chain_at m id) pin)))

  -- a filler of a snapshot
  abbrev pub IsFillerOf : Snap → StreamFiller → Type 0
  IsFillerOf s f = (f.filler.chain ≡ s.chain) × (f.filler.pin ≡ s.pin)

  pub used-then : (k l m : KeptChain) → IsUsedAsBefore k l → IsUsedAsBefore l m → IsUsedAsBefore k m
  used-then k l m a b = record { kind = b.kind ∙ a.kind; attached = b.attached ∙ a.attached; updating = b.updating ∙ a.updating; pins = b.pins ∙ a.pins; passed = b.passed ∙ a.passed; phases = b.phases ∙ a.phases }

  pub through-none : (s : Snap) (m : Memory) → IsFilledThrough S s m m
  through-none s m = record {
    done = (0, refl);
    rest = rest-none m;
    told = λ id k e. inl (k, e, record { kind = refl; attached = refl; updating = refl; pins = refl; passed = refl; phases = refl });
    absent = λ id e. e;
    still = λ id e. e;
    statics = λ none k. k;
    listed = λ none w on. on;
    beside = λ none i ne. refl;
  }

  lost-less : (m n : Memory) → LeavesRest m n → losses m ≤ losses n
  lost-less m n r = omega (arith, r.counts.evicted, r.counts.skipped)

  through-then : (s : Snap) (old mid new : Memory) → IsFilledThrough S s old mid → IsFilledThrough S s mid new → IsFilledThrough S s old new
  through-then s old mid new a b = record {
    done = many-many (IsFillDone S s.chain s.pin) old mid new a.done b.done;
    rest = rest-then old mid new a.rest b.rest;
    told = λ id k e. elim (a.told id k e) [
      | inl now ↦ elim (b.told id now.0 now.1) [
        | inl then_ ↦ inl (then_.0, then_.1, used-then k now.0 then_.0 now.2 then_.2)
        | inr gone ↦ inr gone
      ]
      | inr gone ↦ inr (b.absent id gone.0, b.still id gone.1)
    ];
    absent = λ id e. b.absent id (a.absent id e);
    still = λ id e. b.still id (a.still id e);
    statics = λ none k. (let u = between (losses old) (losses mid) (losses new) (lost-less old mid a.rest) (lost-less mid new b.rest) none in b.statics u.1 (a.statics u.0 k));
    listed = λ none w on. (let u = between (losses old) (losses mid) (losses new) (lost-less old mid a.rest) (lost-less mid new b.rest) none in b.listed u.1 w (a.listed u.0 w on));
    beside = λ none i ne. (let u = between (losses old) (losses mid) (losses new) (lost-less old mid a.rest) (lost-less mid new b.rest) none in b.beside u.1 i ne ∙ a.beside u.0 i ne);
  }

  module _ (laws : FillLaws) where
    pub told-pins : (f g : CacheFiller) (m n : Memory) → IsCacheFill S f m g n → NoMorePins m n
    told-pins f g m n fill id q e = there-or-not (chain_at m id)
        (λ none. absurd (none-is-none q (sym (laws.absent S f g m n id fill none) ∙ e)))
        (λ k there. elim (laws.told S f g m n id k fill there) [
          | inl now ↦ inr (k, there, ap (λ (x : KeptChain). x.chain.pins) (same_some q now.0 (sym e ∙ now.1)) ∙ now.2.pins)
          | inr gone ↦ absurd (none-is-none q (sym gone.0 ∙ e))
        ])

    statics-kept : (s : Snap) (f g : StreamFiller) (m n : Memory) → IsFillerOf s f → IsStreamFill S f m g n → NoneLost (losses m) (losses n) → KnowsStaticRow m s → KnowsStaticRow n s
    statics-kept s f g m n is fill none k =
        let at : KnowsStatics m f.filler.chain f.filler.pin = subst (KnowsStatics m f.filler.chain) (sym is.1) (subst (λ id. KnowsStatics m id s.pin) (sym is.0) k) in
        let row : FillerKnowsStatics m f.filler ((content (static_states (versions_filled m f.filler))).0) = (at, refl) in
        let now = fill.static_row none ((content (static_states (versions_filled m f.filler))).0) row in
        let there : KnowsStatics n g.filler.chain g.filler.pin = now.1.0 in
        subst (λ id. KnowsStatics n id s.pin) (ap (λ (x : CacheFiller). x.chain) fill.fill.same ∙ is.0) (subst (KnowsStatics n g.filler.chain) (ap (λ (x : CacheFiller). x.pin) fill.fill.same ∙ is.1) there)

    one-through : (s : Snap) (f g : StreamFiller) (m n : Memory) → IsFillerOf s f → AreCountsInRange m.counts → IsStreamFill S f m g n → IsFilledThrough S s m n
    one-through s f g m n is range fill =
        let fi = f.filler in
        let gi = g.filler in
        let did = fill.fill in
        let done : IsFillDone S s.chain s.pin m n = subst (λ pin. IsFillDone S s.chain pin m n) is.1 (subst (λ id. IsFillDone S id f.filler.pin m n) is.0 did.done) in
        let all : AreFillsDone S s.chain s.pin m n = (1, (n, done, refl)) in
        record {
          done = all;
          rest = record {
            memtables = λ id k. laws.memtable S fi gi m n id k fill.rule did;
            seen = record {
              see = λ t h. (let v = laws.sees S fi gi m n t fill.rule did h.pin h.kind in record { pin = laws.pins S fi gi m n t.chain t.pin did h.pin; versions = v.0; kind = v.1 });
              there = λ t on. laws.pins S fi gi m n t.chain t.pin did on;
            };
            none_more = none-more m n (told-pins fi gi m n did);
            segments = laws.budget S fi gi m n did;
            counts = (counted s.chain s.pin m n range done).fell;
            bytes = laws.bytes S s.chain s.pin m n all;
            one = laws.one S s.chain s.pin m n all;
            used = λ _. laws.used S s.chain s.pin m n all;
            pins = laws.held S s.chain s.pin m n all;
            snapshots = laws.snapshots S s.chain s.pin m n all;
          };
          told = λ id k. laws.told S fi gi m n id k did;
          absent = λ id. laws.absent S fi gi m n id did;
          still = λ id. laws.still S fi gi m n id did;
          statics = statics-kept s f g m n is fill;
          listed = listed s.chain s.pin m n range done;
          beside = beside s.chain s.pin m n range done;
        }

    turns-through : (s : Snap) (n : ℕ) (f g : StreamFiller) (m k : Memory) → IsFillerOf s f → AreCountsInRange m.counts → StepsInTurn (OneFill (of_its_filler S)) n (f, m) (g, k) → IsFilledThrough S s m k
    turns-through s zero f g m k is range e = subst (IsFilledThrough S s m) (ap (λ (z : StreamFiller × Memory). z.1) e) (through-none s m)
    turns-through s (suc n) f g m k is range (u, one, turns) =
        let step = one-through s f u.0 m u.1 is range one in
        let same = one.fill.same in
        let done : IsFillDone S s.chain s.pin m u.1 = subst (λ pin. IsFillDone S s.chain pin m u.1) is.1 (subst (λ id. IsFillDone S id f.filler.pin m u.1) is.0 one.fill.done) in
        through-then s m u.1 k step
        (turns-through s n u.0 g u.1 k (ap (λ (x : CacheFiller). x.chain) same ∙ is.0, ap (λ (x : CacheFiller). x.pin) same ∙ is.1) (counted s.chain s.pin m u.1 range done).range turns)

    pub filled-through : (s : Snap) (f g : StreamFiller) (m k : Memory) → IsFillerOf s f → AreCountsInRange m.counts → Many (OneFill (of_its_filler S)) (f, m) (g, k) → IsFilledThrough S s m k
    filled-through s f g m k is range (n, turns) = turns-through s n f g m k is range turns

  -- it is the same filler still
  turns-same : (n : ℕ) (f g : StreamFiller) (m k : Memory) → StepsInTurn (OneFill (of_its_filler S)) n (f, m) (g, k) → g.filler ≡ f.filler
  turns-same zero f g m k e = ap (λ (z : StreamFiller × Memory). z.0.filler) (sym e)
  turns-same (suc n) f g m k (u, one, turns) = turns-same n u.0 g u.1 k turns ∙ one.fill.same

  pub same-filler : (f g : StreamFiller) (m k : Memory) → Many (OneFill (of_its_filler S)) (f, m) (g, k) → g.filler ≡ f.filler
  same-filler f g m k (n, turns) = turns-same n f g m k turns

  pub still-filler : (s : Snap) (f g : StreamFiller) (m k : Memory) → IsFillerOf s f → Many (OneFill (of_its_filler S)) (f, m) (g, k) → IsFillerOf s g
  still-filler s f g m k is did = (let same = same-filler f g m k did in (ap (λ (x : CacheFiller). x.chain) same ∙ is.0, ap (λ (x : CacheFiller). x.pin) same ∙ is.1))

  -- what holds of a snapshot holds at its filler
  pub at-filler : (P : ℕ → ℕ → Type 0) (s : Snap) (f : StreamFiller) → IsFillerOf s f → P s.chain s.pin → P f.filler.chain f.filler.pin
  at-filler P s f is h = subst (P f.filler.chain) (sym is.1) (subst (λ id. P id s.pin) (sym is.0) h)

  pub at-snapshot : (P : ℕ → ℕ → Type 0) (s : Snap) (f : StreamFiller) → IsFillerOf s f → P f.filler.chain f.filler.pin → P s.chain s.pin
  at-snapshot P s f is h = subst (λ id. P id s.pin) is.0 (subst (P f.filler.chain) is.1 h)
