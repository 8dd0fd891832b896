-- A cached stream over other chains and other readings, and what is below it after its calls.
use Rattle.std.specs.Prelude.{◌≡◌, ◌⊎◌, ℕ, Bool, List, Option, Some, None, IfSome, IsSome}
use Rattle.std.proofs.Common.{refl, sym, ap, ◌∙◌, subst, inl, inr}
use Rattle.rc_cell.specs.declared.writes.Tomb.{Tomb}
use Rattle.rc_position.specs.declared.positions.Pos.{Pos}
use Rattle.rc_position.specs.Position.{IsBefore}
use Rattle.rc_mutation.specs.declared.mutations.Mutation.{Mutation}
use Rattle.rc_mutation.specs.Source.{source_at, source_at_static}
use Rattle.rc_memory.specs.Memory.{Memory}
use Rattle.rc_chain.specs.declared.chains.Snap.{Snap}
use Rattle.rc_stream.specs.Did.{Call}
use Rattle.rc_stream.specs.Places.{Reaches}
use Rattle.rc_stream.specs.Stream.{Stream}
use Rattle.rc_cursor.specs.Snapshots.{IsHeadSeen, Knows}
use Rattle.rc_cacheread.specs.declared.readers.Stage.{Stage}
use Rattle.rc_cacheread.specs.Did.{ReaderDid}
use Rattle.rc_cacheread.specs.Reading.{said_at}
use Rattle.rc_cacheread.specs.Sharing.{Fits, IsAllKnown, IsReaderOf, IsReady, IsSaidBelow, Leads, Sees}
use Rattle.rc_cacheread.specs.Spots.{stand}
use Rattle.rc_filler.specs.Fillers.{FillerKnowsStatics, IsFillerReady}
use Rattle.rc_filler.specs.Stands.{StandsForWrites}
use Rattle.rc_cached.specs.declared.fillers.StreamFiller.{StreamFiller}
use Rattle.rc_cached.specs.declared.readings.Readings.{Readings}
use Rattle.rc_cached.specs.Below.{LiesBelow}
use Rattle.rc_cached.specs.calls.Parts.{of_its_filler, of_snapshot, of_underlying}
use Rattle.rc_cached.specs.Streams.{IsOfCached, IsRestOf, OfCache, SaysFrom, StillKnows, StillSays, filler_for, read_below}
use Rattle.rc_cached.proofs.Sharing.{KnownLaws, fit-of, head_seen, is-head-seen, pair, shares}
use Rattle.rc_cached.proofs.Standing.{is-with, reads-of, sees-of, with_snap}
use Rattle.rc_cached.proofs.Unread.{fits-whole}

-- ---- where something was read, a stream stands for what writes leave

each-read : (P : Stream → Type 0) (o : Option Stream) → IsSome o → IfSome o P → (t : Stream) → LiesBelow o t → P t
each-read P None h d t e = absurd (cc)
each-read P (Some s) h d t e = subst P (sym e) d

module _ (S : ℕ) (laws : KnownLaws S) (s : Snap) (r : OfCache) (m : Memory) (w : Readings) (writes : List Mutation) (of : IsOfCached s r) (stands : StandsForWrites S m s.chain s.pin writes) (said : StillSays writes w r) (read : IsSome (read_below r w)) where
  abbrev q : OfCache
  q = with_snap s r

  module _ (t : Stream) (d : Sees of_snapshot of_underlying (of_its_filler S) q m w t) where
    abbrev Whole : Type 0
    Whole = IsAllKnown (of_snapshot.knows q.known m) (of_snapshot.heads q.known m) (stand q.spot) q.to

    abbrev Rest : Type 0
    Rest = IsSaidBelow (LiesBelow (read_below r w)) q.stage q.to q.spot d.says.rest t.head.statics

    here : (k : Rest) → SaysFrom writes (stand q.spot) q.to k.stream
    here k = each-read (SaysFrom writes (stand q.spot) q.to) (read_below r w) read said.says k.stream k.stands

    rest-says : (y : Pos) → Reaches (stand q.spot) y → IsBefore y q.to → source_at writes y ≡ said_at y q.spot.tomb d.says.rest
    rest-says y a b = by_way d.says.below where
      by_way : Whole ⊎ Rest → source_at writes y ≡ said_at y q.spot.tomb d.says.rest
      by_way (inl k) =
          let x = k.each y a b in
          laws.there m (filler_for s).filler writes stands y x.0 x.1 ∙ sym (laws.there m (filler_for s).filler d.writes d.reads.stands y x.0 x.1) ∙ d.says.reads.within y (source_at d.writes y) a b refl
      by_way (inr k) = (here k).each y a b ∙ k.says y a b

    static-says : source_at_static writes ≡ t.head.statics
    static-says = by_way d.says.below where
      by_way : Whole ⊎ Rest → source_at_static writes ≡ t.head.statics
      by_way (inl k) =
          let x = (head_seen m s).head.statics in
          let known : FillerKnowsStatics m (filler_for s).filler x = (k.head (head_seen m s) (is-head-seen m s), refl) in
          laws.statics m (filler_for s).filler writes stands x known ∙ sym (laws.statics m (filler_for s).filler d.writes d.reads.stands x known) ∙ d.says.static_row
      by_way (inr k) = (here k).static_row ∙ k.static_row

    rest-q : IsRestOf writes r t
    rest-q = let o = d.says.reads in record {
      rest = d.says.rest;
      tomb = d.says.tomb;
      left = d.says.left;
      reads = record { ordered = o.ordered; telling = o.telling; written = o.written; apart = o.apart; from = o.from; within = λ y x a b e. sym e ∙ rest-says y a b; beyond = o.beyond };
      pt = sym (laws.head m (filler_for s).filler writes stands) ∙ d.says.pt (head_seen m s) (is-head-seen m s);
      static_row = static-says;
    }

  pub rest-of : (t : Stream) → Sees of_snapshot of_underlying (of_its_filler S) r m w t → IsRestOf writes r t
  rest-of t is = rest-q t (subst (λ p. Sees of_snapshot of_underlying (of_its_filler S) p m w t) (is-with s r of) is)

-- ---- over other readings

-- where the same was read, what may lie below fits still
pub said-over : (writes others : List Mutation) (r : OfCache) (w v : Readings) → read_below r v ≡ read_below r w → StillSays others w r → IfSome (read_below r w) (SaysFrom writes (stand r.spot) r.to) → StillSays writes v r
said-over writes others r w v same said says = record {
  fits = λ t h. said.fits t (subst (λ o. LiesBelow o t) same h);
  says = subst (λ o. IfSome o (SaysFrom writes (stand r.spot) r.to)) (sym same) says;
}

module _ (S : ℕ) (laws : KnownLaws S) (s : Snap) (r : OfCache) (m n : Memory) (w v : Readings) (others : List Mutation) (of : IsOfCached s r)
    (still : (writes : List Mutation) → StandsForWrites S m s.chain s.pin writes → StandsForWrites S n s.chain s.pin writes) (said : StillSays others w r) (none : read_below r w ≡ None) (now : read_below r v ≡ None) where
  unread-q : (t : Stream) → Sees of_snapshot of_underlying (of_its_filler S) (with_snap s r) m w t → Sees of_snapshot of_underlying (of_its_filler S) r n v t
  unread-q t d =
      let o = said-over d.writes others r w v (now ∙ sym none) said (subst (λ o. IfSome o (SaysFrom d.writes (stand r.spot) r.to)) (sym none) tt) in
      sees-of S laws s r n v d.writes of (still d.writes d.reads.stands) o t (record {
        rest = d.says.rest;
        tomb = d.says.tomb;
        left = d.says.left;
        reads = d.says.reads;
        pt = sym (laws.head m (filler_for s).filler d.writes d.reads.stands) ∙ d.says.pt (head_seen m s) (is-head-seen m s);
        static_row = d.says.static_row;
      })

  -- over nothing read a stream stands for what it stood for
  pub unread-seen : (t : Stream) → Sees of_snapshot of_underlying (of_its_filler S) r m w t → Sees of_snapshot of_underlying (of_its_filler S) r n v t
  unread-seen t is = unread-q t (subst (λ p. Sees of_snapshot of_underlying (of_its_filler S) p m w t) (is-with s r of) is)

-- ---- what is below still says

-- what is below fits where a stream stands that is said there
fits-still : (o : Option Stream) (a : Stage) (x : Pos) (u : Option Tomb) (t : Stream) → LiesBelow o t → Fits a x u t → (n : Stream) → LiesBelow o n → Fits a x u n
fits-still None a x u t h f n k = fits-whole a x u t n h f k.whole k.apart
fits-still (Some s) a x u t h f n k = subst (Fits a x u) (h ∙ sym k) f

-- and says what it leads to
says-still : (writes : List Mutation) (o : Option Stream) (a : Stage) (x to : Pos) (u : Option Tomb) → Leads writes (LiesBelow o) a x to u → IfSome o (SaysFrom writes x to)
says-still writes None a x to u l = tt
says-still writes (Some s) a x to u l = record {
  each = λ y k b. l.each y (said_at y s.tomb s.left) k b (λ t e f. ap (λ (z : Stream). said_at y z.tomb z.left) (sym e));
  static_row = l.static_row s.head.statics (λ t e f. ap (λ (z : Stream). z.head.statics) (sym e));
}

module _ (S : ℕ) (laws : KnownLaws S) (s : Snap) (r n : OfCache) (m g : Memory) (w v : Readings) (c : Call) (ok : Bool) (writes : List Mutation) (of : IsOfCached s r) (now : n.known.snap ≡ s) where
  abbrev AllKnown : Snap → Type 0
  AllKnown z = IsAllKnown (Knows g z) (IsHeadSeen g z) (stand n.spot) n.to

  pub stands-after : n.filler ≡ filler_for s → StandsForWrites S m s.chain s.pin writes → StillSays writes w r → ReaderDid of_snapshot of_underlying (of_its_filler S) r m w c ok n g v → StandsForWrites S g s.chain s.pin writes
  stands-after filler stands said d = subst (λ (f : StreamFiller). StandsForWrites S g f.filler.chain f.filler.pin writes) filler (d.stays writes (reads-of S laws s r m w writes of stands said)).stands

  abbrev Led : Type 0
  Led = Leads writes (LiesBelow (read_below n v)) n.stage (stand n.spot) n.to n.spot.tomb

  abbrev Said : (t : Stream) → Sees of_snapshot of_underlying (of_its_filler S) n g v t → Type 0
  Said t x = IsSaidBelow (LiesBelow (read_below n v)) n.stage n.to n.spot x.says.rest t.head.statics

  pub still-says : StandsForWrites S m s.chain s.pin writes → StillSays writes w r → ReaderDid of_snapshot of_underlying (of_its_filler S) r m w c ok n g v → (t : Stream) → Sees of_snapshot of_underlying (of_its_filler S) n g v t → AllKnown s ⊎ StillSays writes v n
  still-says stands said d t x = by_way (d.stays writes (reads-of S laws s r m w writes of stands said)).covered x.says.below where
    by_way : AllKnown n.known.snap ⊎ Led → AllKnown n.known.snap ⊎ Said t x → AllKnown s ⊎ StillSays writes v n
    by_way (inl k) y = inl (subst AllKnown now k)
    by_way (inr l) (inl k) = inl (subst AllKnown now k)
    by_way (inr l) (inr k) = inr (record {
      fits = fits-still (read_below n v) n.stage (stand n.spot) n.spot.tomb k.stream k.stands k.fits;
      says = says-still writes (read_below n v) n.stage (stand n.spot) n.to n.spot.tomb l;
    })

-- ---- where nothing that was known was lost

module _ (S : ℕ) (laws : KnownLaws S) (s : Snap) (r : OfCache) (m n : Memory) (w v : Readings) (of : IsOfCached s r)
    (still : (writes : List Mutation) → StandsForWrites S m s.chain s.pin writes → StandsForWrites S n s.chain s.pin writes) (knows : StillKnows s m n) (same : read_below r v ≡ read_below r w) where
  abbrev p : OfCache
  p = with_snap s r

  known-still : IsAllKnown (of_snapshot.knows p.known m) (of_snapshot.heads p.known m) (stand p.spot) p.to → IsAllKnown (of_snapshot.knows p.known n) (of_snapshot.heads p.known n) (stand p.spot) p.to
  known-still k = record { each = λ y a b. (let x = k.each y a b in (x.0, knows.there y x.0 x.1)); head = knows.static_row k.head }

  reads-still : (writes : List Mutation) → IsReaderOf of_snapshot of_underlying (of_its_filler S) writes p m w → IsReaderOf of_snapshot of_underlying (of_its_filler S) writes p n v
  reads-still writes h = record { stands = still writes h.stands; covered = cover h.covered } where
    cover : IsAllKnown (of_snapshot.knows p.known m) (of_snapshot.heads p.known m) (stand p.spot) p.to ⊎ Leads writes (LiesBelow (read_below p w)) p.stage (stand p.spot) p.to p.spot.tomb → IsAllKnown (of_snapshot.knows p.known n) (of_snapshot.heads p.known n) (stand p.spot) p.to ⊎ Leads writes (LiesBelow (read_below p v)) p.stage (stand p.spot) p.to p.spot.tomb
    cover (inl k) = inl (known-still k)
    cover (inr l) = inr (subst (λ o. Leads writes (LiesBelow o) p.stage (stand p.spot) p.to p.spot.tomb) (sym same) l)

  pub still-ready : IsFillerReady S (filler_for s).filler n → IsReady of_snapshot of_underlying (of_its_filler S) r m w → IsReady of_snapshot of_underlying (of_its_filler S) r n v
  still-ready ready is =
      let h = subst (λ o. IsReady of_snapshot of_underlying (of_its_filler S) o m w) (is-with s r of) is in
      subst (λ o. IsReady of_snapshot of_underlying (of_its_filler S) o n v) (sym (is-with s r of)) (record {
        fit = fit-of S laws p.known p.below p.filler n v h.writes (pair S laws p.known) ready (still h.writes h.reads.stands);
        shares = shares S laws;
        writes = h.writes;
        reads = reads-still h.writes h.reads;
        ahead = λ x _. tt;
        place = h.place;
      })

  sees-still : (t : Stream) → Sees of_snapshot of_underlying (of_its_filler S) p m w t → Sees of_snapshot of_underlying (of_its_filler S) p n v t
  sees-still t d = record {
    writes = d.writes;
    reads = reads-still d.writes d.reads;
    says = record {
      rest = d.says.rest;
      tomb = d.says.tomb;
      left = d.says.left;
      reads = d.says.reads;
      pt = λ at h. h.pt ∙ laws.head n (filler_for s).filler d.writes (still d.writes d.reads.stands) ∙ sym (laws.head m (filler_for s).filler d.writes d.reads.stands) ∙ d.says.pt (head_seen m s) (is-head-seen m s);
      static_row = d.says.static_row;
      below = cover d.says.below;
    };
  } where
    cover : IsAllKnown (of_snapshot.knows p.known m) (of_snapshot.heads p.known m) (stand p.spot) p.to ⊎ IsSaidBelow (LiesBelow (read_below p w)) p.stage p.to p.spot d.says.rest t.head.statics → IsAllKnown (of_snapshot.knows p.known n) (of_snapshot.heads p.known n) (stand p.spot) p.to ⊎ IsSaidBelow (LiesBelow (read_below p v)) p.stage p.to p.spot d.says.rest t.head.statics
    cover (inl k) = inl (known-still k)
    cover (inr l) = inr (subst (λ o. IsSaidBelow (LiesBelow o) p.stage p.to p.spot d.says.rest t.head.statics) (sym same) l)

  pub still-seen : (t : Stream) → Sees of_snapshot of_underlying (of_its_filler S) r m w t → Sees of_snapshot of_underlying (of_its_filler S) r n v t
  still-seen t is = subst (λ o. Sees of_snapshot of_underlying (of_its_filler S) o n v t) (sym (is-with s r of)) (sees-still t (subst (λ o. Sees of_snapshot of_underlying (of_its_filler S) o m w t) (is-with s r of) is))
