-- A snapshot's stream is ready, and stands for what was written.
use Rattle.std.specs.Prelude.{◌≡◌, ◌⊎◌, ℕ, true, List, [], ◌∷◌, Option, None}
use Rattle.std.proofs.Common.{refl, sym, ap, ◌∙◌, subst, inl}
use Rattle.rc_position.specs.declared.positions.Pos.{Pos}
use Rattle.rc_mutation.specs.declared.fragments.HeadAt.{HeadAt}
use Rattle.rc_mutation.specs.declared.mutations.Mutation.{Mutation}
use Rattle.rc_mutation.specs.Source.{SameSource, source_at_head, source_at_static}
use Rattle.rc_core.specs.declared.entries.ChainKind.{ChainKind}
use Rattle.rc_core.specs.declared.entries.ChainKind.TheVariants.{Memtable}
use Rattle.rc_core.specs.declared.entries.Flag.{Flag}
use Rattle.rc_core.specs.declared.entries.Flag.TheVariants.{Inherit}
use Rattle.rc_core.specs.Chain.{IsKnown, base, content, flagged_from, has_flag, newer_first, states_at}
use Rattle.rc_core.specs.Chains.{AllInherit}
use Rattle.rc_core.specs.Continuity.{EachOf, static_states}
use Rattle.rc_core.specs.Version.{On, Version, end_position, static_state}
use Rattle.rc_cursor.specs.Memory.{HasPin, Memory}
use Rattle.rc_cursor.specs.Snap.{Snap}
use Rattle.rc_stream.specs.Snapshot.{SayThere, There}
use Rattle.rc_stream.specs.Stream.{Stream, stream_of}
use Rattle.rc_cursor.specs.declared.readers.SnapshotReader.{SnapshotReader}
use Rattle.rc_cursor.specs.Snapshots.{AreReadable, IsHeadOf, IsHeadSeen, IsKnownAs, Knows, kind_seen, versions_seen}
use Rattle.rc_cacheread.specs.declared.readers.CacheReader.{CacheReader}
use Rattle.rc_cacheread.specs.declared.readers.Stage.TheVariants.{Away}
use Rattle.rc_cacheread.specs.declared.spots.RowAt.TheVariants.{Unread}
use Rattle.rc_cacheread.specs.Reading.{Reads}
use Rattle.rc_cacheread.specs.Sharing.{IsAllKnown, IsReaderOf, IsReady, IsSaidBelow, Leads, Sees}
use Rattle.rc_cacheread.specs.Spots.{stand}
use Rattle.rc_snapshots.specs.declared.fillers.NoFiller.{NoFiller}
use Rattle.rc_snapshots.specs.Fillers.{AreKnownOf, StandsNamed}
use Rattle.rc_snapshots.specs.Streams.{IsNewStream, IsOf, SeesChanges, filler_of, first_position, from_start}
use Rattle.rc_snapshots.proofs.Fragments.{from-first}
use Rattle.rc_snapshots.proofs.Parts.{be, fi, fit, kn, shares}

abbrev pub Reader : Type 0
Reader = CacheReader SnapshotReader Stream NoFiller

-- ---- a memtable's static row is known

undecided : (f : Flag) (o : Option ℕ) → o ≡ None → f ≡ Inherit → newer_first f o ≡ None
undecided f o e i = (λ j. newer_first (i j) (e j))

no-base : (versions : List Version) → EachOf AllInherit versions → base (static_states versions) ≡ None
no-base [] h = refl
no-base (v ∷ vs) h = undecided (static_state v).flag (base (static_states vs)) (no-base vs h.1) h.0.statics

statics-flagged : (versions : List Version) → EachOf AllInherit versions → has_flag Memtable (static_states versions) ≡ true
statics-flagged versions h = ap (λ b. flagged_from Memtable b (static_states versions)) (no-base versions h)

-- ---- a new stream

-- a new stream, with what is not looked at
abbrev made : Snap → Option Pos → Reader
made s since = record {
  known = from_start s;
  below = stream_of [];
  filler = filler_of s;
  to = end_position;
  spot = record { place = first_position; row = Unread; told = None; again = None; tomb = None; since = since };
  stage = Away;
  lags = true;
}

is-made : (s : Snap) (r : Reader) → IsNewStream s r → r ≡ made s r.spot.since
is-made s r is = λ i. record {
  known = is.known i;
  below = is.below i;
  filler = is.filler i;
  to = is.to i;
  spot = record { place = is.place i; row = is.row i; told = is.told i; again = is.again i; tomb = is.tomb i; since = r.spot.since };
  stage = is.stage i;
  lags = is.lags i;
}

pub new-is-of : (s : Snap) (r : Reader) → IsNewStream s r → IsOf s r
new-is-of s r is = record { snap = ap (λ (k : SnapshotReader). k.snap) is.known; filler = is.filler }

module _ (known : (versions : List Version) → EachOf AllInherit versions → (x : Pos) → IsKnown Memtable versions x) (s : Snap) (changes : List Mutation) (m : Memory) (sees : SeesChanges changes m s) where
  known-at : (y : Pos) (v : There) → content (states_at (On y) (versions_seen m s)) ≡ v → Knows m s y v
  known-at y v e = record { known = subst (λ q. IsKnown q (versions_seen m s) y) (sym sees.kind) (known (versions_seen m s) sees.inherit y); there = e }

  statics-known : has_flag (kind_seen m s) (static_states (versions_seen m s)) ≡ true
  statics-known = ap (λ q. has_flag q (static_states (versions_seen m s))) sees.kind ∙ statics-flagged (versions_seen m s) sees.inherit

  all-known : (from to : Pos) → IsAllKnown (kn.knows (from_start s) m) (kn.heads (from_start s) m) from to
  all-known from to = record {
    each = λ y _ _. (content (states_at (On y) (versions_seen m s)), known-at y (content (states_at (On y) (versions_seen m s))) refl);
    head = λ at h. h.known ∙ statics-known;
  }

  -- the snapshot stands for all writes that say the same
  stands : (writes : List Mutation) → SameSource writes changes → StandsNamed m (filler_of s) writes
  stands writes same = record {
    head = sees.stands.head ∙ sym same.head;
    there = λ y v a. same.clustered y ∙ sym (sees.stands.clustered y) ∙ a.there;
    static_row = λ _. same.statics ∙ sym (ap (λ (v : There). v.0) sees.stands.statics);
  }

  module _ {W : Type 0} (w : W) (r : Reader) (is : IsNewStream s r) where
    -- of all those it is a reader
    new-reads : (writes : List Mutation) → SameSource writes changes → IsReaderOf kn (be W) fi writes (made s r.spot.since) m w
    new-reads writes same = record { stands = stands writes same; covered = inl (all-known first_position end_position) }

    pub new-ready : IsReady kn (be W) fi r m w
    new-ready = subst (λ q. IsReady kn (be W) fi q m w) (sym (is-made s r is)) (record {
      fit = fit W (from_start s) (stream_of []) m w (sees.pin, sees.readable);
      shares = shares W;
      writes = changes;
      reads = new-reads changes (record { head = refl; statics = refl; clustered = λ y. refl });
      ahead = λ x _. tt;
      place = from-first first_position;
    })

    pub new-sees : (said : Mutation) (t : Stream) → SameSource (said ∷ []) changes → Reads (SayThere (said ∷ [])) first_position end_position None t.left → t.tomb ≡ None → t.head.pt ≡ source_at_head (said ∷ []) → t.head.statics ≡ source_at_static (said ∷ []) → Sees kn (be W) fi r m w t
    new-sees said t same reads none pt statics = subst (λ q. Sees kn (be W) fi q m w t) (sym (is-made s r is)) (record {
      writes = said ∷ [];
      reads = new-reads (said ∷ []) same;
      says = record {
        rest = t.left;
        tomb = none;
        left = refl;
        reads = reads;
        pt = λ at h. h.pt ∙ sees.stands.head ∙ sym same.head ∙ sym pt;
        static_row = sym statics;
        below = inl (all-known first_position end_position);
      };
    })

-- ---- a stream over other chains, in which the snapshot sees the same

-- the stream, of a snapshot whatever its own says
abbrev with_snap : Snap → Reader → Reader
with_snap s r = record { known = record { snap = s; cursor = r.known.cursor }; below = r.below; filler = filler_of s; to = r.to; spot = r.spot; stage = r.stage; lags = r.lags }

is-with : (s : Snap) (r : Reader) → IsOf s r → r ≡ with_snap s r
is-with s r of = λ i. record { known = record { snap = of.snap i; cursor = r.known.cursor }; below = r.below; filler = of.filler i; to = r.to; spot = r.spot; stage = r.stage; lags = r.lags }

module _ {W : Type 0} (s : Snap) (m n : Memory) (w v : W) (versions : versions_seen n s ≡ versions_seen m s) (kind : kind_seen n s ≡ kind_seen m s) where
  -- what holds of what the snapshot saw holds of what it sees
  on : (P : ChainKind → List Version → Type 0) → P (kind_seen m s) (versions_seen m s) → P (kind_seen n s) (versions_seen n s)
  on P h = subst (λ q. P q (versions_seen n s)) (sym kind) (subst (P (kind_seen m s)) (sym versions) h)

  module _ (r : Reader) (of : IsOf s r) where
    abbrev q : Reader
    q = with_snap s r

    -- it is a reader of the same writes
    stays-reads : (writes : List Mutation) → IsReaderOf kn (be W) fi writes q m w → IsReaderOf kn (be W) fi writes q n v
    stays-reads writes h = record {
      stands = on (λ k vs. AreKnownOf k vs writes) h.stands;
      covered = on (λ k vs. IsAllKnown (IsKnownAs k vs) (IsHeadOf k vs) (stand q.spot) q.to ⊎ Leads writes (λ t. t ≡ q.below) q.stage (stand q.spot) q.to q.spot.tomb) h.covered;
    }

    pub stays-ready : HasPin n s.chain s.pin → IsReady kn (be W) fi r m w → IsReady kn (be W) fi r n v
    stays-ready pin is =
        let h = subst (λ p. IsReady kn (be W) fi p m w) (is-with s r of) is in
        subst (λ p. IsReady kn (be W) fi p n v) (sym (is-with s r of)) (record {
          fit = fit W q.known q.below n v (pin, on (λ k vs. AreReadable k vs) h.fit.known.1);
          shares = shares W;
          writes = h.writes;
          reads = stays-reads h.writes h.reads;
          ahead = λ x _. tt;
          place = h.place;
        })

    pub stays-seen : (t : Stream) → Sees kn (be W) fi r m w t → Sees kn (be W) fi r n v t
    stays-seen t is =
        let h = subst (λ p. Sees kn (be W) fi p m w t) (is-with s r of) is in
        let x = h.says in
        subst (λ p. Sees kn (be W) fi p n v t) (sym (is-with s r of)) (record {
          writes = h.writes;
          reads = stays-reads h.writes h.reads;
          says = record {
            rest = x.rest;
            tomb = x.tomb;
            left = x.left;
            reads = x.reads;
            pt = on (λ k vs. (at : HeadAt) → IsHeadOf k vs at → at.head.pt ≡ t.head.pt) x.pt;
            static_row = x.static_row;
            below = on (λ k vs. IsAllKnown (IsKnownAs k vs) (IsHeadOf k vs) (stand q.spot) q.to ⊎ IsSaidBelow (λ u. u ≡ q.below) q.stage q.to q.spot x.rest t.head.statics) x.below;
          };
        })

-- ---- a stream over other chains, in which the snapshot sees what the same changes say

module _ (known : (versions : List Version) → EachOf AllInherit versions → (x : Pos) → IsKnown Memtable versions x) (s : Snap) (changes : List Mutation) (m n : Memory) (was : SeesChanges changes m s) (is : SeesChanges changes n s) where
  -- what it sees at the head it saw there
  head-was : (at : HeadAt) → IsHeadSeen n s at → IsHeadSeen m s at
  head-was at h = record {
    pt = h.pt ∙ is.stands.head ∙ sym was.stands.head;
    statics = h.statics ∙ ap (λ (v : There). v.0) (is.stands.statics ∙ sym was.stands.statics);
    known = h.known ∙ statics-known known s changes n is ∙ sym (statics-known known s changes m was);
  }

  -- it stands for the writes for which it stood
  alike-stands : (writes : List Mutation) → StandsNamed m (filler_of s) writes → StandsNamed n (filler_of s) writes
  alike-stands writes h = record {
    head = is.stands.head ∙ sym was.stands.head ∙ h.head;
    there = λ x v a. h.there x v (known-at known s changes m was x v (was.stands.clustered x ∙ sym (is.stands.clustered x) ∙ a.there));
    static_row = λ _. h.static_row (statics-known known s changes m was) ∙ ap (λ (v : There). v.0) (was.stands.statics ∙ sym is.stands.statics);
  }

  module _ {W : Type 0} (w v : W) (r : Reader) (of : IsOf s r) where
    -- it is a reader of the same writes
    alike-reads : (writes : List Mutation) → IsReaderOf kn (be W) fi writes (with_snap s r) m w → IsReaderOf kn (be W) fi writes (with_snap s r) n v
    alike-reads writes h = record { stands = alike-stands writes h.stands; covered = inl (all-known known s changes n is (stand r.spot) r.to) }

    pub alike-ready : IsReady kn (be W) fi r m w → IsReady kn (be W) fi r n v
    alike-ready ready =
        let h = subst (λ p. IsReady kn (be W) fi p m w) (is-with s r of) ready in
        subst (λ p. IsReady kn (be W) fi p n v) (sym (is-with s r of)) (record {
          fit = fit W (with_snap s r).known (with_snap s r).below n v (is.pin, is.readable);
          shares = shares W;
          writes = h.writes;
          reads = alike-reads h.writes h.reads;
          ahead = λ x _. tt;
          place = h.place;
        })

    pub alike-seen : (t : Stream) → Sees kn (be W) fi r m w t → Sees kn (be W) fi r n v t
    alike-seen t seen =
        let h = subst (λ p. Sees kn (be W) fi p m w t) (is-with s r of) seen in
        let x = h.says in
        subst (λ p. Sees kn (be W) fi p n v t) (sym (is-with s r of)) (record {
          writes = h.writes;
          reads = alike-reads h.writes h.reads;
          says = record {
            rest = x.rest;
            tomb = x.tomb;
            left = x.left;
            reads = x.reads;
            pt = λ at a. x.pt at (head-was at a);
            static_row = x.static_row;
            below = inl (all-known known s changes n is (stand r.spot) r.to);
          };
        })
