-- The parts of a cached stream: what each leaves to the others.
use Rattle.std.specs.Prelude.{◌≡◌, ◌↔◌, ℕ, List}
use Rattle.std.proofs.Common.{refl, sym, ◌∙◌, subst, arith}
use Rattle.rc_cell.specs.declared.rows.Row.{Row}
use Rattle.rc_cell.specs.Orders.{tomb_cmp}
use Rattle.rc_cell.specs.Winner.{greatest}
use Rattle.rc_position.specs.declared.positions.Pos.{Pos}
use Rattle.rc_mutation.specs.declared.fragments.HeadAt.{HeadAt}
use Rattle.rc_mutation.specs.declared.mutations.Mutation.{Mutation}
use Rattle.rc_mutation.specs.Source.{source_at_head, source_at_static}
use Rattle.rc_core.specs.Chain.{content, has_flag}
use Rattle.rc_core.specs.Continuity.{static_states, version_tombs}
use Rattle.rc_memory.specs.Memory.{HasPin, Memory}
use Rattle.rc_chain.specs.declared.chains.Snap.{Snap}
use Rattle.rc_populate.specs.Filling.{MayFill}
use Rattle.rc_stream.specs.Snapshot.{SayThere, There}
use Rattle.rc_cursor.specs.declared.readers.SnapshotReader.{SnapshotReader}
use Rattle.rc_cursor.specs.Snapshots.{AreReadable, IsHeadSeen, Knows, kind_seen, versions_seen}
use Rattle.rc_cacheread.specs.Sharing.{Fit, IsFillerOf, Kept, Shares, StillStands}
use Rattle.rc_filler.specs.declared.fillers.CacheFiller.{CacheFiller}
use Rattle.rc_filler.specs.Fillers.{FillerKnows, FillerKnowsStatics, IsFillerReady, kind_filled, versions_filled}
use Rattle.rc_filler.specs.Fills.{IsCacheFill}
use Rattle.rc_filler.specs.Stands.{StandsForWrites}
use Rattle.rc_cached.specs.declared.fillers.StreamFiller.{StreamFiller}
use Rattle.rc_cached.specs.declared.readings.Readings.{Readings}
use Rattle.rc_cached.specs.declared.underlying.Underlying.{Underlying}
use Rattle.rc_cached.specs.Fillers.{IsStreamFill}
use Rattle.rc_cached.specs.calls.Parts.{of_its_filler, of_snapshot, of_underlying}
use Rattle.rc_cached.specs.Streams.{filler_for}

-- what a snapshot knows that stands for writes, and what a fill leaves of it
pub record KnownLaws (S : ℕ) : Type 0 where
  pub there : (m : Memory) (f : CacheFiller) (writes : List Mutation) → StandsForWrites S m f.chain f.pin writes → (x : Pos) (v : There) → FillerKnows m f x v → SayThere writes x v
  pub statics : (m : Memory) (f : CacheFiller) (writes : List Mutation) → StandsForWrites S m f.chain f.pin writes → (row : Row) → FillerKnowsStatics m f row → source_at_static writes ≡ row
  pub head : (m : Memory) (f : CacheFiller) (writes : List Mutation) → StandsForWrites S m f.chain f.pin writes → greatest tomb_cmp (version_tombs (versions_filled m f)) ≡ source_at_head writes
  pub readable : (m : Memory) (f : CacheFiller) (writes : List Mutation) → StandsForWrites S m f.chain f.pin writes → HasPin m f.chain f.pin × AreReadable (kind_filled m f) (versions_filled m f)
  pub may : (f g : CacheFiller) (m n : Memory) → IsCacheFill S f m g n → MayFill m f.chain f.pin → MayFill n g.chain g.pin

-- the head that a snapshot sees
abbrev pub head_seen : Memory → Snap → HeadAt
head_seen m s = record { head = record { pt = greatest tomb_cmp (version_tombs (versions_seen m s)); statics = (content (static_states (versions_seen m s))).0 }; known = has_flag (kind_seen m s) (static_states (versions_seen m s)) }

pub is-head-seen : (m : Memory) (s : Snap) → IsHeadSeen m s (head_seen m s)
is-head-seen m s = record { pt = refl; statics = refl; known = refl }

module _ (S : ℕ) (laws : KnownLaws S) where
  -- the filler of a snapshot is that snapshot's
  pub pair : (k : SnapshotReader) → IsFillerOf of_snapshot (of_its_filler S) k (filler_for k.snap)
  pair k = record {
    reads = λ g writes ready d. laws.readable g (filler_for k.snap).filler writes d;
    same = λ g x v. (λ a. a, λ a. a);
    same_statics = λ g row at a. (λ b. (a.known ∙ b.0, a.statics ∙ b.1), λ b. (sym a.known ∙ b.0, sym a.statics ∙ b.1));
    pts = λ g writes d at a. a.pt ∙ laws.head g (filler_for k.snap).filler writes d;
  }

  -- where the filler is a snapshot's, is ready and stands for writes, they go together
  pub fit-of : (k : SnapshotReader) (b : Underlying) (p : StreamFiller) (g : Memory) (w : Readings) (writes : List Mutation) → IsFillerOf of_snapshot (of_its_filler S) k p → IsFillerReady S p.filler g → StandsForWrites S g p.filler.chain p.filler.pin writes → Fit of_snapshot of_underlying (of_its_filler S) k b p g w
  fit-of k b p g w writes pair ready stands = record {
    known = pair.reads g writes ready stands;
    below = tt;
    filler = ready;
    pair = pair;
    sound = λ others s x v a. laws.there g p.filler others s x v ((pair.same g x v).1 a);
    sound_statics = λ others s at a t. laws.statics g p.filler others s at.head.statics ((pair.same_statics g at.head.statics at a).1 (t, refl));
    same = pair.same g;
    same_statics = λ row a at b. ((pair.same_statics g row at b).0 a).0;
  }

  -- ---- a call of the snapshot, or of what lies below

  refit : (k l : SnapshotReader) (b c : Underlying) (p : StreamFiller) (h g : Memory) (w v : Readings) → l.snap ≡ k.snap → g ≡ h → Fit of_snapshot of_underlying (of_its_filler S) k b p h w → Fit of_snapshot of_underlying (of_its_filler S) l c p g v
  refit k l b c p h g w v snap home f =
      subst (λ s. Fit of_snapshot of_underlying (of_its_filler S) (record { snap = s; cursor = l.cursor }) c p g v) (sym snap)
      (subst (λ m. Fit of_snapshot of_underlying (of_its_filler S) (record { snap = k.snap; cursor = l.cursor }) c p m v) (sym home)
      (record { known = f.known; below = tt; filler = f.filler; pair = record { reads = f.pair.reads; same = f.pair.same; same_statics = f.pair.same_statics; pts = f.pair.pts }; sound = f.sound; sound_statics = f.sound_statics; same = f.same; same_statics = f.same_statics }))

  kept-same : (k l : SnapshotReader) (p : StreamFiller) (h g : Memory) → l.snap ≡ k.snap → g ≡ h → Kept of_snapshot (of_its_filler S) k p h l p g
  kept-same k l p h g snap home =
      subst (λ s. Kept of_snapshot (of_its_filler S) k p h (record { snap = s; cursor = l.cursor }) p g) (sym snap)
      (subst (λ m. Kept of_snapshot (of_its_filler S) k p h (record { snap = k.snap; cursor = l.cursor }) p m) (sym home)
      (record { pts = λ at a. (at, a, refl); may = λ a. a; lost = omega arith; static_row = λ a e d. d }))

  stands-same : (p : StreamFiller) (h g : Memory) → g ≡ h → StillStands (of_its_filler S) p h p g
  stands-same p h g home writes d = subst (λ m. StandsForWrites S m p.filler.chain p.filler.pin writes) (sym home) d

  heads-same : (k l : SnapshotReader) (h g : Memory) → l.snap ≡ k.snap → g ≡ h → (at : HeadAt) → IsHeadSeen g l.snap at → IsHeadSeen h k.snap at
  heads-same k l h g snap home at a = subst (λ s. IsHeadSeen h s at) snap (subst (λ m. IsHeadSeen m l.snap at) home a)

  knows-same : (k : SnapshotReader) (h g : Memory) → g ≡ h → (x : Pos) (v : There) → Knows h k.snap x v ↔ Knows g k.snap x v
  knows-same k h g home x v = (λ a. subst (λ m. Knows m k.snap x v) (sym home) a, λ a. subst (λ m. Knows m k.snap x v) home a)

  -- ---- a fill

  module _ (k : SnapshotReader) (b : Underlying) (p q : StreamFiller) (h g : Memory) (w : Readings) (f : Fit of_snapshot of_underlying (of_its_filler S) k b p h w) (d : IsStreamFill S p h q g) where
    after : StandsForWrites S g p.filler.chain p.filler.pin d.writes
    after = subst (λ (o : CacheFiller). StandsForWrites S g o.chain o.pin d.writes) d.fill.same d.after

    fill-fit : Fit of_snapshot of_underlying (of_its_filler S) k b q g w
    fill-fit = subst (λ (o : CacheFiller). Fit of_snapshot of_underlying (of_its_filler S) k b (record { filler = o }) g w) (sym d.fill.same)
        (fit-of k b p g w d.writes (record { reads = f.pair.reads; same = f.pair.same; same_statics = f.pair.same_statics; pts = f.pair.pts }) (record { snapshot = after.snapshot; roomy = f.filler.roomy }) after)

    fill-kept : Kept of_snapshot (of_its_filler S) k p h k q g
    fill-kept = record {
      pts = λ at a. (head_seen h k.snap, is-head-seen h k.snap, f.pair.pts h d.writes d.before (head_seen h k.snap) (is-head-seen h k.snap) ∙ sym (f.pair.pts g d.writes after at a));
      may = λ a. laws.may p.filler q.filler h g d.fill a;
      lost = d.lost;
      static_row = λ a e all at seen. (
          let was = (f.pair.same_statics h (head_seen h k.snap).head.statics (head_seen h k.snap) (is-head-seen h k.snap)).1 (all (head_seen h k.snap) (is-head-seen h k.snap), refl) in
          let now = d.static_row e (head_seen h k.snap).head.statics was in
          ((f.pair.same_statics g now.0 at seen).0 (subst (λ o. FillerKnowsStatics g o now.0) d.fill.same now.1)).0
          );
    }

  pub shares : Shares of_snapshot of_underlying (of_its_filler S)
  shares = record {
    after_known = λ k b p h w c ok l g f d. (refit k l b b p h g w w d.snap d.home f, kept-same k l p h g d.snap d.home, stands-same p h g d.home, heads-same k l h g d.snap d.home, λ s a. a);
    after_below = λ k b c p h w g v f d r. (refit k k b c p h g w v refl d.0 f, kept-same k k p h g refl d.0, stands-same p h g d.0, knows-same k h g d.0);
    after_fill = λ k b p h w q g f d. (fill-fit k b p q h g w f d, fill-kept k b p q h g w f d, λ s a. a);
    fits = λ p x. tt;
    one_head = λ k h a b x y. λ i. record { head = record { pt = (x.pt ∙ sym y.pt) i; statics = (x.statics ∙ sym y.statics) i }; known = (x.known ∙ sym y.known) i };
    one_there = λ k h x v u a b. sym a.there ∙ b.there;
  }
