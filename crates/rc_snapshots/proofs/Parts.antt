-- The parts of a snapshot's stream: what each leaves to the others, since none changes the chains.
use Rattle.std.specs.Prelude.{◌≡◌, ◌↔◌, ⊤, Bool}
use Rattle.std.proofs.Common.{refl, sym, ap, ◌∙◌, subst, inl, inr, arith}
use Rattle.rc_position.specs.declared.positions.Pos.{Pos}
use Rattle.rc_mutation.specs.declared.fragments.HeadAt.{HeadAt}
use Rattle.rc_cursor.specs.Memory.{HasPin, Memory}
use Rattle.rc_stream.specs.Did.{Call, InTurn}
use Rattle.rc_stream.specs.Snapshot.{There}
use Rattle.rc_stream.specs.Stream.{Stream}
use Rattle.rc_stream.specs.laws.Spent.{chain-keeps}
use Rattle.rc_cursor.specs.declared.readers.SnapshotReader.{SnapshotReader}
use Rattle.rc_cursor.specs.Readers.{IsOnlyRead}
use Rattle.rc_cursor.specs.Snapshots.{IsHeadSeen, IsReadable, Knows}
use Rattle.rc_cacheread.specs.Did.{ReaderCall}
use Rattle.rc_cacheread.specs.Sharing.{Fit, IsFillerOf, Kept, OfBelow, OfFiller, OfKnown, Shares, StillStands}
use Rattle.rc_snapshots.specs.declared.fillers.NoFiller.{NoFiller}
use Rattle.rc_snapshots.specs.Fillers.{IsReadableNamed, KnowsNamed, KnowsStaticsNamed, StandsNamed}
use Rattle.rc_snapshots.specs.Streams.{filler_of}

-- a snapshot over the chains
abbrev pub kn : OfKnown SnapshotReader Memory
kn = record {
  ready = λ r m. HasPin m r.snap.chain r.snap.pin × IsReadable m r.snap;
  place = λ r. r.cursor.last;
  knows = λ r m. Knows m r.snap;
  heads = λ r m. IsHeadSeen m r.snap;
  did = λ r m c ok t n. IsOnlyRead r m t n;
}

-- a filler that fills nothing
abbrev pub fi : OfFiller NoFiller Memory
fi = record {
  ready = λ f m. IsReadableNamed m f;
  fits = λ _ _. ⊤;
  may = λ _ _. ⊥;
  lost = λ _. 0;
  stands = λ f m. StandsNamed m f;
  knows = λ f m. KnowsNamed m f;
  knows_statics = λ f m. KnowsStaticsNamed m f;
  fills = λ f m g n. (g ≡ f) × (n ≡ m);
}

module _ (W : Type 0) where
  -- a list below, over any store
  abbrev pub be : OfBelow Stream Memory W
  be = record {
    ready = λ _ _ _. ⊤;
    seen = λ list _ _ s. s ≡ list;
    ahead = λ _ _. ⊤;
    moves = λ h w g v. (h ≡ g) × (w ≡ v);
    did = λ _ h w _ _ _ g v. (h ≡ g) × (w ≡ v);
  }

  -- ---- they go together

  -- the filler is the snapshot's
  pair : (k : SnapshotReader) → IsFillerOf kn fi k (filler_of k.snap)
  pair k = record {
    reads = λ g writes r d. r;
    same = λ g x v. (λ a. a, λ a. a);
    same_statics = λ g row at a. (λ b. (a.known ∙ b.0, a.statics ∙ b.1), λ b. (sym a.known ∙ b.0, sym a.statics ∙ b.1));
    pts = λ g writes d at a. a.pt ∙ d.head;
  }

  pub fit : (k : SnapshotReader) (b : Stream) (m : Memory) (w : W) → HasPin m k.snap.chain k.snap.pin × IsReadable m k.snap → Fit kn be fi k b (filler_of k.snap) m w
  fit k b m w h = record {
    known = h;
    below = tt;
    filler = h;
    pair = pair k;
    sound = λ writes d. d.there;
    sound_statics = λ writes d at a t. d.static_row (sym a.known ∙ t) ∙ sym a.statics;
    same = λ x v. (λ a. a, λ a. a);
    same_statics = λ row a at b. b.known ∙ a.0;
  }

  -- ---- where the snapshot, the filler and the chains are the same

  refit : (k l : SnapshotReader) (b c : Stream) (p q : NoFiller) (h g : Memory) (w v : W) → l.snap ≡ k.snap → q ≡ p → g ≡ h → Fit kn be fi k b p h w → Fit kn be fi l c q g v
  refit k l b c p q h g w v snap filler home f =
      subst (λ s. Fit kn be fi (record { snap = s; cursor = l.cursor }) c q g v) (sym snap)
      (subst (λ o. Fit kn be fi (record { snap = k.snap; cursor = l.cursor }) c o g v) (sym filler)
      (subst (λ m. Fit kn be fi (record { snap = k.snap; cursor = l.cursor }) c p m v) (sym home)
      (record { known = f.known; below = tt; filler = f.filler; pair = record { reads = f.pair.reads; same = f.pair.same; same_statics = f.pair.same_statics; pts = f.pair.pts }; sound = f.sound; sound_statics = f.sound_statics; same = f.same; same_statics = f.same_statics })))

  kept-same : (k l : SnapshotReader) (p q : NoFiller) (h g : Memory) → l.snap ≡ k.snap → q ≡ p → g ≡ h → Kept kn fi k p h l q g
  kept-same k l p q h g snap filler home =
      subst (λ s. Kept kn fi k p h (record { snap = s; cursor = l.cursor }) q g) (sym snap)
      (subst (λ o. Kept kn fi k p h (record { snap = k.snap; cursor = l.cursor }) o g) (sym filler)
      (subst (λ m. Kept kn fi k p h (record { snap = k.snap; cursor = l.cursor }) p m) (sym home)
      (record {
        pts = λ at a. (at, a, refl);
        may = λ a. a;
        lost = omega arith;
        static_row = λ a _. absurd a;
      })))

  stands-same : (p q : NoFiller) (h g : Memory) → q ≡ p → g ≡ h → StillStands fi p h q g
  stands-same p q h g filler home writes d = subst (λ (z : NoFiller × Memory). StandsNamed z.1 z.0 writes) (λ i. (sym filler i, sym home i)) d

  heads-same : (k l : SnapshotReader) (h g : Memory) → l.snap ≡ k.snap → g ≡ h → (at : HeadAt) → IsHeadSeen g l.snap at → IsHeadSeen h k.snap at
  heads-same k l h g snap home at a = subst (λ s. IsHeadSeen h s at) snap (subst (λ m. IsHeadSeen m l.snap at) home a)

  knows-same : (k : SnapshotReader) (h g : Memory) → g ≡ h → (x : Pos) (v : There) → Knows h k.snap x v ↔ Knows g k.snap x v
  knows-same k h g home x v = (λ a. subst (λ m. Knows m k.snap x v) (sym home) a, λ a. subst (λ m. Knows m k.snap x v) home a)

  pub shares : Shares kn be fi
  shares = record {
    after_known = λ k b p h w c ok l g f d. (refit k l b b p p h g w w d.snap refl d.home f, kept-same k l p p h g d.snap refl d.home, stands-same p p h g refl d.home, heads-same k l h g d.snap d.home, λ s a. a);
    after_below = λ k b c p h w g v f d r. (refit k k b c p p h g w v refl refl (sym d.0) f, kept-same k k p p h g refl refl (sym d.0), stands-same p p h g refl (sym d.0), knows-same k h g (sym d.0));
    after_fill = λ k b p h w q g f d. (refit k k b b p q h g w w refl d.0 d.1 f, kept-same k k p q h g refl d.0 d.1, λ s a. a);
    fits = λ p x. tt;
    one_head = λ k h a b x y. λ i. record { head = record { pt = (x.pt ∙ sym y.pt) i; statics = (x.statics ∙ sym y.statics) i }; known = (x.known ∙ sym y.known) i };
    one_there = λ k h x v u a b. sym a.there ∙ b.there;
  }

  -- ---- calls change nothing

  abbrev State : Type 0
  State = SnapshotReader × Stream × NoFiller × Memory × W

  -- snapshot, filler, chains and store are the same
  abbrev pub Unchanged : State → State → Type 0
  Unchanged s t = (t.0.snap ≡ s.0.snap) × (t.2 ≡ s.2) × (t.3 ≡ s.3) × (t.4 ≡ s.4)

  one-call : (c : Call) (ok : Bool) (s t : State) → ReaderCall kn be fi c ok s t → Unchanged s t
  one-call c ok s t (inl d) = (d.0.1.snap, d.2, d.0.1.home, d.3)
  one-call c ok s t (inr (inl d)) = (ap (λ (r : SnapshotReader). r.snap) d.3, d.4, sym d.2.0, sym d.2.1)
  one-call c ok s t (inr (inr d)) = (ap (λ (r : SnapshotReader). r.snap) d.3, d.2.0, d.2.1, d.5)

  pub all-calls : (c : Call) (ok : Bool) (s t : State) → InTurn (ReaderCall kn be fi c) ok s t → Unchanged s t
  all-calls c ok s t d = chain-keeps (ReaderCall kn be fi c) Unchanged (λ s. (refl, refl, refl, refl)) (λ s t u a b. (b.0 ∙ a.0, b.1 ∙ a.1, b.2 ∙ a.2, b.3 ∙ a.3)) (one-call c) ok s t d
