-- A reader after what was due was given, or the slice ended.
use Rattle.std.specs.Prelude.{◌≡◌, ◌⊎◌, true, false, cond, List, [], ◌∷◌, ◌++◌, Option, Some, None}
use Rattle.std.proofs.Common.{refl, sym, ap, ◌∙◌, subst, inl, inr}
use Rattle.rc_cell.specs.declared.writes.Tomb.{Tomb}
use Rattle.rc_position.specs.declared.positions.Pos.{Pos}
use Rattle.rc_position.specs.Position.{IsBefore, row_pos}
use Rattle.rc_mutation.specs.declared.fragments.Frag.{Frag}
use Rattle.rc_mutation.specs.declared.fragments.Frag.TheVariants as frag
use Rattle.rc_mutation.specs.declared.fragments.HeadAt.{HeadAt}
use Rattle.rc_stream.specs.Did.{OfNext}
use Rattle.rc_stream.specs.Merging.{same_tomb}
use Rattle.rc_stream.specs.Places.{Reaches}
use Rattle.rc_stream.specs.Snapshot.{SameKnown, SayThere, There}
use Rattle.rc_stream.specs.Stream.{Stream, first_upto, is_upto, rest}
use Rattle.rc_cacheread.specs.declared.readers.CacheReader.{CacheReader}
use Rattle.rc_cacheread.specs.declared.readers.Stage.TheVariants.{Away}
use Rattle.rc_cacheread.specs.declared.spots.Spot.{Spot}
use Rattle.rc_cacheread.specs.Did.{IsKnownFor}
use Rattle.rc_cacheread.specs.Passing.{IsKnownFrom}
use Rattle.rc_cacheread.specs.calls.Passing.{PassesWhole}
use Rattle.rc_cacheread.specs.Reading.{Reads, behind_row, said_at}
use Rattle.rc_cacheread.specs.Sharing.{Fits, IsAllKnown, IsPlaceAt, IsReady, IsSaidBelow, Leads, OfBelow, OfFiller, OfKnown, Sees, StaysReader}
use Rattle.rc_cacheread.specs.Spots.{front, stand, tomb_told}
use Rattle.rc_cacheread.specs.calls.Spots.{EndsUpto, IsSameSpot}
use Rattle.rc_cacheread.proofs.Lists.{ended, none-upto, turns}
use Rattle.rc_cacheread.specs.laws.Orders.{either-way, never-before, reach-through}
use Rattle.rc_cacheread.proofs.Orders.{reach-itself}
use Rattle.rc_cacheread.proofs.Outcomes.{Carries, leads-on}
use Rattle.rc_cacheread.proofs.Parting.{carries-away}
use Rattle.rc_cacheread.proofs.Stepping.{reader_of}

abbrev Behind : Type 0
Behind = Pos × Option Tomb

-- a reader of another spot, with the same stand and tombstone, and the same to be due
module _ {K F P H W : Type 0} (kn : OfKnown K H) (be : OfBelow F H W) (fi : OfFiller P H) (r : CacheReader K F P) (t : Spot) (h : H) (w : W) (p : stand t ≡ stand r.spot) (m : t.tomb ≡ r.spot.tomb) where
  abbrev N : CacheReader K F P
  N = reader_of r.known r.below r.filler r.to t r.stage r.lags

  pub stays-alike : StaysReader kn be fi r h w N h w
  stays-alike writes d = record {
    stands = d.stands;
    covered = subst (λ (z : Behind). IsAllKnown (kn.knows r.known h) (kn.heads r.known h) z.0 r.to ⊎ Leads writes (be.seen r.below h w) r.stage z.0 r.to z.1) (λ i. (sym p i, sym m i)) d.covered;
  }

  pub ready-alike : IsReady kn be fi r h w → IsReady kn be fi N h w
  ready-alike d = record {
    fit = d.fit;
    shares = d.shares;
    writes = d.writes;
    reads = stays-alike d.writes d.reads;
    ahead = subst (λ z. (x : Pos) → Reaches z x → be.ahead r.below x) (sym p) d.ahead;
    place = subst (λ z. IsPlaceAt r.lags (kn.place r.known) z) (sym p) d.place;
  }

  said-alike : (fs : List Frag) (s : Stream) → IsSaidBelow (be.seen r.below h w) r.stage r.to r.spot fs s.head.statics → IsSaidBelow (be.seen r.below h w) r.stage r.to t fs s.head.statics
  said-alike fs s d = record {
    stream = d.stream;
    stands = d.stands;
    fits = subst (λ (z : Behind). Fits r.stage z.0 z.1 d.stream) (λ i. (sym p i, sym m i)) d.fits;
    says = subst (λ (z : Behind). (y : Pos) → Reaches z.0 y → IsBefore y r.to → said_at y d.stream.tomb d.stream.left ≡ said_at y z.1 fs) (λ i. (sym p i, sym m i)) d.says;
    static_row = d.static_row;
  }

  -- what it stands for, where that is the rest behind what is due
  pub sees-at : (s z : Stream) → (d : Sees kn be fi r h w s) → z.head ≡ s.head → z.tomb ≡ tomb_told t → z.left ≡ front t ++ d.says.rest → Sees kn be fi N h w z
  sees-at s z d e u l = record {
    writes = d.writes;
    reads = stays-alike d.writes d.reads;
    says = record {
      rest = d.says.rest;
      tomb = u;
      left = l;
      reads = subst (λ (x : Behind). Reads (SayThere d.writes) x.0 r.to x.1 d.says.rest) (λ i. (sym p i, sym m i)) d.says.reads;
      pt = λ at k. d.says.pt at k ∙ ap (λ x. x.pt) (sym e);
      static_row = d.says.static_row ∙ ap (λ x. x.statics) (sym e);
      below = cover d.says.below;
    };
  } where
    cover : IsAllKnown (kn.knows r.known h) (kn.heads r.known h) (stand r.spot) r.to ⊎ IsSaidBelow (be.seen r.below h w) r.stage r.to r.spot d.says.rest s.head.statics → IsAllKnown (kn.knows r.known h) (kn.heads r.known h) (stand t) r.to ⊎ IsSaidBelow (be.seen r.below h w) r.stage r.to t d.says.rest z.head.statics
    cover (inl x) = inl (subst (λ y. IsAllKnown (kn.knows r.known h) (kn.heads r.known h) y r.to) (sym p) x)
    cover (inr x) = inr (subst (IsSaidBelow (be.seen r.below h w) r.stage r.to t d.says.rest) (ap (λ y. y.statics) (sym e)) (said-alike d.says.rest s x))

pub sees-alike : {K F P H W : Type 0} (kn : OfKnown K H) (be : OfBelow F H W) (fi : OfFiller P H) (r : CacheReader K F P) (t : Spot) (h : H) (w : W) (s : Stream) → IsSameSpot r.spot t → Sees kn be fi r h w s → Sees kn be fi (reader_of r.known r.below r.filler r.to t r.stage r.lags) h w s
sees-alike kn be fi r t h w s a d = sees-at kn be fi r t h w a.from a.tomb s s d refl (d.says.tomb ∙ sym a.told) (d.says.left ∙ ap (λ l. l ++ d.says.rest) (sym a.due))

left-over : (x : Pos) (due rest : List Frag) → first_upto x due ≡ None → (due ≡ [] → first_upto x rest ≡ None) → first_upto x (due ++ rest) ≡ None
left-over x [] rest e f = f refl
left-over x (g ∷ gs) rest e f = e

-- nothing is left up to the position
pub nothing-left : {K F P H W : Type 0} (kn : OfKnown K H) (be : OfBelow F H W) (fi : OfFiller P H) (r : CacheReader K F P) (h : H) (w : W) (upto : Pos) (s : Stream) → EndsUpto r.to upto r.spot → Sees kn be fi r h w s → first_upto upto s.left ≡ None
nothing-left kn be fi r h w upto s e d = ap (first_upto upto) d.says.left ∙ left-over upto (front r.spot) d.says.rest e.0 (λ n. by_way (e.1 n)) where
  by_way : IsBefore upto (stand r.spot) ⊎ (Reaches r.to (stand r.spot) × (r.spot.tomb ≡ None)) → first_upto upto d.says.rest ≡ None
  by_way (inl b) = none-upto (stand r.spot) upto d.says.rest b d.says.reads.from
  by_way (inr (on, n)) = ap (first_upto upto) (ended (SayThere d.writes) (stand r.spot) r.to d.says.rest (subst (λ t. Reads (SayThere d.writes) (stand r.spot) r.to t d.says.rest) n d.says.reads) on)

-- ---- the slice ended

module _ {K F P H W : Type 0} (kn : OfKnown K H) (be : OfBelow F H W) (fi : OfFiller P H) (r : CacheReader K F P) (t : Spot) (h : H) (w : W) (g : (front r.spot ≡ []) × Reaches r.to (stand r.spot) × (stand t ≡ stand r.spot) × (tomb_told t ≡ tomb_told r.spot) × (t.tomb ≡ None) × (front t ≡ frag.Change (stand r.spot) None ∷ []) × (same_tomb r.spot.tomb None ≡ false)) where
  abbrev M : CacheReader K F P
  M = reader_of r.known r.below r.filler r.to t Away r.lags

  carries : Carries (be.seen r.below h w) r.stage (stand r.spot) r.spot.tomb (be.seen r.below h w) Away (stand t) t.tomb
  carries = carries-away (be.seen r.below h w) (be.seen r.below h w) r.stage (stand r.spot) (stand t) r.spot.tomb t.tomb (λ x k. k)

  on : Reaches (stand r.spot) (stand t)
  on = subst (Reaches (stand r.spot)) (sym g.2) (reach-itself (stand r.spot))

  pub stays-closed : StaysReader kn be fi r h w M h w
  stays-closed writes d = record { stands = d.stands; covered = cover d.covered } where
    cover : IsAllKnown (kn.knows r.known h) (kn.heads r.known h) (stand r.spot) r.to ⊎ Leads writes (be.seen r.below h w) r.stage (stand r.spot) r.to r.spot.tomb → IsAllKnown (kn.knows r.known h) (kn.heads r.known h) (stand t) r.to ⊎ Leads writes (be.seen r.below h w) Away (stand t) r.to t.tomb
    cover (inl x) = inl (subst (λ z. IsAllKnown (kn.knows r.known h) (kn.heads r.known h) z r.to) (sym g.2) x)
    cover (inr x) = inr (leads-on writes (be.seen r.below h w) (be.seen r.below h w) r.to r.stage (stand r.spot) r.spot.tomb Away (stand t) t.tomb carries on x)

  pub ready-closed : IsReady kn be fi r h w → IsReady kn be fi M h w
  ready-closed d = record {
    fit = d.fit;
    shares = d.shares;
    writes = d.writes;
    reads = stays-closed d.writes d.reads;
    ahead = λ x k. d.ahead x (reach-through (stand r.spot) (stand t) x on k);
    place = subst (λ z. IsPlaceAt r.lags (kn.place r.known) z) (sym g.2) d.place;
  }

  pub sees-closed : (s : Stream) → Sees kn be fi r h w s → Sees kn be fi M h w s
  sees-closed s d =
      let o = d.says in
      let x = turns (SayThere d.writes) (stand r.spot) r.to r.spot.tomb None o.rest o.reads (ap (λ (v : There). v.1) (o.reads.beyond (stand r.spot) (reach-itself (stand r.spot)) g.1)) in
      record {
        writes = d.writes;
        reads = stays-closed d.writes d.reads;
        says = record {
          rest = x.left;
          tomb = o.tomb ∙ sym g.3;
          left = o.left ∙ ap (λ l. l ++ o.rest) g.0 ∙ x.begins ∙ ap (λ b. cond b [] (frag.Change (stand r.spot) None ∷ []) ++ x.left) g.6 ∙ ap (λ l. l ++ x.left) (sym g.5);
          reads = subst (λ (z : Behind). Reads (SayThere d.writes) z.0 r.to z.1 x.left) (λ i. (sym g.2 i, sym g.4 i)) x.reads;
          pt = o.pt;
          static_row = o.static_row;
          below = cover o.below x.left;
        };
      } where
        cover : (c : IsAllKnown (kn.knows r.known h) (kn.heads r.known h) (stand r.spot) r.to ⊎ IsSaidBelow (be.seen r.below h w) r.stage r.to r.spot d.says.rest s.head.statics) (fs : List Frag) → IsAllKnown (kn.knows r.known h) (kn.heads r.known h) (stand t) r.to ⊎ IsSaidBelow (be.seen r.below h w) Away r.to t fs s.head.statics
        cover (inl x) fs = inl (subst (λ z. IsAllKnown (kn.knows r.known h) (kn.heads r.known h) z r.to) (sym g.2) x)
        cover (inr x) fs = (let n = carries.each x.stream x.stands x.fits in inr (record {
          stream = n.0;
          stands = n.1;
          fits = n.2;
          says = λ y k b. absurd (never-before y r.to (reach-through r.to (stand r.spot) y g.1 (subst (λ z. Reaches z y) g.2 k)) b);
          static_row = n.4 ∙ x.static_row;
        }))

first-of : (x : Pos) (f : Frag) (fs : List Frag) → is_upto x f ≡ true → first_upto x (f ∷ fs) ≡ Some f
first-of x f fs e = ap (λ b. cond b (Some f) None) e

-- what was due is first
pub first-left : (x : Pos) (f : Frag) (left fs : List Frag) {due now : List Frag} → left ≡ due ++ fs → due ≡ f ∷ now → is_upto x f ≡ true → (first_upto x left ≡ Some f) × (rest left ≡ now ++ fs)
first-left x f left fs {due} {now} l d e = (ap (first_upto x) (l ∙ ap (λ z. z ++ fs) d) ∙ first-of x f (now ++ fs) e, ap rest (l ∙ ap (λ z. z ++ fs) d))

-- what is known for a call stays known where the snapshot knows the same, and no row was passed in part
module _ (a b : Pos → There → Type 0) (s : SameKnown a b) (x z : Pos) (whole : PassesWhole a x z) where
  still-from : (i : Pos) → Reaches z i → IsKnownFrom a x i → IsKnownFrom b z i
  still-from i h (inl v) = inl (v.0, (s i v.0).0 v.1)
  still-from i h (inr d) =
      elim (either-way z (row_pos d.key)) [
        | inl on ↦ inr (record { key = d.key; row = d.row; tomb = d.tomb; known = (s (row_pos d.key) (d.row, d.tomb)).0 d.known; written = d.written; on = on; behind = d.behind; before = d.before })
        | inr before ↦ absurd (never-before i (behind_row d.key) (reach-through (behind_row d.key) z i (whole d.key d.row d.tomb d.known d.written d.on before) h) d.before)
      ]

  pub still-known : (y : Pos) (p q : HeadAt → Type 0) (to end : Pos) → Reaches x z → to ≡ end → IsKnownFor (OfNext y) a p x to → IsKnownFor (OfNext y) b q z end
  still-known y p q to end on e k = λ i h m l. still-from i h (k i (reach-through x z i on h) m (subst (IsBefore i) (sym e) l))
