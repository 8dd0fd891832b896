-- The parts of a snapshot: what they leave to be read.
use Rattle.std.specs.Prelude.{◌≡◌, ◌≢◌, ◌⊎◌, Bool, cond, List, [], ◌∷◌, ◌++◌, Option, Some, Result, Ok, Err, IfOk}
use Rattle.std.proofs.Common.{refl, sym, ap, ◌∙◌, subst, inl, inr}
use Rattle.std.specs.declared.alloc.AllocError.{AllocError}
use Rattle.rc_cell.specs.declared.rows.Row.{Row}
use Rattle.rc_cell.specs.declared.writes.Tomb.{Tomb}
use Rattle.rc_cell.specs.Winner.{empty_row}
use Rattle.rc_position.specs.declared.comps.Comp.{Comp}
use Rattle.rc_position.specs.declared.positions.Pos.{Pos}
use Rattle.rc_position.specs.Position.{IsBefore, row_pos}
use Rattle.rc_core.specs.declared.parts.Part.{Part}
use Rattle.rc_core.specs.declared.parts.Part.TheVariants as part
use Rattle.rc_mutation.specs.declared.fragments.Frag.{Frag}
use Rattle.rc_mutation.specs.declared.fragments.Frag.TheVariants as frag
use Rattle.rc_stream.specs.Merging.{same_tomb}
use Rattle.rc_stream.specs.Places.{Reaches}
use Rattle.rc_stream.specs.Snapshot.{IsPartFrom, SameKnown, SayThere, There, Throughout}
use Rattle.rc_stream.specs.Stream.{Stream}
use Rattle.rc_cacheread.specs.declared.readers.CacheReader.{CacheReader}
use Rattle.rc_cacheread.specs.declared.readers.Stage.{Stage}
use Rattle.rc_cacheread.specs.declared.readers.Stage.TheVariants.{Away, Sought, Within}
use Rattle.rc_cacheread.specs.declared.spots.Spot.{Spot}
use Rattle.rc_cacheread.specs.Reading.{Reads, behind_row, said_at}
use Rattle.rc_cacheread.specs.Sharing.{Fits, IsAllKnown, IsPlaceAt, IsReady, IsSaidBelow, Leads, OfBelow, OfFiller, OfKnown, Sees, StaysReader}
use Rattle.rc_cacheread.specs.Spots.{again_due, change_place, due_change, front, row_due, since_or, stand, tomb_told}
use Rattle.rc_cacheread.specs.calls.Spots.{HasNothingDue}
use Rattle.rc_cacheread.proofs.Going.{append-none}
use Rattle.rc_cacheread.proofs.Idle.{idle-front}
use Rattle.rc_cacheread.proofs.Leaving.{KnownLeft, both-ways}
use Rattle.rc_cacheread.proofs.Lists.{behind-its-row, change_if, gap-read, has-row, same-tombs, turns}
use Rattle.rc_cacheread.specs.laws.Orders.{before-reaches, reach-through}
use Rattle.rc_cacheread.proofs.Orders.{before-reach, reach-itself}
use Rattle.rc_cacheread.proofs.Outcomes.{Advance, Carries, leads-on}
use Rattle.rc_cacheread.proofs.Stepping.{reader_of}

pub same-same : (a b c : Pos → There → Type 0) → SameKnown a b → SameKnown b c → SameKnown a c
same-same a b c p q = λ x v. both-ways (p x v) (q x v)

part-known : (a b : Pos → There → Type 0) (x upto : Pos) (p : Part) → SameKnown a b → IsPartFrom b x upto p → IsPartFrom a x upto p
part-known a b x upto (part.Row key r t) s d = (d.0, d.1, (s x (r, t)).1 d.2, d.3)
part-known a b x upto (part.Gap to t) s d = (d.0, λ y h k. (s y (empty_row, t)).1 (d.1 y h k))
part-known a b x upto (part.Missing to) s d = (d.0, λ v k. d.1 v ((s x v).0 k))
part-known a b x upto part.End s d = d

pub part-on : (a b : Pos → There → Type 0) (x upto : Pos) (r : Result Part AllocError) → SameKnown a b → IfOk r (IsPartFrom b x upto) → IfOk r (IsPartFrom a x upto)
part-on a b x upto (Ok p) s d = part-known a b x upto p s d
part-on a b x upto (Err e) s d = d

-- ---- what is left to be read behind a part

pub advance-gap : (S : Pos → There → Type 0) (x to end : Pos) (u t : Option Tomb) (fs : List Frag) → Reads S x to u fs → IsBefore x end → Reaches end to → Throughout x end (λ y. S y (empty_row, t)) → Advance S to u fs end t (change_if x u t)
advance-gap S x to end u t fs r b e k =
    let on : IsBefore x to = before-reaches x end to b e in
    let at : said_at x u fs ≡ (empty_row, t) = sym (r.within x (empty_row, t) (reach-itself x) on (k x (reach-itself x) b)) in
    let w = turns S x to u t fs r (ap (λ (v : There). v.1) at) in
    record {
      left = w.left;
      begins = w.begins;
      reads = gap-read S x end to t w.left w.reads (before-reach x end b) (λ y h c. sym (w.says y h) ∙ sym (r.within y (empty_row, t) h (before-reaches y end to c e) (k y h c)));
      says = λ z h. w.says z (reach-through x end z (before-reach x end b) h);
    }

joined : (xs : List Frag) (f : Frag) (ys : List Frag) → xs ++ (f ∷ ys) ≡ (xs ++ (f ∷ [])) ++ ys
joined [] f ys = refl
joined (x ∷ xs) f ys = ap (λ l. x ∷ l) (joined xs f ys)

pub advance-row : (S : Pos → There → Type 0) (x to : Pos) (key : List Comp) (row : Row) (u t : Option Tomb) (fs : List Frag) → Reads S x to u fs → IsBefore x to → x ≡ row_pos key → S x (row, t) → row ≢ empty_row → Advance S to u fs (behind_row key) t (change_if x u t ++ (frag.Row key row ∷ []))
advance-row S x to key row u t fs r b e k d =
    let at : said_at x u fs ≡ (row, t) = sym (r.within x (row, t) (reach-itself x) b k) in
    let w = turns S x to u t fs r (ap (λ (v : There). v.1) at) in
    let here : said_at (row_pos key) t w.left ≡ (row, t) = subst (λ z. said_at z t w.left ≡ (row, t)) e (sym (w.says x (reach-itself x)) ∙ at) in
    let v = has-row S key row to t w.left (subst (λ z. Reads S z to t w.left) e w.reads) here d in
    record {
      left = v.left;
      begins = w.begins ∙ ap (λ l. change_if x u t ++ l) v.begins ∙ joined (change_if x u t) (frag.Row key row) v.left;
      reads = v.reads;
      says = λ y h. w.says y (subst (λ z. Reaches z y) (sym e) (reach-through (row_pos key) (behind_row key) y (before-reach (row_pos key) (behind_row key) (behind-its-row key)) h)) ∙ v.says y h;
    }

pub advance-at : (S : Pos → There → Type 0) (to : Pos) (u : Option Tomb) (fs : List Frag) (y y' : Pos) (v v' : Option Tomb) (due due' : List Frag) → y' ≡ y → v' ≡ v → due' ≡ due → Advance S to u fs y v due → Advance S to u fs y' v' due'
advance-at S to u fs y y' v v' due due' p q r a = subst (λ (z : Pos × Option Tomb × List Frag). Advance S to u fs z.0 z.1 z.2) (λ i. (sym p i, sym q i, sym r i)) a

pub advance-same : (S : Pos → There → Type 0) (to : Pos) (s : Spot) (fs : List Frag) → HasNothingDue s → Reads S (stand s) to s.tomb fs → Advance S to s.tomb fs (stand s) s.tomb (front s)
advance-same S to s fs i r = record { left = fs; begins = ap (λ l. l ++ fs) (sym (idle-front s i)); reads = r; says = λ z h. refl }

-- behind a gap the change is due where the gap began
pub front-over : (s t : Spot) (next : Option Tomb) → HasNothingDue s → t.row ≡ s.row → t.told ≡ s.told → t.again ≡ s.again → t.tomb ≡ next → t.since ≡ Some s.place → front t ≡ change_if s.place s.tomb next
front-over s t next i w u a m n =
    ap (λ z. again_due z t.told ++ (due_change t ++ row_due t.row t.place.prefix)) (a ∙ i.again)
    ∙ ap (λ z. cond (same_tomb z t.tomb) [] (frag.Change (change_place t) t.tomb ∷ []) ++ row_due t.row t.place.prefix) (u ∙ same-tombs s.told s.tomb i.told)
    ∙ ap (λ z. cond (same_tomb s.tomb t.tomb) [] (frag.Change (since_or z t.place) t.tomb ∷ []) ++ row_due t.row t.place.prefix) n
    ∙ ap (λ z. change_if s.place s.tomb z ++ row_due t.row t.place.prefix) m
    ∙ ap (λ z. change_if s.place s.tomb next ++ row_due z t.place.prefix) (w ∙ i.row)
    ∙ append-none (change_if s.place s.tomb next)

-- ---- where the stream below may stand for the same

fits-away : (a : Stage) (x : Pos) (u : Option Tomb) (y : Pos) (v : Option Tomb) (t : Stream) → Fits a x u t → Fits Away y v t
fits-away Away x u y v t f = f
fits-away Sought x u y v t f = (f.0, f.1)
fits-away Within x u y v t f = (f.0, f.1)

pub carries-away : (seen now : Stream → Type 0) (a : Stage) (x y : Pos) (u v : Option Tomb) → ((t : Stream) → seen t → now t) → Carries seen a x u now Away y v
carries-away seen now a x y u v on = record { each = λ t s f. (t, on t s, fits-away a x u y v t f, λ z h. refl, refl) }

-- ---- the reader behind a part

module _ {K F P H W : Type 0} (kn : OfKnown K H) (be : OfBelow F H W) (fi : OfFiller P H) (r : CacheReader K F P) (l : K) (s : Spot) (a : Stage) (lags : Bool) (h g : H) (w : W) (left : KnownLeft kn be fi r.below r.filler w (r.known, h) (l, g)) (same : SameKnown (kn.knows r.known h) (kn.knows l g)) (on : Reaches (stand r.spot) (stand s)) (c : Carries (be.seen r.below h w) r.stage (stand r.spot) r.spot.tomb (be.seen r.below g w) a (stand s) s.tomb) where
  abbrev N : CacheReader K F P
  N = reader_of l r.below r.filler r.to s a lags

  whole-on : IsAllKnown (kn.knows r.known h) (kn.heads r.known h) (stand r.spot) r.to → IsAllKnown (kn.knows l g) (kn.heads l g) (stand s) r.to
  whole-on d = record {
    each = λ y k b. (let v = d.each y (reach-through (stand r.spot) (stand s) y on k) b in (v.0, (same y v.0).0 v.1));
    head = λ at k. d.head at (left.heads at k);
  }

  pub stays-known : StaysReader kn be fi r h w N g w
  stays-known writes d = record { stands = left.stands writes d.stands; covered = cover d.covered } where
    cover : IsAllKnown (kn.knows r.known h) (kn.heads r.known h) (stand r.spot) r.to ⊎ Leads writes (be.seen r.below h w) r.stage (stand r.spot) r.to r.spot.tomb → IsAllKnown (kn.knows l g) (kn.heads l g) (stand s) r.to ⊎ Leads writes (be.seen r.below g w) a (stand s) r.to s.tomb
    cover (inl x) = inl (whole-on x)
    cover (inr x) = inr (leads-on writes (be.seen r.below h w) (be.seen r.below g w) r.to r.stage (stand r.spot) r.spot.tomb a (stand s) s.tomb c on x)

  pub ready-known : IsReady kn be fi r h w → IsPlaceAt lags (kn.place l) (stand s) → IsReady kn be fi N g w
  ready-known d p = record {
    fit = left.fit;
    shares = d.shares;
    writes = d.writes;
    reads = stays-known d.writes d.reads;
    ahead = λ x k. d.ahead x (reach-through (stand r.spot) (stand s) x on k);
    place = p;
  }

  pub sees-known : (z : Stream) → (d : Sees kn be fi r h w z) → front r.spot ≡ [] → tomb_told s ≡ tomb_told r.spot → Advance (SayThere d.writes) r.to r.spot.tomb d.says.rest (stand s) s.tomb (front s) → Sees kn be fi N g w z
  sees-known z d f u adv = record {
    writes = d.writes;
    reads = stays-known d.writes d.reads;
    says = record {
      rest = adv.left;
      tomb = d.says.tomb ∙ sym u;
      left = d.says.left ∙ ap (λ x. x ++ d.says.rest) f ∙ adv.begins;
      reads = adv.reads;
      pt = λ at k. (let b = left.kept.pts at k in sym b.2 ∙ d.says.pt b.0 b.1);
      static_row = d.says.static_row;
      below = cover d.says.below;
    };
  } where
    cover : IsAllKnown (kn.knows r.known h) (kn.heads r.known h) (stand r.spot) r.to ⊎ IsSaidBelow (be.seen r.below h w) r.stage r.to r.spot d.says.rest z.head.statics → IsAllKnown (kn.knows l g) (kn.heads l g) (stand s) r.to ⊎ IsSaidBelow (be.seen r.below g w) a r.to s adv.left z.head.statics
    cover (inl x) = inl (whole-on x)
    cover (inr t) = (let n = c.each t.stream t.stands t.fits in inr (record {
      stream = n.0;
      stands = n.1;
      fits = n.2;
      says = λ y k b. n.3 y k ∙ t.says y (reach-through (stand r.spot) (stand s) y on k) b ∙ adv.says y k;
      static_row = n.4 ∙ t.static_row;
    }))

  -- where the spot is as it was
  pub sees-known-still : (e : s ≡ r.spot) → (z : Stream) → Sees kn be fi r h w z → Sees kn be fi N g w z
  sees-known-still e z d = record {
    writes = d.writes;
    reads = stays-known d.writes d.reads;
    says = record {
      rest = rest;
      tomb = d.says.tomb ∙ ap tomb_told (sym e);
      left = d.says.left ∙ ap (λ x. front x ++ rest) (sym e);
      reads = subst (λ x. Reads (SayThere d.writes) (stand x) r.to x.tomb rest) (sym e) d.says.reads;
      pt = λ at k. (let b = left.kept.pts at k in sym b.2 ∙ d.says.pt b.0 b.1);
      static_row = d.says.static_row;
      below = cover d.says.below;
    };
  } where
    rest : List Frag
    rest = d.says.rest

    cover : IsAllKnown (kn.knows r.known h) (kn.heads r.known h) (stand r.spot) r.to ⊎ IsSaidBelow (be.seen r.below h w) r.stage r.to r.spot rest z.head.statics → IsAllKnown (kn.knows l g) (kn.heads l g) (stand s) r.to ⊎ IsSaidBelow (be.seen r.below g w) a r.to s rest z.head.statics
    cover (inl x) = inl (whole-on x)
    cover (inr t) = (let n = c.each t.stream t.stands t.fits in inr (record {
      stream = n.0;
      stands = n.1;
      fits = n.2;
      says = λ y k b. n.3 y k ∙ t.says y (reach-through (stand r.spot) (stand s) y on k) b ∙ ap (λ x. said_at y x.tomb rest) (sym e);
      static_row = n.4 ∙ t.static_row;
    }))
