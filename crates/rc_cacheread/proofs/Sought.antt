-- A reader after a seek: what is due is passed up to the position, and the rest is read from there on.
use Rattle.std.specs.Prelude.{◌≡◌, ◌⊎◌, true, false, cond, List, [], ◌∷◌, ◌++◌, Option}
use Rattle.std.proofs.Common.{refl, sym, ap, ◌∙◌, subst, inl, inr}
use Rattle.rc_cell.specs.declared.writes.Tomb.{Tomb}
use Rattle.rc_position.specs.declared.positions.Pos.{Pos}
use Rattle.rc_position.specs.Position.{IsBefore}
use Rattle.rc_mutation.specs.Fragments.{tomb_after}
use Rattle.rc_mutation.specs.declared.fragments.Frag.{Frag}
use Rattle.rc_stream.specs.Merging.{same_tomb}
use Rattle.rc_stream.specs.Places.{Reaches}
use Rattle.rc_stream.specs.Snapshot.{SayThere}
use Rattle.rc_stream.specs.Stream.{Stream, force, is_passed, onward, opening, sought_stream}
use Rattle.rc_cacheread.specs.declared.readers.CacheReader.{CacheReader}
use Rattle.rc_cacheread.specs.declared.readers.Stage.TheVariants.{Away}
use Rattle.rc_cacheread.specs.declared.spots.Spot.{Spot}
use Rattle.rc_cacheread.specs.Reading.{Reads, StandFrom, said_at}
use Rattle.rc_cacheread.specs.Sharing.{IsAllKnown, IsReady, IsSaidBelow, Leads, OfBelow, OfFiller, OfKnown, Sees, StaysReader}
use Rattle.rc_cacheread.specs.Spots.{front, stand, tomb_told}
use Rattle.rc_cacheread.specs.calls.Spots.{IsBegunAt, HasNothingDue, IsSpotSought}
use Rattle.rc_cacheread.proofs.Going.{at-lags}
use Rattle.rc_cacheread.proofs.Idle.{idle-front, idle-stand, idle-told}
use Rattle.rc_cacheread.proofs.Lists.{at_of, sought-read, sought-there, sought_from, unpassed-behind}
use Rattle.rc_cacheread.specs.laws.Orders.{before-reaches, reach-through}
use Rattle.rc_cacheread.proofs.Outcomes.{Carries, leads-on}
use Rattle.rc_cacheread.proofs.Parting.{carries-away}
use Rattle.rc_cacheread.proofs.Stepping.{reader_of}
use Rattle.rc_cacheread.proofs.Turning.{sees-at}

joined : (xs ys zs : List Frag) → xs ++ (ys ++ zs) ≡ (xs ++ ys) ++ zs
joined [] ys zs = refl
joined (x ∷ xs) ys zs = ap (λ l. x ∷ l) (joined xs ys zs)

-- what stands behind a position is not passed
unpassed : (x y : Pos) (t : Option Tomb) (fs : List Frag) → IsBefore x y → StandFrom y fs → (force x t fs ≡ t) × (onward x fs ≡ fs)
unpassed x y t [] b h = (refl, refl)
unpassed x y t (f ∷ fs) b h =
    let e = unpassed-behind x f (before-reaches x y (at_of f) b h.0) in
    (ap (λ c. cond c (force x (tomb_after t f) fs) t) e, ap (λ c. cond c (onward x fs) (f ∷ fs)) e)

abbrev Through : Pos → Option Tomb → List Frag → List Frag → Type 0
Through x t due rest = (force x t (due ++ rest) ≡ force x t due) × (onward x (due ++ rest) ≡ onward x due ++ rest)

-- where what is due is not all passed, or the rest stands behind
through : (x y : Pos) (t : Option Tomb) (due rest : List Frag) → (onward x due ≡ [] → IsBefore x y) → StandFrom y rest → Through x t due rest
through x y t [] rest b h = unpassed x y t rest (b refl) h
through x y t (f ∷ fs) rest b h =
    elim (is_passed x f) as (λ c. is_passed x f ≡ c → (cond c (onward x fs) (f ∷ fs) ≡ [] → IsBefore x y) → (cond c (force x (tomb_after t f) (fs ++ rest)) t ≡ cond c (force x (tomb_after t f) fs) t) × (cond c (onward x (fs ++ rest)) (f ∷ (fs ++ rest)) ≡ cond c (onward x fs) (f ∷ fs) ++ rest)) [
      | true ↦ λ e n. through x y (tomb_after t f) fs rest n h
      | false ↦ λ e n. (refl, refl)
    ] refl b

-- where all that is due is passed
passed-all : (x : Pos) (t : Option Tomb) (due rest : List Frag) → onward x due ≡ [] → (force x t (due ++ rest) ≡ force x (force x t due) rest) × (onward x (due ++ rest) ≡ onward x rest)
passed-all x t [] rest e = (refl, refl)
passed-all x t (f ∷ fs) rest e =
    elim (is_passed x f) as (λ c. cond c (onward x fs) (f ∷ fs) ≡ [] → (cond c (force x (tomb_after t f) (fs ++ rest)) t ≡ force x (cond c (force x (tomb_after t f) fs) t) rest) × (cond c (onward x (fs ++ rest)) (f ∷ (fs ++ rest)) ≡ onward x rest)) [
      | true ↦ λ n. passed-all x (tomb_after t f) fs rest n
      | false ↦ λ n. never f fs n
    ] e where
      never : {P : Type 0} (f : Frag) (fs : List Frag) → f ∷ fs ≡ [] → P
      never f fs e = absurd (cc)

module _ {K F P H W : Type 0} (kn : OfKnown K H) (be : OfBelow F H W) (fi : OfFiller P H) (r : CacheReader K F P) (t : Spot) (x : Pos) (h : H) (w : W) where
  pub sees-sought : IsSpotSought x r.spot t → (s : Stream) → Sees kn be fi r h w s → Sees kn be fi (reader_of r.known r.below r.filler r.to t r.stage r.lags) h w (sought_stream x s)
  sees-sought g s d =
      let y = d.says in
      let q = through x (stand r.spot) (tomb_told r.spot) (front r.spot) y.rest g.before y.reads.from in
      let tomb : force x s.tomb s.left ≡ force x (tomb_told r.spot) (front r.spot) = (λ i. force x (y.tomb i) (y.left i)) ∙ q.0 in
      let left : onward x s.left ≡ onward x (front r.spot) ++ y.rest = ap (onward x) y.left ∙ q.1 in
      sees-at kn be fi r t h w g.from g.tomb s (sought_stream x s) d refl (sym g.told)
      ((λ i. opening x (tomb i) ++ left i) ∙ joined (opening x (force x (tomb_told r.spot) (front r.spot))) (onward x (front r.spot)) y.rest ∙ ap (λ l. l ++ y.rest) (sym g.due))

  module _ (g : IsBegunAt x r.spot t) where
    abbrev N : CacheReader K F P
    N = reader_of r.known r.below r.filler r.to t Away true

    idle : HasNothingDue t
    idle = record { again = g.again; told = (λ i. same_tomb (g.told i) (g.tomb i)); row = g.row }

    pub at-begun : stand t ≡ x
    at-begun = idle-stand t idle ∙ g.place

    pub on-begun : Reaches (stand r.spot) (stand t)
    on-begun = subst (Reaches (stand r.spot)) (sym at-begun) g.on

    carries : Carries (be.seen r.below h w) r.stage (stand r.spot) r.spot.tomb (be.seen r.below h w) Away (stand t) t.tomb
    carries = carries-away (be.seen r.below h w) (be.seen r.below h w) r.stage (stand r.spot) (stand t) r.spot.tomb t.tomb (λ y k. k)

    whole-on : IsAllKnown (kn.knows r.known h) (kn.heads r.known h) (stand r.spot) r.to → IsAllKnown (kn.knows r.known h) (kn.heads r.known h) (stand t) r.to
    whole-on d = record { each = λ y k b. d.each y (reach-through (stand r.spot) (stand t) y on-begun k) b; head = d.head }

    pub stays-begun : StaysReader kn be fi r h w N h w
    stays-begun writes d = record { stands = d.stands; covered = cover d.covered } where
      cover : IsAllKnown (kn.knows r.known h) (kn.heads r.known h) (stand r.spot) r.to ⊎ Leads writes (be.seen r.below h w) r.stage (stand r.spot) r.to r.spot.tomb → IsAllKnown (kn.knows r.known h) (kn.heads r.known h) (stand t) r.to ⊎ Leads writes (be.seen r.below h w) Away (stand t) r.to t.tomb
      cover (inl y) = inl (whole-on y)
      cover (inr y) = inr (leads-on writes (be.seen r.below h w) (be.seen r.below h w) r.to r.stage (stand r.spot) r.spot.tomb Away (stand t) t.tomb carries on-begun y)

    pub ready-begun : IsReady kn be fi r h w → IsReady kn be fi N h w
    ready-begun d = record {
      fit = d.fit;
      shares = d.shares;
      writes = d.writes;
      reads = stays-begun d.writes d.reads;
      ahead = λ y k. d.ahead y (reach-through (stand r.spot) (stand t) y on-begun k);
      place = reach-through (kn.place r.known) (stand r.spot) (stand t) (at-lags r.lags (kn.place r.known) (stand r.spot) d.place) on-begun;
    }

    pub sees-begun : (s : Stream) → Sees kn be fi r h w s → Sees kn be fi N h w (sought_stream x s)
    sees-begun s d =
        let o = d.says in
        let q = passed-all x (tomb_told r.spot) (front r.spot) o.rest g.due in
        let tomb : force x s.tomb s.left ≡ force x r.spot.tomb o.rest = (λ i. force x (o.tomb i) (o.left i)) ∙ q.0 ∙ ap (λ u. force x u o.rest) g.force in
        let left : onward x s.left ≡ onward x o.rest = ap (onward x) o.left ∙ q.1 in
        let reads = sought-read (SayThere d.writes) (stand r.spot) x r.to r.spot.tomb o.rest o.reads g.on in
        record {
          writes = d.writes;
          reads = stays-begun d.writes d.reads;
          says = record {
            rest = sought_from x r.spot.tomb o.rest;
            tomb = sym (idle-told t idle ∙ g.tomb);
            left = (λ i. opening x (tomb i) ++ left i) ∙ ap (λ l. l ++ sought_from x r.spot.tomb o.rest) (sym (idle-front t idle));
            reads = subst (λ (z : Pos × Option Tomb). Reads (SayThere d.writes) z.0 r.to z.1 (sought_from x r.spot.tomb o.rest)) (λ i. (sym at-begun i, sym g.tomb i)) reads;
            pt = o.pt;
            static_row = o.static_row;
            below = cover o.rest o.below;
          };
        } where
          cover : (rest : List Frag) → IsAllKnown (kn.knows r.known h) (kn.heads r.known h) (stand r.spot) r.to ⊎ IsSaidBelow (be.seen r.below h w) r.stage r.to r.spot rest s.head.statics → IsAllKnown (kn.knows r.known h) (kn.heads r.known h) (stand t) r.to ⊎ IsSaidBelow (be.seen r.below h w) Away r.to t (sought_from x r.spot.tomb rest) s.head.statics
          cover rest (inl y) = inl (whole-on y)
          cover rest (inr y) = (let n = carries.each y.stream y.stands y.fits in inr (record {
            stream = n.0;
            stands = n.1;
            fits = n.2;
            says = λ z k b. n.3 z k ∙ y.says z (reach-through (stand r.spot) (stand t) z on-begun k) b ∙ sym (sought-there x z r.spot.tomb rest (subst (λ v. Reaches v z) at-begun k)) ∙ ap (λ u. said_at z u (sought_from x r.spot.tomb rest)) (sym g.tomb);
            static_row = n.4 ∙ y.static_row;
          }))
