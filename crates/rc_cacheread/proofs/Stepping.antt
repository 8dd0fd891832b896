-- A reader after a step: it is ready, stands for what it stood for, and its parts were called.
use Rattle.std.specs.Prelude.{◌≡◌, ◌⊎◌, ℕ, zero, suc, Bool, true, false, cond, List, [], ◌∷◌, ◌++◌, Option, Some, None, Ok}
use Rattle.std.proofs.Common.{refl, sym, ap, ◌∙◌, subst, inl, inr}
use Rattle.std.specs.Ordering.{is_le}
use Rattle.rc_cell.specs.declared.writes.Tomb.{Tomb}
use Rattle.rc_cell.specs.Winner.{empty_row}
use Rattle.rc_position.specs.declared.positions.Pos.{Pos}
use Rattle.rc_position.specs.Position.{IsBefore, pos_cmp}
use Rattle.rc_mutation.specs.declared.fragments.Frag.{Frag}
use Rattle.rc_mutation.specs.declared.mutations.Mutation.{Mutation}
use Rattle.rc_stream.specs.Did.{Call, InTurn, Many, ReachesEnd, StepsInTurn}
use Rattle.rc_stream.specs.Merging.{IsOrdered}
use Rattle.rc_stream.specs.Places.{Reaches, bound_of}
use Rattle.rc_stream.specs.Snapshot.{SayThere, There}
use Rattle.rc_stream.specs.Stream.{Stream, first_upto}
use Rattle.rc_cacheread.specs.declared.readers.CacheReader.{CacheReader}
use Rattle.rc_cacheread.specs.declared.readers.Stage.{Stage}
use Rattle.rc_cacheread.specs.declared.readers.Stage.TheVariants.{Within}
use Rattle.rc_cacheread.specs.declared.spots.Spot.{Spot}
use Rattle.rc_cacheread.specs.declared.spots.Step.{Step}
use Rattle.rc_cacheread.specs.calls.Below.{Fillings, Filling}
use Rattle.rc_cacheread.specs.Did.{IsAnswered, IsBelow, KnownStep, ReaderCall}
use Rattle.rc_cacheread.specs.calls.Did.{ReaderStepSays}
use Rattle.rc_cacheread.specs.Reading.{Reads, StandFrom, said_at}
use Rattle.rc_cacheread.specs.Sharing.{Fit, Fits, IsAllKnown, IsPlaceAt, IsReaderOf, IsReady, IsSaidBelow, Kept, Leads, OfBelow, OfFiller, OfKnown, Sees, SeesOf, StaysReader}
use Rattle.rc_cacheread.specs.Spots.{front, stand, tomb_told}
use Rattle.rc_cacheread.specs.calls.Spots.{HasNothingDue}
use Rattle.rc_cacheread.proofs.Chains.{chain-on}
use Rattle.rc_cacheread.proofs.Going.{Came, Gone}
use Rattle.rc_cacheread.proofs.Idle.{idle-front, idle-stand}
use Rattle.rc_cacheread.proofs.Lists.{at_of, first-says, quiet-before, from-first, upto-behind}
use Rattle.rc_cacheread.specs.laws.Orders.{before-reaches, either-way, reach-through, same-place}
use Rattle.rc_cacheread.proofs.Orders.{reach-itself}
use Rattle.rc_cacheread.proofs.Outcomes.{Advance, Carries, Outcome, leads-on}

-- a reader of these parts
abbrev pub reader_of : {K F P : Type 0} → K → F → P → Pos → Spot → Stage → Bool → CacheReader K F P
reader_of k f p to s a b = record { known = k; below = f; filler = p; to = to; spot = s; stage = a; lags = b }

module _ {K F P H W : Type 0} (kn : OfKnown K H) (be : OfBelow F H W) (fi : OfFiller P H) where
  -- ---- what is not known is not all known

  abbrev Whole : CacheReader K F P → H → Type 0
  Whole r h = IsAllKnown (kn.knows r.known h) (kn.heads r.known h) (stand r.spot) r.to

  abbrev Led : List Mutation → CacheReader K F P → H → W → Type 0
  Led writes r h w = Leads writes (be.seen r.below h w) r.stage (stand r.spot) r.to r.spot.tomb

  pub no-whole : (r : CacheReader K F P) (h : H) → HasNothingDue r.spot → IsBefore r.spot.place r.to → ((v : There) → kn.knows r.known h r.spot.place v → ⊥) → Whole r h → ⊥
  no-whole r h i b m w = (let d = w.each r.spot.place (subst (λ x. Reaches x r.spot.place) (sym (idle-stand r.spot i)) (reach-itself r.spot.place)) b in m d.0 d.1)

  pub led : (writes : List Mutation) (r : CacheReader K F P) (h : H) (w : W) → IsReaderOf kn be fi writes r h w → (Whole r h → ⊥) → Led writes r h w
  led writes r h w d n = choose d.covered where
    choose : Whole r h ⊎ Led writes r h w → Led writes r h w
    choose (inl x) = absurd (n x)
    choose (inr x) = x

  pub said : (writes : List Mutation) (r : CacheReader K F P) (h : H) (w : W) (s : Stream) → (d : SeesOf kn be writes r h w s) → (Whole r h → ⊥) → IsSaidBelow (be.seen r.below h w) r.stage r.to r.spot d.rest s.head.statics
  said writes r h w s d n = choose d.below where
    choose : Whole r h ⊎ IsSaidBelow (be.seen r.below h w) r.stage r.to r.spot d.rest s.head.statics → IsSaidBelow (be.seen r.below h w) r.stage r.to r.spot d.rest s.head.statics
    choose (inl x) = absurd (n x)
    choose (inr x) = x

  -- ---- after a step

  -- it is a reader of the same writes
  pub stays-on : (r n : CacheReader K F P) (h g : H) (w v : W) → ((writes : List Mutation) → fi.stands r.filler h writes → Led writes r h w → fi.stands n.filler g writes) → (Whole r h → ⊥) → Carries (be.seen r.below h w) r.stage (stand r.spot) r.spot.tomb (be.seen n.below g v) n.stage (stand n.spot) n.spot.tomb → Reaches (stand r.spot) (stand n.spot) → r.to ≡ n.to → StaysReader kn be fi r h w n g v
  stays-on r n h g w v stands none c on e = λ writes d.
      let l = led writes r h w d none in
      record {
        stands = stands writes d.stands l;
        covered = inr (subst (λ z. Leads writes (be.seen n.below g v) n.stage (stand n.spot) z n.spot.tomb) e (leads-on writes (be.seen r.below h w) (be.seen n.below g v) r.to r.stage (stand r.spot) r.spot.tomb n.stage (stand n.spot) n.spot.tomb c on l));
      }

  pub ready-on : (r n : CacheReader K F P) (h g : H) (w v : W) → IsReady kn be fi r h w → StaysReader kn be fi r h w n g v → Fit kn be fi n.known n.below n.filler g v → ((x : Pos) → Reaches (stand n.spot) x → be.ahead n.below x) → IsPlaceAt n.lags (kn.place n.known) (stand n.spot) → IsReady kn be fi n g v
  ready-on r n h g w v d stays fit a p = record { fit = fit; shares = d.shares; writes = d.writes; reads = stays d.writes d.reads; ahead = a; place = p }

  pub sees-on : (r n : CacheReader K F P) (h g : H) (w v : W) (s : Stream) → (d : Sees kn be fi r h w s) → StaysReader kn be fi r h w n g v → Kept kn fi r.known r.filler h n.known n.filler g → front r.spot ≡ [] → tomb_told n.spot ≡ tomb_told r.spot → Reaches (stand r.spot) (stand n.spot) → r.to ≡ n.to → (Whole r h → ⊥) → Outcome (SayThere d.writes) (be.seen r.below h w) (be.seen n.below g v) r.to r.stage (stand r.spot) r.spot.tomb n.stage (stand n.spot) n.spot.tomb (front n.spot) → Sees kn be fi n g v s
  sees-on r n h g w v s d stays kept f u on e none o =
      let x = d.says in
      let t = said d.writes r h w s x none in
      let adv = o.advance x.rest t.stream x.reads t.stands t.fits t.says in
      let c = o.carries.each t.stream t.stands t.fits in
      record {
        writes = d.writes;
        reads = stays d.writes d.reads;
        says = record {
          rest = adv.left;
          tomb = x.tomb ∙ sym u;
          left = x.left ∙ ap (λ l. l ++ x.rest) f ∙ adv.begins;
          reads = subst (λ z. Reads (SayThere d.writes) (stand n.spot) z n.spot.tomb adv.left) e adv.reads;
          pt = λ at a. (let b = kept.pts at a in sym b.2 ∙ x.pt b.0 b.1);
          static_row = x.static_row;
          below = inr (record {
            stream = c.0;
            stands = c.1;
            fits = c.2;
            says = λ z k b. c.3 z k ∙ t.says z (reach-through (stand r.spot) (stand n.spot) z on k) (subst (λ y. IsBefore z y) (sym e) b) ∙ adv.says z k;
            static_row = c.4 ∙ t.static_row;
          });
        };
      }

  -- where spot, stage and slice are as they were, so is the stream
  pub sees-still : (r n : CacheReader K F P) (h g : H) (w v : W) (s : Stream) → StaysReader kn be fi r h w n g v → Kept kn fi r.known r.filler h n.known n.filler g → r.spot ≡ n.spot → r.stage ≡ n.stage → r.to ≡ n.to → (Whole r h → ⊥) → ((t : Stream) → be.seen r.below h w t → be.seen n.below g v t) → Sees kn be fi r h w s → Sees kn be fi n g v s
  sees-still r n h g w v s stays kept e a q none on d =
      let x = d.says in
      let t = said d.writes r h w s x none in
      record {
        writes = d.writes;
        reads = stays d.writes d.reads;
        says = record {
          rest = x.rest;
          tomb = x.tomb ∙ ap tomb_told e;
          left = x.left ∙ ap (λ z. front z ++ x.rest) e;
          reads = subst (λ (z : Spot × Pos). Reads (SayThere d.writes) (stand z.0) z.1 z.0.tomb x.rest) (λ i. (e i, q i)) x.reads;
          pt = λ at k. (let b = kept.pts at k in sym b.2 ∙ x.pt b.0 b.1);
          static_row = x.static_row;
          below = inr (subst (λ (z : Spot × Stage × Pos). IsSaidBelow (be.seen n.below g v) z.1 z.2 z.0 x.rest s.head.statics) (λ i. (e i, a i, q i)) (record { stream = t.stream; stands = on t.stream t.stands; fits = t.fits; says = t.says; static_row = t.static_row }));
        };
      }

  none-at : (S : Pos → There → Type 0) (x to : Pos) (u : Option Tomb) (fs : List Frag) → Reads S x to u fs → said_at x u fs ≡ (empty_row, u) → first_upto x fs ≡ None
  none-at S x to u [] r e = refl
  none-at S x to u (f ∷ fs) r e =
      elim (either-way (at_of f) x) [
        | inl h ↦ absurd (first-says u f fs r.ordered r.telling r.written (subst (λ y. said_at y u (f ∷ fs) ≡ (empty_row, u)) (sym (same-place (at_of f) x h r.from.0)) e))
        | inr b ↦ ap (λ c. cond c (Some f) None) (upto-behind x f b)
      ]

  pub step-says : (r n : CacheReader K F P) (h g : H) (w v : W) (upto : Pos) (got : Option Frag) (z : Step) (s : Stream) → (d : Sees kn be fi r h w s) → StaysReader kn be fi r h w n g v → Kept kn fi r.known r.filler h n.known n.filler g → front r.spot ≡ [] → r.to ≡ n.to → (Whole r h → ⊥) → Gone (SayThere d.writes) (be.seen r.below h w) (be.seen n.below g v) r.to upto r.stage r.spot n.stage n.spot got z → ReaderStepSays (Ok z) upto s (Sees kn be fi n g v)
  step-says r n h g w v upto got z s d stays kept f e none o = by_step o.came where
    now : Sees kn be fi n g v s
    now = sees-on r n h g w v s d stays kept f o.told o.on e none o.outcome

    rest : List Frag
    rest = d.says.rest

    t : IsSaidBelow (be.seen r.below h w) r.stage r.to r.spot rest s.head.statics
    t = said d.writes r h w s d.says none

    adv : Advance (SayThere d.writes) r.to r.spot.tomb rest (stand n.spot) n.spot.tomb (front n.spot)
    adv = o.outcome.advance rest t.stream d.says.reads t.stands t.fits t.says

    by_step : Came (be.seen r.below h w) r.stage r.spot n.spot r.to upto z → ReaderStepSays (Ok z) upto s (Sees kn be fi n g v)
    by_step (inl p) = subst (λ y. ReaderStepSays (Ok y) upto s (Sees kn be fi n g v)) (sym p) now
    by_step (inr (p, c, q, m, b, k)) =
        let on : Reaches (stand r.spot) upto = subst (Reaches (stand r.spot)) q o.on in
        let said-there : said_at upto r.spot.tomb rest ≡ (empty_row, r.spot.tomb) = sym (t.says upto on b) ∙ k t.stream t.stands t.fits in
        let left : s.left ≡ adv.left = d.says.left ∙ ap (λ l. l ++ rest) f ∙ adv.begins ∙ ap (λ l. l ++ adv.left) c in
        let reads : Reads (SayThere d.writes) upto r.to n.spot.tomb adv.left = subst (λ y. Reads (SayThere d.writes) y r.to n.spot.tomb adv.left) q adv.reads in
        let quiet : said_at upto n.spot.tomb adv.left ≡ (empty_row, n.spot.tomb) = sym (adv.says upto (subst (λ y. Reaches y upto) (sym q) (reach-itself upto))) ∙ said-there ∙ (λ i. (empty_row, sym m i)) in
        subst (λ y. ReaderStepSays (Ok y) upto s (Sees kn be fi n g v)) (sym p) (now, ap (first_upto upto) left ∙ none-at (SayThere d.writes) upto r.to n.spot.tomb adv.left reads quiet)

  -- ---- how far the stream below may be asked

  abbrev Ends : CacheReader K F P → H → W → Pos → Pos → Type 0
  Ends r h w upto y = ReachesEnd (Sees kn be fi r h w) upto y

  left-from : (r : CacheReader K F P) (h : H) (w : W) (s : Stream) → HasNothingDue r.spot → (d : Sees kn be fi r h w s) → (s.left ≡ d.says.rest) × StandFrom r.spot.place d.says.rest
  left-from r h w s i d = (d.says.left ∙ ap (λ l. l ++ d.says.rest) (idle-front r.spot i), subst (λ x. StandFrom x d.says.rest) (idle-stand r.spot i) d.says.reads.from)

  bound-on : (x upto y : Pos) (fs : List Frag) → Reaches x upto → StandFrom x fs → Reaches (bound_of upto fs) y → Reaches x y
  bound-on x upto y [] a h q = reach-through x upto y a q
  bound-on x upto y (f ∷ fs) a h q = choose (is_le (pos_cmp upto (at_of f))) q where
    choose : (b : Bool) → Reaches (cond b upto (at_of f)) y → Reaches x y
    choose true k = reach-through x upto y a k
    choose false k = reach-through x (at_of f) y h.0 k

  pub end-reaches : (r : CacheReader K F P) (h : H) (w : W) (upto y : Pos) → HasNothingDue r.spot → Reaches r.spot.place upto → Ends r h w upto y → Reaches r.spot.place y
  end-reaches r h w upto y i a (inl k) = reach-through r.spot.place upto y a k
  end-reaches r h w upto y i a (inr (s, d, q)) = (let l = left-from r h w s i d in bound-on r.spot.place upto y d.says.rest a l.1 (subst (λ fs. Reaches (bound_of upto fs) y) l.0 q))

  first-by : (S : Pos → There → Type 0) (x near to : Pos) (u v : Option Tomb) (f : Frag) (fs gs : List Frag) → Reads S x to u (f ∷ fs) → IsOrdered gs → v ≡ u → said_at (at_of f) v gs ≡ said_at (at_of f) u (f ∷ fs) → Reaches (bound_of near gs) (at_of f)
  first-by S x near to u v f fs [] r o m e = absurd (first-says u f fs r.ordered r.telling r.written (sym e ∙ (λ i. (empty_row, m i))))
  first-by S x near to u v f fs (g ∷ gs) r o m e =
      elim (either-way (at_of g) (at_of f)) [
        | inl k ↦ nearer (is_le (pos_cmp near (at_of g))) refl k
        | inr b ↦ absurd (first-says u f fs r.ordered r.telling r.written (sym e ∙ quiet-before (at_of f) (at_of g) v (g ∷ gs) b (from-first g gs o) ∙ (λ i. (empty_row, m i))))
      ] where
        nearer : (b : Bool) → is_le (pos_cmp near (at_of g)) ≡ b → Reaches (at_of g) (at_of f) → Reaches (cond b near (at_of g)) (at_of f)
        nearer true e k = reach-through near (at_of g) (at_of f) e k
        nearer false e k = k

  pub end-on : (r : CacheReader K F P) (h : H) (w : W) (upto near y : Pos) → HasNothingDue r.spot → r.stage ≡ Within → Reaches near upto → Reaches near r.to → (Whole r h → ⊥) → Ends r h w upto y → ReachesEnd (be.seen r.below h w) near y
  end-on r h w upto near y i a n e none (inl k) = inl (reach-through near upto y n k)
  end-on r h w upto near y i a n e none (inr (s, d, q)) = by_rest d.says.rest d.says.reads (t.says) (subst (λ fs. Reaches (bound_of upto fs) y) (left-from r h w s i d).0 q) where
    t : IsSaidBelow (be.seen r.below h w) r.stage r.to r.spot d.says.rest s.head.statics
    t = said d.writes r h w s d.says none

    fits : Fits Within (stand r.spot) r.spot.tomb t.stream
    fits = subst (λ b. Fits b (stand r.spot) r.spot.tomb t.stream) a t.fits

    by_first : (f : Frag) (fs : List Frag) → Reads (SayThere d.writes) (stand r.spot) r.to r.spot.tomb (f ∷ fs) → ((z : Pos) → Reaches (stand r.spot) z → IsBefore z r.to → said_at z t.stream.tomb t.stream.left ≡ said_at z r.spot.tomb (f ∷ fs)) → (b : Bool) → Reaches (cond b upto (at_of f)) y → ReachesEnd (be.seen r.below h w) near y
    by_first f fs reads says true k = inl (reach-through near upto y n k)
    by_first f fs reads says false k =
        elim (either-way near (at_of f)) [
          | inl m ↦ inl (reach-through near (at_of f) y m k)
          | inr b ↦ inr (t.stream, t.stands, reach-through (bound_of near t.stream.left) (at_of f) y (first-by (SayThere d.writes) (stand r.spot) near r.to r.spot.tomb t.stream.tomb f fs t.stream.left reads fits.0 fits.3 (says (at_of f) reads.from.0 (before-reaches (at_of f) near r.to b e))) k)
        ]

    by_rest : (fs : List Frag) → Reads (SayThere d.writes) (stand r.spot) r.to r.spot.tomb fs → ((z : Pos) → Reaches (stand r.spot) z → IsBefore z r.to → said_at z t.stream.tomb t.stream.left ≡ said_at z r.spot.tomb fs) → Reaches (bound_of upto fs) y → ReachesEnd (be.seen r.below h w) near y
    by_rest [] reads says k = inl (reach-through near upto y n k)
    by_rest (f ∷ fs) reads says k = by_first f fs reads says (is_le (pos_cmp upto (at_of f))) k

  -- whether the snapshot lags is no part of what is read
  pub stays-lags : (r : CacheReader K F P) (h : H) (w : W) (b : Bool) → StaysReader kn be fi r h w (reader_of r.known r.below r.filler r.to r.spot r.stage b) h w
  stays-lags r h w b = λ writes d. record { stands = d.stands; covered = d.covered }

  pub sees-lags : (r : CacheReader K F P) (h : H) (w : W) (b : Bool) (s : Stream) → Sees kn be fi r h w s → Sees kn be fi (reader_of r.known r.below r.filler r.to r.spot r.stage b) h w s
  sees-lags r h w b s d =
      let x = d.says in
      record { writes = d.writes; reads = stays-lags r h w b d.writes d.reads; says = record { rest = x.rest; tomb = x.tomb; left = x.left; reads = x.reads; pt = x.pt; static_row = x.static_row; below = x.below } }

  pub ends-on : (r n : CacheReader K F P) (h g : H) (w v : W) (upto y : Pos) → ((s : Stream) → Sees kn be fi r h w s → Sees kn be fi n g v s) → Ends r h w upto y → Ends n g v upto y
  ends-on r n h g w v upto y on (inl k) = inl k
  ends-on r n h g w v upto y on (inr (s, d, q)) = inr (s, on s d, q)

  -- ---- calls

  pub known-calls : (c : Call) (b : F) (p : P) (w : W) (ok : Bool) (k l : K) (h g : H) → InTurn (KnownStep kn.did) ok (k, h) (l, g) → InTurn (ReaderCall kn be fi c) ok (k, b, p, h, w) (l, b, p, g, w)
  known-calls c b p w ok k l h g d = chain-on (ReaderCall kn be fi c) (KnownStep kn.did) (λ (s : K × H). (s.0, b, p, s.1, w)) (λ ok s t e. inl (e, refl, refl, refl)) ok (k, h) (l, g) d

  pub below-call : (c : Call) (k : K) (p : P) (ok : Bool) (b n : F) (h g : H) (w v : W) (d : Call) → IsBelow c d → be.did b h w d ok n g v → ReaderCall kn be fi c ok (k, b, p, h, w) (k, n, p, g, v)
  below-call c k p ok b n h g w v d i e = inr (inl (d, i, e, refl, refl))

  pub fill-calls : (c : Call) (k : K) (b : F) (w : W) (p q : P) (h g : H) → IsAnswered be.did b → Fillings fi.fills p h q g → Many (ReaderCall kn be fi c true) (k, b, p, h, w) (k, b, q, g, w)
  fill-calls c k b w p q h g a d = chain-on (ReaderCall kn be fi c) (λ ok s t. (ok ≡ true) × Filling fi.fills s t) (λ (s : P × H). (k, b, s.0, s.1, w)) (λ ok s t e. inr (inr (e.0, a, e.1, refl, refl, refl))) true (p, h) (q, g) (marked d.0 (p, h) (q, g) d.1) where
    marked : (n : ℕ) (s t : P × H) → StepsInTurn (Filling fi.fills) n s t → Many (λ s t. (true ≡ true) × Filling fi.fills s t) s t
    marked zero s t e = (0, e)
    marked (suc n) s t e = (let r = marked n e.0 t e.2 in (suc r.0, (e.0, (refl, e.1), r.1)))
