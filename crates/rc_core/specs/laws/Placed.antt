-- A version under update at the update's place: where entries stand, and what keeps it at its place.
use Rattle.std.specs.Prelude.{◌≡◌, true, false, List, [], ◌∷◌, Option, Some, None, cond, map as list_map}
use Rattle.std.proofs.Common.{refl, sym, ap, ◌∙◌, subst, ⊎_elim, inl, inr}
use Rattle.std.specs.declared.cmp.Ordering.{Ordering}
use Rattle.std.specs.declared.cmp.Ordering.TheVariants.{Less, Equal, Greater}
use Rattle.std.specs.Cmp.{tied_itself}
use Rattle.std.specs.Option.{option_to_list}
use Rattle.std.specs.Ordering.{is_eq}
use Rattle.rc_cell.specs.declared.rows.Row.{Row}
use Rattle.rc_position.specs.declared.positions.Pos.{Pos}
use Rattle.rc_position.specs.Position.{Place, Head, Static, Clustered, End, place_cmp, pos_cmp, IsBefore}
use Rattle.rc_position.specs.laws.Orders.{pos_cmp_total, pos_cmp_same}
use Rattle.rc_position.specs.laws.Bounds.{place_cmp_total, place_cmp_same}
use Rattle.rc_mutation.specs.declared.mutations.Mutation.{Mutation}
use Rattle.rc_core.specs.declared.entries.Entry.{Entry}
use Rattle.rc_core.specs.declared.entries.Flag.TheVariants.{Inherit}
use Rattle.rc_core.specs.declared.entries.Mark.{Mark}
use Rattle.rc_core.specs.SpotState.{SpotState, silent}
use Rattle.rc_core.specs.Version.{Spot, On, Behind, gap_ordering as behind_of, spot_cmp, entry_answers, finding_of, finding_in, state_of, Ascend, Version, IsVersion, end_position}
use Rattle.rc_core.specs.Change.{mark, position_of, dummy, gap_split, split_by, take_out, with_gap, with_first_gap, drop_at, lost_mark}
use Rattle.rc_core.specs.AtPlace.{EachEntry, HasEntryAt, EndsBehind, IsAtPlace}
use Rattle.rc_core.specs.calls.AtPlace.{FitsBy, FitsPlace, SaysNothingAt}
use Rattle.rc_core.specs.Continuity.{with_entries, without_statics}
use Rattle.rc_core.specs.Merge.{new_version}
use Rattle.rc_core.specs.Plain.{no_mark}
use Rattle.rc_core.specs.Unit.{IsUnit}
use Rattle.rc_core.specs.laws.Spots.{turn_to, spot-Equal, spot-Less, StandsAt, StandsBy, ascend-tail, behind_both}
use Rattle.rc_core.specs.laws.Order.{IsAhead}
use Rattle.rc_core.specs.laws.Merging.{new-silent}
use Rattle.rc_core.specs.laws.GivenUp.{at_itself}

-- ---- what holds of each entry

pub each-map : (P : Entry → Type 0) (f : Entry → Entry) → ((e : Entry) → P e → P (f e)) → (es : List Entry) → EachEntry P es → EachEntry P (list_map f es)
each-map P f h [] a = tt
each-map P f h (e ∷ es) a = (h e a.0, each-map P f h es a.1)

pub each-wider : (P Q : Entry → Type 0) → ((e : Entry) → P e → Q e) → (es : List Entry) → EachEntry P es → EachEntry Q es
each-wider P Q h [] a = tt
each-wider P Q h (e ∷ es) a = (h e a.0, each-wider P Q h es a.1)

pub each-split : (P : Entry → Type 0) (x : Pos) → ((m : Mark) → P (dummy x m)) → (es : List Entry) → EachEntry P es → EachEntry P (gap_split x es)
each-split P x d [] a = tt
each-split P x d (e ∷ es) a = elim (pos_cmp x e.position) as (λ r. EachEntry P (split_by r x e es (gap_split x es))) [
  | Less ↦ (d e.gap, a)
  | Equal ↦ a
  | Greater ↦ (a.0, each-split P x d es a.1)
]

each_first : (P : Entry → Type 0) (m : Mark) → ((e : Entry) → P e → P (with_gap m e)) → (es : List Entry) → EachEntry P es → EachEntry P (with_first_gap m es)
each_first P m k [] a = tt
each_first P m k (e ∷ es) a = (k e a.0, a.1)

pub each-taken_out : (P : Entry → Type 0) (m : Mark) → ((e : Entry) → P e → P (with_gap m e)) → (x : Pos) (es : List Entry) → EachEntry P es → EachEntry P (take_out m x es)
each-taken_out P m k x [] a = tt
each-taken_out P m k x (e ∷ es) a = elim (is_eq (pos_cmp x e.position)) as (λ b. EachEntry P (cond b (with_first_gap m es) (e ∷ take_out m x es))) [
  | true ↦ each_first P m k es a.1
  | false ↦ (a.0, each-taken_out P m k x es a.1)
]

-- what holds of each entry by its position holds of one that stands at x
pub each-at : (Q : Pos → Type 0) (x : Pos) (es : List Entry) → EachEntry (λ e. Q e.position) es → HasEntryAt x es → Q x
each-at Q x [] a h = absurd h
each-at Q x (e ∷ es) a h = ⊎_elim (λ d. subst Q d a.0) (λ k. each-at Q x es a.1 k) h

-- ---- an entry that stands at a position

pub has-split : (x y : Pos) (es : List Entry) → HasEntryAt y es → HasEntryAt y (gap_split x es)
has-split x y [] h = absurd h
has-split x y (e ∷ es) h = elim (pos_cmp x e.position) as (λ r. HasEntryAt y (split_by r x e es (gap_split x es))) [
  | Less ↦ inr h
  | Equal ↦ h
  | Greater ↦ ⊎_elim inl (λ k. inr (has-split x y es k)) h
]

pub stands-has : (x : Pos) (es : List Entry) → StandsAt x es → HasEntryAt x es
stands-has x [] st = absurd st
stands-has x (e ∷ es) st = elim (pos_cmp x e.position) as (λ r. pos_cmp x e.position ≡ r → StandsBy r (StandsAt x es) → HasEntryAt x (e ∷ es)) [
  | Less ↦ λ _ off. absurd off
  | Equal ↦ λ h _. inl (sym (pos_cmp_same x e.position h))
  | Greater ↦ λ _ k. inr (stands-has x es k)
] refl st

pub ahead_of : (x : Pos) (e : Entry) (es : List Entry) → Ascend (e ∷ es) → HasEntryAt x es → pos_cmp e.position x ≡ Less
ahead_of x e [] a h = absurd h
ahead_of x e (f ∷ fs) a h = ⊎_elim (λ d. subst (λ y. pos_cmp e.position y ≡ Less) d a.0) (λ k. pos_cmp_total.trans e.position f.position x a.0 (ahead_of x f fs a.1 k)) h

pub has-stands : (x : Pos) (es : List Entry) → Ascend es → HasEntryAt x es → StandsAt x es
has-stands x [] a h = absurd h
has-stands x (e ∷ es) a h = ⊎_elim
    (λ d. subst (λ r. StandsBy r (StandsAt x es)) (sym (ap (pos_cmp x) d ∙ tied_itself pos_cmp_total x)) tt)
    (λ k. subst (λ r. StandsBy r (StandsAt x es)) (sym (turn_to e.position x Less (ahead_of x e es a k))) (has-stands x es (ascend-tail e es a) k))
    h

pub not_end : (x : Pos) → IsBefore x end_position → x ≡ end_position → ⊥
not_end x b d = let u : Less ≡ Equal = sym b ∙ ap (λ y. pos_cmp y end_position) d ∙ at_itself in cc

-- ---- an entry taken out before a position at which one stands

ahead_still : (x : Pos) (e : Entry) (es : List Entry) → pos_cmp x e.position ≡ Less → Ascend (e ∷ es) → IsAhead x es
ahead_still x e [] l a = tt
ahead_still x e (f ∷ fs) l a = pos_cmp_total.trans x e.position f.position l a.0

untouched_ahead : (m : Mark) (x : Pos) (es : List Entry) → Ascend es → IsAhead x es → take_out m x es ≡ es
untouched_ahead m x [] a h = refl
untouched_ahead m x (e ∷ es) a h =
    ap (λ r. cond (is_eq r) (with_first_gap m es) (e ∷ take_out m x es)) h
    ∙ ap (λ xs. e ∷ xs) (untouched_ahead m x es (ascend-tail e es a) (ahead_still x e es h a))

-- the first entry gone, where one stands at y behind it
first_gone : (m : Mark) (y : Pos) (s : Spot) (e : Entry) (es : List Entry) → Ascend (e ∷ es) → HasEntryAt y es → (pos_cmp (position_of s) y ≡ Less → ⊥) → finding_in s (with_first_gap m es) ≡ finding_in s (e ∷ es)
first_gone m y s e [] a h off = absurd h
first_gone m y s e (f ∷ fs) a h off = behind_both m s e f fs a.0 (λ k. off (⊎_elim
    (λ d. subst (λ z. pos_cmp (position_of s) z ≡ Less) d (spot-Less s f.position k))
    (λ g. pos_cmp_total.trans (position_of s) f.position y (spot-Less s f.position k) (ahead_of y f fs a.1 g))
    h))

pub taken_out-from : (m : Mark) (x y : Pos) (s : Spot) (es : List Entry) → Ascend es → HasEntryAt y es → pos_cmp x y ≡ Less → (pos_cmp (position_of s) y ≡ Less → ⊥) → finding_in s (take_out m x es) ≡ finding_in s es
taken_out-from m x y s [] a h l off = absurd h
taken_out-from m x y s (e ∷ es) a h l off =
    elim (pos_cmp x e.position) as (λ r. pos_cmp x e.position ≡ r → finding_in s (cond (is_eq r) (with_first_gap m es) (e ∷ take_out m x es)) ≡ finding_in s (e ∷ es)) [
      | Less ↦ λ k. ap (λ xs. finding_in s (e ∷ xs)) (untouched_ahead m x es (ascend-tail e es a) (ahead_still x e es k a))
      | Equal ↦ λ k. ⊎_elim
          (λ d. let u : Equal ≡ Less = sym (subst (λ z. pos_cmp x z ≡ Equal) d k) ∙ l in absurd (cc))
          (λ g. first_gone m y s e es a g off)
          h
      | Greater ↦ λ k. ⊎_elim
          (λ d. let u : Greater ≡ Less = sym (subst (λ z. pos_cmp x z ≡ Greater) d k) ∙ l in absurd (cc))
          (λ g. ap (entry_answers (spot_cmp s e.position) e) (taken_out-from m x y s es (ascend-tail e es a) g l off))
          h
    ] refl

has_first : (m : Mark) (y : Pos) (es : List Entry) → HasEntryAt y es → HasEntryAt y (with_first_gap m es)
has_first m y [] h = h
has_first m y (e ∷ es) h = h

pub has-taken_out : (m : Mark) (x y : Pos) → (y ≡ x → ⊥) → (es : List Entry) → HasEntryAt y es → HasEntryAt y (take_out m x es)
has-taken_out m x y off [] h = absurd h
has-taken_out m x y off (e ∷ es) h = elim (pos_cmp x e.position) as (λ r. pos_cmp x e.position ≡ r → HasEntryAt y (cond (is_eq r) (with_first_gap m es) (e ∷ take_out m x es))) [
  | Less ↦ λ _. ⊎_elim inl (λ k. inr (has-taken_out m x y off es k)) h
  | Equal ↦ λ d. ⊎_elim (λ k. absurd (off (sym k ∙ sym (pos_cmp_same x e.position d)))) (λ k. has_first m y es k) h
  | Greater ↦ λ _. ⊎_elim inl (λ k. inr (has-taken_out m x y off es k)) h
] refl

-- ---- the version at its place

pub new-at-place : (phase : _) → IsAtPlace Head (new_version None phase)
new-at-place phase = record {
  silent = record { head = λ _. refl; statics = λ _. refl; clustered = λ s _. (new-silent None phase).clustered s };
  place = record { stands = tt; last = (λ _. refl, tt) };
}

-- what stands before a place stands before one that is not before it
pub still_before : (p q x : Place) → (place_cmp p q ≡ Greater → ⊥) → place_cmp x p ≡ Less → place_cmp x q ≡ Less
still_before p q x off l = by (place_cmp p q) refl
  where
    by : (r : Ordering) → place_cmp p q ≡ r → place_cmp x q ≡ Less
    by Less e = place_cmp_total.trans x p q l e
    by Equal e = subst (λ z. place_cmp x z ≡ Less) (place_cmp_same p q e) l
    by Greater e = absurd (off e)

pub unit-at-place : (change : Mutation) (p q : Place) (v w : Version) → IsUnit p q change v w → (place_cmp p q ≡ Greater → ⊥) → IsAtPlace p v → IsAtPlace q w
unit-at-place change p q v w u pq a = record {
  silent = record {
    head = λ n. u.head_left (λ s. n s.short) ∙ a.silent.head (λ l. n (still_before p q Head pq l));
    statics = λ n. u.statics_left (λ s. n s.short) ∙ a.silent.statics (λ l. n (still_before p q Static pq l));
    clustered = λ s n. u.clustered_left s (λ t. n t.short) ∙ a.silent.clustered s (λ l. n (still_before p q (Clustered (position_of s)) pq l));
  };
  place = u.place;
}

none_of : {A : Type 0} → (o : Option A) → option_to_list o ≡ [] → o ≡ None
none_of None e = refl
none_of (Some r) e = absurd (cc)

pub statics-evicted-at-place : (p : Place) (v : Version) → (v.statics ≡ None → ⊥) → IsAtPlace p v → IsAtPlace p (without_statics v)
statics-evicted-at-place p v some a = record {
  silent = record {
    head = a.silent.head;
    statics = λ n. absurd (some (none_of v.statics (ap (λ (c : SpotState). c.rows) (a.silent.statics n))));
    clustered = a.silent.clustered;
  };
  place = a.place;
}

pub evicted-at-place : (p : Place) (v : Version) (x : Pos) → IsVersion v → HasEntryAt x v.entries → IsBefore x end_position → (p ≡ Clustered x → ⊥) → IsAtPlace p v → IsAtPlace p (with_entries (drop_at x v.entries) v)
evicted-at-place Head v x i h b off a = absurd (not_end x b (each-at (λ y. place_cmp Head (Clustered y) ≡ Less → y ≡ end_position) x v.entries a.place.last h refl))
evicted-at-place Static v x i h b off a = absurd (not_end x b (each-at (λ y. place_cmp Static (Clustered y) ≡ Less → y ≡ end_position) x v.entries a.place.last h refl))
evicted-at-place (Clustered y) v x i h b off a = record {
  silent = record {
    head = a.silent.head;
    statics = a.silent.statics;
    clustered = λ s n. ap state_of (taken_out-from lost_mark x y s v.entries i.ascend a.place.stands (before (pos_cmp y x) refl) n) ∙ a.silent.clustered s n;
  };
  place = record {
    stands = has-taken_out lost_mark x y (λ e. off (ap Clustered e)) v.entries a.place.stands;
    last = each-taken_out (EndsBehind (Clustered y)) lost_mark (λ _ k. k) x v.entries a.place.last;
  };
}
  where
    before : (r : Ordering) → pos_cmp y x ≡ r → pos_cmp x y ≡ Less
    before Less e = absurd (not_end x b (each-at (λ z. pos_cmp y z ≡ Less → z ≡ end_position) x v.entries a.place.last h e))
    before Equal e = absurd (off (ap Clustered (pos_cmp_same y x e)))
    before Greater e = turn_to y x Greater e
evicted-at-place End v x i h b off a = record {
  silent = record { head = a.silent.head; statics = a.silent.statics; clustered = λ s n. absurd (n refl) };
  place = record { stands = tt; last = each-taken_out (EndsBehind End) lost_mark (λ _ k. k) x v.entries a.place.last };
}

-- behind the place no entry stands but the end dummy
pub none-behind : (p x : Pos) (v : Version) → IsAtPlace (Clustered p) v → HasEntryAt x v.entries → IsBefore p x → x ≡ end_position
none-behind p x v a h l = each-at (λ z. pos_cmp p z ≡ Less → z ≡ end_position) x v.entries a.place.last h l

-- ---- by its entries

fits_at : (r : Ordering) (e : Entry) → (r ≡ Less → ⊥) → FitsBy r e → SaysNothingAt e
fits_at Less e off f = absurd (off refl)
fits_at Equal e off f = f
fits_at Greater e off f = f.0

fits_behind : (r : Ordering) (e : Entry) → r ≡ Greater → FitsBy r e → (e.gap ≡ no_mark) × (e.position ≡ end_position)
fits_behind Less e g f = absurd (cc)
fits_behind Equal e g f = absurd (cc)
fits_behind Greater e g f = (f.1, f.2)

-- an entry behind a spot that is not before the place stands behind the place
ahead_of_place : (p : Pos) (s : Spot) (e : Entry) → (pos_cmp (position_of s) p ≡ Less → ⊥) → spot_cmp s e.position ≡ Less → (r : Ordering) → pos_cmp e.position p ≡ r → pos_cmp e.position p ≡ Greater
ahead_of_place p s e off k Less g = absurd (off (pos_cmp_total.trans (position_of s) e.position p (spot-Less s e.position k) g))
ahead_of_place p s e off k Equal g = absurd (off (subst (λ y. pos_cmp (position_of s) y ≡ Less) (pos_cmp_same e.position p g) (spot-Less s e.position k)))
ahead_of_place p s e off k Greater g = g

silent_entries : (p : Pos) (s : Spot) → (pos_cmp (position_of s) p ≡ Less → ⊥) → (es : List Entry) → EachEntry (FitsPlace p) es → state_of (finding_in s es) ≡ silent
silent_entries p s off [] h = refl
silent_entries p s off (e ∷ es) h = elim (spot_cmp s e.position) as (λ r. spot_cmp s e.position ≡ r → state_of (entry_answers r e (finding_in s es)) ≡ silent) [
  | Less ↦ λ k. ap (λ m. state_of (finding_of m None)) (fits_behind (pos_cmp e.position p) e (ahead_of_place p s e off k (pos_cmp e.position p) refl) h.0).0
  | Equal ↦ λ k. let at = fits_at (pos_cmp e.position p) e (λ l. off (subst (λ y. pos_cmp y p ≡ Less) (sym (spot-Equal s e.position k)) l)) h.0 in λ i. state_of (finding_of (at.0 i) (at.1 i))
  | Greater ↦ λ k. silent_entries p s off es h.1
] refl

pub placed-by-entries : (p : Pos) (v : Version) → HasEntryAt p v.entries → EachEntry (FitsPlace p) v.entries → IsAtPlace (Clustered p) v
placed-by-entries p v h f = record {
  silent = record { head = λ n. absurd (n refl); statics = λ n. absurd (n refl); clustered = λ s n. silent_entries p s n v.entries f };
  place = record { stands = h; last = each-wider (FitsPlace p) (EndsBehind (Clustered p)) (λ e k l. (fits_behind (pos_cmp e.position p) e (turn_to p e.position Less l) k).1) v.entries f };
}

-- ---- its entries, from the version at its place

said_nothing : (m : Mark) (row : Option Row) → state_of (finding_of m row) ≡ silent → (m ≡ no_mark) × (row ≡ None)
said_nothing m row e = (
  ap (λ f. mark f m.tomb) (ap (λ (c : SpotState). c.flag) e) ∙ ap (mark Inherit) (none_of m.tomb (ap (λ (c : SpotState). c.tombs) e)),
  none_of row (ap (λ (c : SpotState). c.rows) e),
)

-- entries say nothing at a spot that is not before the place
abbrev IsSilentBehind : Pos → List Entry → Type 0
IsSilentBehind p es = (s : Spot) → (pos_cmp (position_of s) p ≡ Less → ⊥) → state_of (finding_in s es) ≡ silent

-- the entries behind the one at the place: none, or the end dummy
last_fits : (p : Pos) (e : Entry) (es : List Entry) → e.position ≡ p → Ascend (e ∷ es) → IsSilentBehind p (e ∷ es) → EachEntry (EndsBehind (Clustered p)) es → EachEntry (FitsPlace p) es
last_fits p e [] d a h l = tt
last_fits p e (f ∷ []) d a h l =
    let behind : pos_cmp p f.position ≡ Less = subst (λ y. pos_cmp y f.position ≡ Less) d a.0 in
    let turned : pos_cmp f.position p ≡ Greater = turn_to p f.position Less behind in
    let itself : state_of (finding_in (On f.position) (e ∷ f ∷ [])) ≡ state_of (finding_of f.at f.row) =
    ap (λ r. state_of (entry_answers r e (finding_in (On f.position) (f ∷ [])))) (turn_to e.position f.position Less a.0)
    ∙ ap (λ r. state_of (entry_answers r f (finding_in (On f.position) []))) (tied_itself pos_cmp_total f.position) in
    let gap : state_of (finding_in (Behind p) (e ∷ f ∷ [])) ≡ state_of (finding_of f.gap None) =
    ap (λ r. state_of (entry_answers (behind_of r) e (finding_in (Behind p) (f ∷ [])))) (subst (λ y. pos_cmp p y ≡ Equal) (sym d) (tied_itself pos_cmp_total p))
    ∙ ap (λ r. state_of (entry_answers (behind_of r) f (finding_in (Behind p) []))) behind in
    let at = said_nothing f.at f.row (sym itself ∙ h (On f.position) (λ n. let u : Greater ≡ Less = sym turned ∙ n in cc)) in
    let before = said_nothing f.gap None (sym gap ∙ h (Behind p) (λ n. let u : Equal ≡ Less = sym (tied_itself pos_cmp_total p) ∙ n in cc)) in
    (subst (λ r. FitsBy r f) (sym turned) ((at.0, at.1), before.0, l.0 behind), tt)
last_fits p e (f ∷ g ∷ gs) d a h l =
    let first : pos_cmp p f.position ≡ Less = subst (λ y. pos_cmp y f.position ≡ Less) d a.0 in
    let second : pos_cmp p g.position ≡ Less = pos_cmp_total.trans p f.position g.position first a.1.0 in
    absurd (not_end f.position (subst (λ y. pos_cmp f.position y ≡ Less) (l.1.0 second) a.1.0) (l.0 first))

each_fits : (p : Pos) (es : List Entry) → Ascend es → HasEntryAt p es → IsSilentBehind p es → EachEntry (EndsBehind (Clustered p)) es → EachEntry (FitsPlace p) es
each_fits p [] a has h l = tt
each_fits p (e ∷ es) a has h l = ⊎_elim
    (λ d.
    let same : pos_cmp e.position p ≡ Equal = subst (λ y. pos_cmp e.position y ≡ Equal) d (tied_itself pos_cmp_total e.position) in
    let itself : state_of (finding_in (On p) (e ∷ es)) ≡ state_of (finding_of e.at e.row) = ap (λ r. state_of (entry_answers r e (finding_in (On p) es))) (subst (λ y. pos_cmp p y ≡ Equal) (sym d) (tied_itself pos_cmp_total p)) in
    (subst (λ r. FitsBy r e) (sym same) (said_nothing e.at e.row (sym itself ∙ h (On p) (λ n. let u : Equal ≡ Less = sym (tied_itself pos_cmp_total p) ∙ n in cc))), last_fits p e es d a h l.1))
    (λ k.
    let below : pos_cmp e.position p ≡ Less = ahead_of p e es a k in
    (subst (λ r. FitsBy r e) (sym below) tt, each_fits p es (ascend-tail e es a) k (λ s n. passed s n (spot_cmp s e.position) refl below ∙ h s n) l.1))
    has
  where
    passed : (s : Spot) → (pos_cmp (position_of s) p ≡ Less → ⊥) → (r : Ordering) → spot_cmp s e.position ≡ r → pos_cmp e.position p ≡ Less → state_of (finding_in s es) ≡ state_of (finding_in s (e ∷ es))
    passed s n Less k below = absurd (n (pos_cmp_total.trans (position_of s) e.position p (spot-Less s e.position k) below))
    passed s n Equal k below = absurd (n (subst (λ y. pos_cmp y p ≡ Less) (sym (spot-Equal s e.position k)) below))
    passed s n Greater k below = ap (λ r. state_of (entry_answers r e (finding_in s es))) (sym k)

pub entries-of-placed : (p : Pos) (v : Version) → Ascend v.entries → IsAtPlace (Clustered p) v → HasEntryAt p v.entries × EachEntry (FitsPlace p) v.entries
entries-of-placed p v a h = (h.place.stands, each_fits p v.entries a h.place.stands h.silent.clustered h.place.last)
