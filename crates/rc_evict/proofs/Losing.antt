-- The object at the front of the recency list leaves it, and its version.
use Rattle.std.proofs.Common.{◌≡◌, ◌≢◌, ◌⊎◌, ◌<◌, ℕ, zero, suc, length, List, [], ◌∷◌, ◌++◌, Option, Some, None, inl, inr, refl, sym, ap, ◌∙◌, subst, slice_index_or}
use Rattle.std.specs.Prelude.{AllPairs, Contains, IsSomeAnd}
use Rattle.std.specs.Option.{option_map}
use Rattle.lsa_region.specs.Region.{SameObjects}
use Rattle.lsa_store.specs.declared.place.Ref.{Ref}
use Rattle.rc_position.specs.declared.positions.Pos.{Pos}
use Rattle.rc_core.specs.declared.entries.Entry.{Entry}
use Rattle.rc_core.specs.declared.entries.Flag.TheVariants.{Unknown}
use Rattle.rc_core.specs.declared.entries.Mark.{Mark}
use Rattle.rc_core.specs.Change.{at_entry, drop_at, lose_last_gap}
use Rattle.rc_core.specs.Continuity.{with_entries, without_statics}
use Rattle.rc_core.specs.Steps.{on_version, set_flags, set_tombs, with_flags, with_tombs}
use Rattle.rc_core.specs.Version.{Ascend, EndsWithDummy, IsVersion, Version, end_position}
use Rattle.rc_core.specs.laws.Spots.{ascend-tail}
use Rattle.rc_core.specs.laws.Surgery.{entry-at, last-gap-lost}
use Rattle.rc_object.specs.Objects.{HoldsEntry}
use Rattle.rc_partition.specs.laws.Lists.{elem-cases, elem-first, elem-here, elem-none, once-head}
use Rattle.rc_registry.specs.Registry.{put_at_number}
use Rattle.rc_memory.specs.Memory.{HasVersion, KeptChain, Member, Memory, IsVersionAt, chain_at, listed_as, on_shown, on_version_of, shown_with}
use Rattle.rc_memory.specs.Recency.{IsRecency, MayBeListed, MustBeListed}
use Rattle.rc_memory.specs.Changes.{AtAlone, IsVersionChanged, IsWithout, Nowhere, OfVersion, StandStill, member_at}
use Rattle.rc_memory.specs.laws.At.{number-low}
use Rattle.rc_memory.specs.laws.Places.{tails}
use Rattle.rc_memory.specs.laws.Put.{put-at}
use Rattle.rc_memory.specs.laws.Still.{still-then, unmoved-objects, unmoved-then}
use Rattle.rc_evict.specs.declared.evicting.Evicted.{Evicted}
use Rattle.rc_evict.specs.declared.evicting.Evicted.TheVariants as sort
use Rattle.rc_evict.specs.Evictions.{IsFrontLost, IsSort, TakenOut, evicted_at}
use Rattle.rc_chain.specs.Held.{HoldsPlaced, IsHeldAt}
use Rattle.rc_evict.proofs.Places.{ahead-inner, holds-of}
use Rattle.rc_evict.proofs.Together.{some-of}
use Rattle.rc_evict.proofs.Versions.{at-end, at-inner}

-- ---- lists

-- a list without its first member is the rest
pub without-first : (w : Member) (rest old new : List Member) → old ≡ w ∷ rest → AllPairs ◌≢◌ old → IsWithout w old new → new ≡ rest
without-first w rest old new is once (inl off) = absurd (off.0 (subst (λ l. Contains l w) (sym is) (elem-first w rest)))
without-first w rest old new is once (inr on) = first on.0 (sym is ∙ on.2) on.3
  where
    first : (front : List Member) → w ∷ rest ≡ front ++ (w ∷ on.1) → new ≡ front ++ on.1 → new ≡ rest
    first [] e f = f ∙ sym (tails w w rest on.1 e)
    first (x ∷ front) e f = absurd (once-head w rest (subst (AllPairs ◌≢◌) is once) (subst (λ l. Contains l w) (sym (tails w x rest (front ++ (w ∷ on.1)) e)) (elem-here front on.1 w)))

-- the place of a member
pub same-member : (w : Member) (id j : ℕ) (at : Option Pos) → id ≡ w.chain → j ≡ w.version → w.position ≡ at → w ≡ member_at id j at
same-member w id j at a b c = λ i. record { chain = sym a i; version = sym b i; position = c i }

-- ---- one change after another

put_put : {X : Type 0} (xs : List (Option X)) (n : ℕ) (x y : Option X) → put_at_number n x (put_at_number n y xs) ≡ put_at_number n x xs
put_put [] zero x y = refl
put_put [] (suc n) x y = ap (λ l. None ∷ l) (put_put [] n x y)
put_put (z ∷ xs) zero x y = refl
put_put (z ∷ xs) (suc n) x y = ap (λ l. z ∷ l) (put_put xs n x y)

module _ (f g h : Version → Version) where
  on_joined : (j : ℕ) (vs : List Version) → ((v : Version) → IsVersionAt vs j v → g (f v) ≡ h v) → on_version j g (on_version j f vs) ≡ on_version j h vs
  on_joined j [] same = refl
  on_joined zero (v ∷ vs) same = ap (λ w. w ∷ vs) (same v (record { older = []; newer = vs; split = refl; number = refl }))
  on_joined (suc j) (v ∷ vs) same = ap (λ l. v ∷ l) (on_joined j vs (λ w at. same w (record { older = v ∷ at.older; newer = at.newer; split = ap (λ l. v ∷ l) at.split; number = ap suc at.number })))

  map_joined : (j : ℕ) (o : Option KeptChain) → ((k : KeptChain) → o ≡ Some k → (v : Version) → IsVersionAt k.chain.versions j v → g (f v) ≡ h v)
      → option_map (on_shown (on_version_of j g)) (option_map (on_shown (on_version_of j f)) o) ≡ option_map (on_shown (on_version_of j h)) o
  map_joined j None same = refl
  map_joined j (Some k) same = ap (λ vs. Some (on_shown (shown_with vs) k)) (on_joined j k.chain.versions (λ v at. same k refl v at))

  pub changed-joined : (id j : ℕ) (m n o : Memory) → IsVersionChanged id j f Nowhere m n → IsVersionChanged id j g Nowhere n o → OfVersion m id j (λ k v. g (f v) ≡ h v) → IsVersionChanged id j h Nowhere m o
  changed-joined id j m n o a b same = record {
    chains = b.chains ∙ ap (λ cs. put_at_number id (option_map (on_shown (on_version_of j g)) (slice_index_or cs id None)) cs) a.chains
        ∙ ap (λ x. put_at_number id (option_map (on_shown (on_version_of j g)) x) (put_at_number id (option_map (on_shown (on_version_of j f)) (chain_at m id)) m.chains)) (put-at m.chains id (option_map (on_shown (on_version_of j f)) (chain_at m id)))
        ∙ put_put m.chains id (option_map (on_shown (on_version_of j g)) (option_map (on_shown (on_version_of j f)) (chain_at m id))) (option_map (on_shown (on_version_of j f)) (chain_at m id))
        ∙ ap (λ x. put_at_number id x m.chains) (map_joined j (chain_at m id) (λ k e v at. same k v e at));
    dropped = b.dropped ∙ a.dropped;
    counts = b.counts ∙ a.counts;
    still = still-then Nowhere m n o a.still b.still;
    region = unmoved-then m.region n.region o.region a.region b.region;
  }

-- the same function said otherwise
pub changed-by : (id j : ℕ) (f g : Version → Version) (these : Member → Type 0) (m n : Memory) → ((v : Version) → f v ≡ g v) → IsVersionChanged id j f these m n → IsVersionChanged id j g these m n
changed-by id j f g these m n same h = subst (λ e. IsVersionChanged id j e these m n) (λ i. λ v. same v i) h

-- the list is another one
pub changed-listed : (id j : ℕ) (f : Version → Version) (m n o : Memory) (list : List Member) → IsVersionChanged id j f Nowhere m n → o ≡ listed_as list o.region n → SameObjects n.region o.region → StandStill Nowhere n o → IsVersionChanged id j f Nowhere m o
changed-listed id j f m n o list h is objects still = record {
  chains = ap (λ (x : Memory). x.chains) is ∙ h.chains;
  dropped = ap (λ (x : Memory). x.dropped) is ∙ h.dropped;
  counts = ap (λ (x : Memory). x.counts) is ∙ h.counts;
  still = still-then Nowhere m n o h.still still;
  region = unmoved-then m.region n.region o.region h.region (unmoved-objects n.region o.region objects);
}

-- ---- the end dummy

-- the end dummy is the last entry
last_end : (es : List Entry) (y : Entry) → Ascend es → EndsWithDummy es → Contains es y → y.position ≡ end_position → (front : List Entry) × (es ≡ front ++ (y ∷ []))
last_end [] y a h on is = absurd h
last_end (e ∷ []) y a h on is = elim (elem-cases e y [] on) [ inl same ↦ ([], ap (λ z. z ∷ []) same) | inr none ↦ absurd (elem-none y none) ]
last_end (e ∷ f ∷ es) y a h on is = elim (elem-cases e y (f ∷ es) on) [
  | inl same ↦ absurd (ahead-inner e f es a h (ap (λ (z : Entry). z.position) same ∙ is))
  | inr later ↦ let k = last_end (f ∷ es) y (ascend-tail e (f ∷ es) a) h later is in (e ∷ k.0, ap (λ l. e ∷ l) k.1)
]

-- flags and tombstones at it as they were, and what the gap before it said lost
lost_entry : (y : Entry) (at : Mark) → at ≡ y.at → with_tombs at.tomb None (with_flags at.flag Unknown y) ≡ record { position = y.position; row = y.row; at = y.at; gap = record { flag = Unknown; tomb = None } }
lost_entry y at is = ap (λ (a : Mark). with_tombs a.tomb None (with_flags a.flag Unknown y)) is

pub end-lost : (v : Version) (y : Entry) (at : Mark) → IsVersion v → Contains v.entries y → y.position ≡ end_position → at ≡ y.at → set_tombs end_position at.tomb None (set_flags end_position at.flag Unknown v) ≡ evicted_at (Some end_position) v
end-lost v y at i on is same =
    let k = last_end v.entries y i.ascend i.ends on is in
    let once = entry-at k.0 y [] (with_flags at.flag Unknown) (subst Ascend k.1 i.ascend) in
    let flags : at_entry end_position (with_flags at.flag Unknown) v.entries ≡ k.0 ++ (with_flags at.flag Unknown y ∷ []) =
    (λ j. at_entry (sym is j) (with_flags at.flag Unknown) (k.1 j)) ∙ once in
    let twice : at_entry end_position (with_tombs at.tomb None) (k.0 ++ (with_flags at.flag Unknown y ∷ [])) ≡ k.0 ++ (with_tombs at.tomb None (with_flags at.flag Unknown y) ∷ []) =
    ap (λ x. at_entry x (with_tombs at.tomb None) (k.0 ++ (with_flags at.flag Unknown y ∷ []))) (sym is) ∙ entry-at k.0 (with_flags at.flag Unknown y) [] (with_tombs at.tomb None) (ascend_flags k.0 y (subst Ascend k.1 i.ascend)) in
    ap (λ es. with_entries es v) (ap (at_entry end_position (with_tombs at.tomb None)) flags ∙ twice ∙ ap (λ e. k.0 ++ (e ∷ [])) (lost_entry y at same) ∙ sym (ap lose_last_gap k.1 ∙ last-gap-lost k.0 y)) ∙ sym (at-end v)
  where
    ascend_flags : (front : List Entry) (e : Entry) → Ascend (front ++ (e ∷ [])) → Ascend (front ++ (with_flags at.flag Unknown e ∷ []))
    ascend_flags [] e h = tt
    ascend_flags (f ∷ []) e h = (h.0, tt)
    ascend_flags (f ∷ g ∷ front) e h = (h.0, ascend_flags (g ∷ front) e h.1)

-- an end dummy need not be in the list
pub end-free : (m : Memory) (w : Member) → w.position ≡ Some end_position → IsSomeAnd (chain_at m w.chain) (λ k. MustBeListed k.chain w.version w.position) → ⊥
end-free m w at must = let k = some-of (λ k. MustBeListed k.chain w.version w.position) (chain_at m w.chain) must in k.2.inner at

-- it holds an entry
pub end-entry : (m : Memory) (r : Ref) (w : Member) → w.position ≡ Some end_position → IsHeldAt m r w → (y : Entry) × HoldsEntry m.region r y
end-entry m r w at held =
    let k = some-of (λ k. (v : Version) × IsVersionAt k.chain.versions w.version v × HoldsPlaced m.region r w.position v) (chain_at m w.chain) held in
    let y = subst (λ z. HoldsPlaced m.region r z k.2.0) at k.2.2 in (y.0, y.3)

-- its flags and tombstones written as they were, but for those of the gap before it
pub end-written : (m : Memory) (r : Ref) (w : Member) (at : Mark) → w.position ≡ Some end_position → IsHeldAt m r w → ((id j : ℕ) → OfVersion m id j (λ k v. IsVersion v)) → ((y : Entry) → HoldsEntry m.region r y → at ≡ y.at)
    → OfVersion m w.chain w.version (λ k v. set_tombs end_position at.tomb None (set_flags end_position at.flag Unknown v) ≡ evicted_at w.position v)
end-written m r w at here held versions told k v there number =
    let y = subst (λ z. HoldsPlaced m.region r z v) here (holds-of m r w held k v there number) in
    end-lost v y.0 at (versions w.chain w.version k v there number) y.1 y.2 (told y.0 y.3) ∙ ap (λ z. evicted_at z v) (sym here)

-- ---- the front

module _ (m : Memory) (w : Member) (rest : List Member) (list : m.recency ≡ w ∷ rest) (rule : IsRecency m) where
  pub front-may : IsSomeAnd (chain_at m w.chain) (λ k. MayBeListed k.chain w.version w.position)
  front-may = rule.members w (subst (λ l. Contains l w) (sym list) (elem-first w rest))

  front_of : (k : KeptChain) × (chain_at m w.chain ≡ Some k) × MayBeListed k.chain w.version w.position
  front_of = some-of (λ k. MayBeListed k.chain w.version w.position) (chain_at m w.chain) front-may

  -- what holds of its version whichever that is
  pub front-version : (P : Version → Type 0) → OfVersion m w.chain w.version (λ k v. P v) → (v : Version) × P v
  front-version P h = let k = front_of in (k.2.version, h k.0 k.2.version k.1 k.2.number)

  pub front-has : (id j : ℕ) → id ≡ w.chain → j ≡ w.version → HasVersion m id j
  front-has id j a b =
      let k = front_of in
      let here : HasVersion m w.chain w.version = subst (λ (o : Option KeptChain). IsSomeAnd o (λ q. w.version < length q.chain.versions)) (sym k.1) (number-low k.0.chain.versions w.version k.2.version k.2.number) in
      subst (λ i. HasVersion m i j) (sym a) (subst (HasVersion m w.chain) (sym b) here)

  -- a list without it is the rest
  pub front-gone : (n : Memory) (id j : ℕ) (at : Option Pos) → w ≡ member_at id j at → IsWithout (member_at id j at) m.recency n.recency → m.recency ≡ w ∷ n.recency
  front-gone n id j at same h = list ∙ ap (λ l. w ∷ l) (sym (without-first w rest m.recency n.recency list rule.once (subst (λ x. IsWithout x m.recency n.recency) (sym same) h)))

inner_of : (s : Evicted) (at : Option Pos) (v : Version) → (s ≡ sort.Row) ⊎ (s ≡ sort.Dummy) → IsSort s at v → (x : Pos) × (at ≡ Some x) × (x ≢ end_position)
inner_of s at v (inl e) h = let k : IsSort sort.Row at v = subst (λ z. IsSort z at v) e h in (k.0, k.1, k.2)
inner_of s at v (inr e) h = let k : IsSort sort.Dummy at v = subst (λ z. IsSort z at v) e h in (k.0, k.1, k.2)

-- an entry before the end, of that sort
pub inner-place : (m : Memory) (w : Member) (rest : List Member) → m.recency ≡ w ∷ rest → IsRecency m → (s : Evicted) → (s ≡ sort.Row) ⊎ (s ≡ sort.Dummy) → OfVersion m w.chain w.version (λ k v. IsSort s w.position v) → (x : Pos) × (w.position ≡ Some x) × (x ≢ end_position)
inner-place m w rest list rule s is h = let k = front-version m w rest list rule (IsSort s w.position) h in inner_of s w.position k.0 is k.1

pub static-place : (m : Memory) (w : Member) (rest : List Member) → m.recency ≡ w ∷ rest → IsRecency m → (s : Evicted) → s ≡ sort.Static → OfVersion m w.chain w.version (λ k v. IsSort s w.position v) → w.position ≡ None
static-place m w rest list rule s is h = let k = front-version m w rest list rule (IsSort s w.position) h in subst (λ z. IsSort z w.position k.0) is k.1

pub end-place : (m : Memory) (w : Member) (rest : List Member) → m.recency ≡ w ∷ rest → IsRecency m → (s : Evicted) → s ≡ sort.EndDummy → OfVersion m w.chain w.version (λ k v. IsSort s w.position v) → w.position ≡ Some end_position
end-place m w rest list rule s is h = let k = front-version m w rest list rule (IsSort s w.position) h in subst (λ z. IsSort z w.position k.0) is k.1

taken_alone : (s : Evicted) (w : Member) → (s ≡ sort.Row) ⊎ (s ≡ sort.Dummy) → AtAlone w ≡ TakenOut s w
taken_alone s w (inl e) = ap (λ z. TakenOut z w) (sym e)
taken_alone s w (inr e) = ap (λ z. TakenOut z w) (sym e)

module _ (m n : Memory) (w : Member) (rest : List Member) (list : m.recency ≡ w ∷ rest) (rule : IsRecency m) (s : Evicted) (stood : OfVersion m w.chain w.version (λ k v. IsSort s w.position v)) (id j : ℕ) (chain : id ≡ w.chain) (version : j ≡ w.version) where
  at_member : (f : Version → Version) (at : Option Pos) → w.position ≡ at → IsVersionChanged id j f (AtAlone (member_at id j at)) m n → IsVersionChanged w.chain w.version f (AtAlone w) m n
  at_member f at pos h = subst (λ (x : Member). IsVersionChanged x.chain x.version f (AtAlone x) m n) (sym (same-member w id j at chain version pos)) h

  pub lost-inner : (is : (s ≡ sort.Row) ⊎ (s ≡ sort.Dummy)) (x : Pos) → w.position ≡ Some x → x ≢ end_position → IsVersionChanged id j (λ c. with_entries (drop_at x c.entries) c) (AtAlone (member_at id j (Some x))) m n → IsWithout (member_at id j (Some x)) m.recency n.recency → IsFrontLost s w m n
  lost-inner is x pos inner changed without = record {
    front = front-gone m w rest list rule n id j (Some x) (same-member w id j (Some x) chain version pos) without;
    listed = front-may m w rest list rule;
    stood = stood;
    changed = subst (λ these. IsVersionChanged w.chain w.version (evicted_at w.position) these m n) (taken_alone s w is)
        (changed-by w.chain w.version (λ c. with_entries (drop_at x c.entries) c) (evicted_at w.position) (AtAlone w) m n (λ v. sym (at-inner x v inner) ∙ ap (λ z. evicted_at z v) (sym pos))
        (at_member (λ c. with_entries (drop_at x c.entries) c) (Some x) pos changed));
  }

  pub lost-static : s ≡ sort.Static → w.position ≡ None → IsVersionChanged id j without_statics (AtAlone (member_at id j None)) m n → IsWithout (member_at id j None) m.recency n.recency → IsFrontLost s w m n
  lost-static is pos changed without = record {
    front = front-gone m w rest list rule n id j None (same-member w id j None chain version pos) without;
    listed = front-may m w rest list rule;
    stood = stood;
    changed = subst (λ these. IsVersionChanged w.chain w.version (evicted_at w.position) these m n) (ap (λ z. TakenOut z w) (sym is))
        (changed-by w.chain w.version without_statics (evicted_at w.position) (AtAlone w) m n (λ v. ap (λ z. evicted_at z v) (sym pos)) (at_member without_statics None pos changed));
  }

  pub lost-end : s ≡ sort.EndDummy → n.recency ≡ rest → IsVersionChanged w.chain w.version (evicted_at w.position) Nowhere m n → IsFrontLost s w m n
  lost-end is left changed = record {
    front = list ∙ ap (λ l. w ∷ l) (sym left);
    listed = front-may m w rest list rule;
    stood = stood;
    changed = subst (λ these. IsVersionChanged w.chain w.version (evicted_at w.position) these m n) (ap (λ z. TakenOut z w) (sym is)) changed;
  }
