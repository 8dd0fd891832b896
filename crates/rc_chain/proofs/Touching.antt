-- The entries at a key that become the most recent objects, version by version.
use Rattle.std.proofs.Common.{◌≡◌, ◌≢◌, ◌⊎◌, ℕ, ◌+◌, ◌<◌, ◌≤◌, List, [], ◌∷◌, ◌++◌, Option, Some, None, length, inl, inr, refl, sym, ap, ◌∙◌, subst, append_assoc, slice_index_or, suc, arith}
use Rattle.std.specs.Prelude.{AllPairs, Contains, IfSome, IsSome, IsSomeAnd}
use Rattle.std.proofs.lemmas.List.{append-nil}
use Rattle.std.proofs.lemmas.List.Elements.{Contains-append_cases, Contains-get_or}
use Rattle.std.proofs.lemmas.List.Kept.{AllPairs-cons}
use Rattle.rc_position.specs.declared.positions.Pos.{Pos}
use Rattle.lsa_store.specs.declared.place.Ref.{Ref}
use Rattle.lsa_region.specs.Region.{View, SameObjects}
use Rattle.lsa_list.specs.declared.recency.List.{List as Slots}
use Rattle.rc_core.specs.Steps.{pin_at}
use Rattle.rc_core.specs.Version.{Version}
use Rattle.rc_core.specs.laws.Pins.{pin-is-pinned}
use Rattle.rc_version.specs.Versions.{IsEntryFound, IsVersionOf}
use Rattle.rc_memory.specs.Lists.{elem-cases, elem-first, elem-here, elem-later, elem-left, elem-none, elem-pushed, elem-split, once-beside, once-with, once-without}
use Rattle.rc_registry.specs.Registry.{Registry}
use Rattle.rc_memory.specs.declared.counts.Counts.{Counts}
use Rattle.rc_memory.specs.Memory.{KeptChain, Member, Memory, HasPin, HasVersion, IsVersionObject, chain_at, listed_as}
use Rattle.rc_memory.specs.Changes.{Nowhere, StandStill, member_at}
use Rattle.rc_memory.specs.Kept.{HoldMemory, IsSoundChain}
use Rattle.rc_memory.specs.laws.Listing.{listed-decided}
use Rattle.rc_memory.specs.laws.Places.{tails, heads}
use Rattle.rc_memory.specs.laws.Still.{still-itself, still-then}
use Rattle.rc_recency.specs.calls.Holding.{IsFoundAt}
use Rattle.rc_recency.specs.laws.Held.{entry-found, standing-as, stands}
use Rattle.rc_chain.specs.Lives.{IsAtUpTo, IsRemainder, IsTouched}
use Rattle.rc_chain.proofs.Bare.{some-chain}
use Rattle.rc_chain.proofs.Ended.{same-objects, sound-of}
use Rattle.rc_chain.proofs.Ending.{held-version}
use Rattle.rc_chain.proofs.Idle.{below-or}
use Rattle.rc_chain.proofs.Snapshots.{same-number}

-- ---- the entry at a key

-- what is told of an entry of the version is told of its place
pub entry-told : (slots : Slots) (v : View) (registry : Registry) (counts : Counts) (m : Memory) (h : HoldMemory slots v registry counts m) (id j : ℕ) (n : Ref) → HasVersion m id j → IsVersionObject m id j n → (x : Pos) (o : Option Ref)
    → ((refs : List Ref) (c : Version) → IsVersionOf v n refs c → IsEntryFound v refs c x o) → IsFoundAt m (member_at id j (Some x)) o
entry-told slots v registry counts m h id j n has object x o told =
    let a = held-version slots v registry counts m h id j n has object in
    entry-found slots v registry counts m id j a.0 a.1 n a.2 x o (told (standing-as slots v registry counts m id j a.0 a.1 n a.2).entries a.1 (stands slots v registry counts m id j a.0 a.1 n a.2))

-- where none is found none is listed
pub unfound : (m : Memory) (w : Member) (o : Option Ref) → ((r : Ref) → o ≡ Some r → ⊥) → IsFoundAt m w o → Contains m.recency w → ⊥
unfound m w None none found = found
unfound m w (Some r) none found = absurd (none r refl)

-- ---- one more at the end of a list in order

module _ {X : Type 0} (R : X → X → Type 0) where
  pairs-pushed : (xs : List X) (a : X) → ((y : X) → Contains xs y → R y a) → AllPairs R xs → AllPairs R (xs ++ (a ∷ []))
  pairs-pushed [] a last all = λ i j d less within. absurd (omega (arith, less, within))
  pairs-pushed (x ∷ xs) a last all = AllPairs-cons R x (xs ++ (a ∷ []))
      (λ k d within. elim (elem-pushed xs a (slice_index_or (xs ++ (a ∷ [])) k d) (Contains-get_or (xs ++ (a ∷ [])) k d within)) [
        | inl before ↦ subst (R x) before.2 (all 0 (suc before.0) (slice_index_or (xs ++ (a ∷ [])) k d) (omega arith) (let low = before.1 in omega (arith, low)))
        | inr same ↦ subst (R x) same (last x (elem-first x xs))
      ])
      (pairs-pushed xs a (λ y on. last y (elem-later x y xs on)) (λ i j d less within. all (suc i) (suc j) d (omega (arith, less)) (omega (arith, within))))

-- ---- a list without its members at some places

module _ (these : Member → Type 0) where
  left-old : (ws rest : List Member) (w : Member) → IsRemainder these ws rest → Contains rest w → Contains ws w
  left-old [] rest w h on = absurd (elem-none w (subst (λ l. Contains l w) h on))
  left-old (x ∷ ws) rest w (inl h) on = elem-later x w ws (left-old ws rest w h.1 on)
  left-old (x ∷ ws) rest w (inr h) on = elim (elem-cases x w h.1.0 (subst (λ l. Contains l w) h.1.1 on)) [
    | inl this ↦ subst (Contains (x ∷ ws)) this (elem-first x ws)
    | inr more ↦ elem-later x w ws (left-old ws h.1.0 w h.1.2 more)
  ]

  left-stays : (ws rest : List Member) (w : Member) → IsRemainder these ws rest → (these w → ⊥) → Contains ws w → Contains rest w
  left-stays [] rest w h off on = absurd (elem-none w on)
  left-stays (x ∷ ws) rest w (inl h) off on = elim (elem-cases x w ws on) [
    | inl this ↦ absurd (off (subst these this h.0))
    | inr more ↦ left-stays ws rest w h.1 off more
  ]
  left-stays (x ∷ ws) rest w (inr h) off on = subst (λ l. Contains l w) (sym h.1.1) (elim (elem-cases x w ws on) [
    | inl this ↦ subst (Contains (x ∷ h.1.0)) this (elem-first x h.1.0)
    | inr more ↦ elem-later x w h.1.0 (left-stays ws h.1.0 w h.1.2 off more)
  ])

  left-as : (those : Member → Type 0) → ((w : Member) → these w → those w) → ((w : Member) → those w → these w) → (ws rest : List Member) → IsRemainder these ws rest → IsRemainder those ws rest
  left-as those to from [] rest h = h
  left-as those to from (w ∷ ws) rest (inl h) = inl (to w h.0, left-as those to from ws rest h.1)
  left-as those to from (w ∷ ws) rest (inr h) = inr ((λ on. h.0 (from w on)), (h.1.0, h.1.1, left-as those to from ws h.1.0 h.1.2))

  module _ (x : Member) where
    -- these places, and one more
    abbrev and_one : Member → Type 0
    and_one w = these w ⊎ (w ≡ x)

    left-off : (ws rest : List Member) → IsRemainder these ws rest → (Contains rest x → ⊥) → IsRemainder (λ w. these w ⊎ (w ≡ x)) ws rest
    left-off [] rest h off = h
    left-off (w ∷ ws) rest (inl h) off = inl (inl h.0, left-off ws rest h.1 off)
    left-off (w ∷ ws) rest (inr h) off = inr (
      (λ on. elim on [ inl this ↦ h.0 this | inr same ↦ off (subst (λ l. Contains l x) (sym h.1.1) (subst (Contains (w ∷ h.1.0)) same (elem-first w h.1.0))) ]),
      (h.1.0, h.1.1, left-off ws h.1.0 h.1.2 (λ on. off (subst (λ l. Contains l x) (sym h.1.1) (elem-later w x h.1.0 on)))),
    )

    never-short : (front back : List Member) → front ++ (x ∷ back) ≡ [] → ⊥
    never-short [] back e = cc e
    never-short (f ∷ front) back e = cc e

    left-on : (ws front back : List Member) → IsRemainder these ws (front ++ (x ∷ back)) → (Contains (front ++ back) x → ⊥) → IsRemainder (λ w. these w ⊎ (w ≡ x)) ws (front ++ back)
    left-on [] front back h off = absurd (never-short front back h)
    left-on (w ∷ ws) front back (inl h) off = inl (inl h.0, left-on ws front back h.1 off)
    left-on (w ∷ ws) [] back (inr h) off = inl (inr (sym (heads x w back h.1.0 h.1.1)), left-off ws back (subst (IsRemainder these ws) (sym (tails x w back h.1.0 h.1.1)) h.1.2) off)
    left-on (w ∷ ws) (f ∷ front) back (inr h) off =
        let same : f ≡ w = heads f w (front ++ (x ∷ back)) h.1.0 h.1.1 in let more : front ++ (x ∷ back) ≡ h.1.0 = tails f w (front ++ (x ∷ back)) h.1.0 h.1.1 in
        inr (
          (λ on. elim on [ inl this ↦ h.0 this | inr is ↦ off (subst (Contains (f ∷ (front ++ back))) (same ∙ is) (elem-first f (front ++ back))) ]),
          (front ++ back, ap (λ y. y ∷ (front ++ back)) same, left-on ws front back (subst (IsRemainder these ws) (sym more) h.1.2) (λ on. off (elem-later f x (front ++ back) on))),
        )

-- ---- one more place

module _ (these : Member → Type 0) (old list : List Member) (h : IsTouched these old list) where
  touched-as : (those : Member → Type 0) → ((w : Member) → these w → those w) → ((w : Member) → those w → these w) → IsTouched those old list
  touched-as those to from = record {
    rest = h.rest;
    touched = h.touched;
    split = h.split;
    left = left-as these those to from old h.rest h.left;
    mine = λ w on. let m = h.mine w on in (to w m.0, m.1);
    all = λ w on at. h.all w on (from w at);
    ascending = h.ascending;
  }

  module _ (x : Member) (fresh : these x → ⊥) where
    touched-off : (Contains list x → ⊥) → IsTouched (λ w. these w ⊎ (w ≡ x)) old list
    touched-off off = record {
      rest = h.rest;
      touched = h.touched;
      split = h.split;
      left = left-off these x old h.rest h.left none;
      mine = λ w on. let m = h.mine w on in (inl m.0, m.1);
      all = λ w on at. elim at [ inl this ↦ h.all w on this | inr same ↦ absurd (none (left-stays these old h.rest x h.left fresh (subst (Contains old) same on))) ];
      ascending = h.ascending;
    } where
      none : Contains h.rest x → ⊥
      none on = off (subst (λ l. Contains l x) (sym h.split) (elem-left h.rest h.touched x on))

    -- where it is listed it stands among what was left, and goes to the back
    touched-on : ((w : Member) → these w → w.version < x.version) → AllPairs ◌≢◌ list → Contains list x → (front : List Member) × (back : List Member) × (list ≡ front ++ (x ∷ back)) × IsTouched (λ w. these w ⊎ (w ≡ x)) old ((front ++ back) ++ (x ∷ []))
    touched-on later once on =
        let in_rest : Contains h.rest x = elim (Contains-append_cases h.rest h.touched x (subst (λ l. Contains l x) h.split on)) [ inl here ↦ here | inr moved ↦ absurd (fresh (h.mine x moved).0) ] in
        let s = elem-split h.rest x in_rest in
        let split : list ≡ s.0 ++ (x ∷ (s.1 ++ h.touched)) = h.split ∙ ap (λ l. l ++ h.touched) s.2 ∙ append_assoc s.0 (x ∷ s.1) h.touched in
        let gone : Contains (s.0 ++ (s.1 ++ h.touched)) x → ⊥ = once-beside s.0 (s.1 ++ h.touched) x (subst (AllPairs ◌≢◌) split once) in (
          s.0,
          s.1 ++ h.touched,
          split,
          record {
            rest = s.0 ++ s.1;
            touched = h.touched ++ (x ∷ []);
            split = ap (λ l. l ++ (x ∷ [])) (sym (append_assoc s.0 s.1 h.touched)) ∙ append_assoc (s.0 ++ s.1) h.touched (x ∷ []);
            left = left-on these x old s.0 s.1 (subst (IsRemainder these old) s.2 h.left) (λ at. gone (subst (λ l. Contains l x) (append_assoc s.0 s.1 h.touched) (elem-left (s.0 ++ s.1) h.touched x at)));
            mine = λ w at. elim (elem-pushed h.touched x w at) [
              | inl before ↦ let m = h.mine w before in (inl m.0, m.1)
              | inr this ↦ (inr (sym this), subst (Contains old) this (left-old these old h.rest x h.left in_rest))
            ];
            all = λ w at is. elim is [
              | inl this ↦ elem-left h.touched (x ∷ []) w (h.all w at this)
              | inr same ↦ subst (Contains (h.touched ++ (x ∷ []))) (sym same) (elem-here h.touched [] x)
            ];
            ascending = pairs-pushed (λ (a b : Member). a.version < b.version) h.touched x (λ w at. later w (h.mine w at).0) h.ascending;
          },
        )

-- ---- version by version

-- the place of the entry at a position, in a version below one
abbrev IsAtBelow : ℕ → ℕ → Pos → Member → Type 0
IsAtBelow id n x w = (w.chain ≡ id) × (w.version < n) × (w.position ≡ Some x)

-- the objects at a position went to the back in the versions below one
pub record IsTouchingKey (id : ℕ) (x : Pos) (n : ℕ) (old now : Memory) : Type 0 where
  pub list : List Member
  pub touched : IsTouched (λ w. (w.chain ≡ id) × (w.version < n) × (w.position ≡ Some x)) old.recency list
  pub same : now ≡ listed_as list now.region old
  pub once : AllPairs ◌≢◌ list
  pub objects : SameObjects old.region now.region
  pub still : StandStill Nowhere old now

objects-then : (old mid new : View) → SameObjects old mid → SameObjects mid new → SameObjects old new
objects-then old mid new a b = record {
  bodies = λ r. b.bodies r ∙ a.bodies r;
  ends = λ e there. b.ends e (a.ends e there);
  gone = λ e there. a.gone e (b.gone e there);
  spots = λ r. b.spots r ∙ a.spots r;
  slots = b.slots ∙ a.slots;
  usages = b.usages ∙ a.usages;
  epoch = b.epoch ∙ a.epoch;
  moved = b.moved ∙ a.moved;
  compacted = b.compacted ∙ a.compacted;
}

left-none : (these : Member → Type 0) → ((w : Member) → these w → ⊥) → (ws : List Member) → IsRemainder these ws ws
left-none these none [] = refl
left-none these none (w ∷ ws) = inr (none w, (ws, refl, left-none these none ws))

pub touching-start : (id : ℕ) (x : Pos) (m : Memory) → AllPairs ◌≢◌ m.recency → IsTouchingKey id x 0 m m
touching-start id x m once = record {
  list = m.recency;
  touched = record {
    rest = m.recency;
    touched = [];
    split = sym (append-nil m.recency);
    left = left-none (IsAtBelow id 0 x) (λ w at. let low = at.1 in absurd (omega (arith, low))) m.recency;
    mine = λ w on. absurd (elem-none w on);
    all = λ w on at. let low = at.1 in absurd (omega (arith, low));
    ascending = λ i j d less within. absurd (omega (arith, less, within));
  };
  same = refl;
  once = once;
  objects = same-objects m.region;
  still = still-itself Nowhere m;
}

at-below-more : (id n : ℕ) (x : Pos) (w : Member) → (IsAtBelow id n x w ⊎ (w ≡ member_at id n (Some x))) → IsAtBelow id (n + 1) x w
at-below-more id n x w (inl at) = let low = at.1 in (at.0, omega (arith, low), at.2)
at-below-more id n x w (inr same) = let is : w.version ≡ n = ap (λ (y : Member). y.version) same in (ap (λ (y : Member). y.chain) same, omega (arith, is), ap (λ (y : Member). y.position) same)

more-at-below : (id n : ℕ) (x : Pos) (w : Member) → IsAtBelow id (n + 1) x w → IsAtBelow id n x w ⊎ (w ≡ member_at id n (Some x))
more-at-below id n x w at = elim (below-or w.version n at.1) [
  | inl low ↦ inl (at.0, low, at.2)
  | inr same ↦ inr (λ i. record { chain = at.0 i; version = same i; position = at.2 i })
]

module _ (id : ℕ) (x : Pos) (n : ℕ) (old now new : Memory) (h : IsTouchingKey id x n old now)
    (touched : (front back : List Member) → now.recency ≡ front ++ (member_at id n (Some x) ∷ back) → new ≡ listed_as ((front ++ back) ++ (member_at id n (Some x) ∷ [])) new.region now)
    (unlisted : (Contains now.recency (member_at id n (Some x)) → ⊥) → new ≡ now) (objects : SameObjects now.region new.region) (still : StandStill Nowhere now new) where
  abbrev this : Member
  this = member_at id n (Some x)

  list_now : now.recency ≡ h.list
  list_now = ap (λ (m : Memory). m.recency) h.same

  fresh : IsAtBelow id n x this → ⊥
  fresh at = let low = at.1 in omega (arith, low)

  more : (list : List Member) → new ≡ listed_as list new.region old → AllPairs ◌≢◌ list → IsTouched (λ w. IsAtBelow id n x w ⊎ (w ≡ member_at id n (Some x))) old.recency list → IsTouchingKey id x (n + 1) old new
  more list same once t = record {
    list = list;
    touched = touched-as (λ w. IsAtBelow id n x w ⊎ (w ≡ member_at id n (Some x))) old.recency list t (IsAtBelow id (n + 1) x) (at-below-more id n x) (more-at-below id n x);
    same = same;
    once = once;
    objects = objects-then old.region now.region new.region h.objects objects;
    still = still-then Nowhere old now new h.still still;
  }

  pub touching-step : IsTouchingKey id x (n + 1) old new
  touching-step = elim (listed-decided h.list this) [
    | inl on ↦
        let t = touched-on (IsAtBelow id n x) old.recency h.list h.touched this fresh (λ w at. at.1) h.once on in
        more ((t.0 ++ t.1) ++ (this ∷ [])) (touched t.0 t.1 (list_now ∙ t.2) ∙ ap (λ (m : Memory). listed_as ((t.0 ++ t.1) ++ (this ∷ [])) new.region m) h.same)
        (let before = subst (AllPairs ◌≢◌) t.2 h.once in once-with (t.0 ++ t.1) [] this (λ at. once-beside t.0 t.1 this before (subst (λ l. Contains l this) (append-nil (t.0 ++ t.1)) at)) (subst (AllPairs ◌≢◌) (sym (append-nil (t.0 ++ t.1))) (once-without t.0 t.1 this before)))
        t.3
    | inr off ↦
        let same : new ≡ now = unlisted (λ at. off (subst (λ l. Contains l this) list_now at)) in
        more h.list (same ∙ h.same ∙ ap (λ (m : Memory). listed_as h.list m.region old) (sym same)) h.once (touched-off (IsAtBelow id n x) old.recency h.list h.touched this fresh off)
  ]

-- ---- up to the version that a snapshot pins

module _ (id pin last : ℕ) (x : Pos) (old : Memory) (has : HasPin old id pin) (pinned : (k : KeptChain) → chain_at old id ≡ Some k → pin_at k.chain.pins pin ≡ Some last)
    (sound : (i : ℕ) → IfSome (chain_at old i) (λ q. IsSoundChain q.chain)) where
  -- all these versions are there
  pub touching-has : (n : ℕ) (now : Memory) → IsTouchingKey id x n old now → (j : ℕ) → j ≤ last → HasVersion now id j
  touching-has n now h j low =
      let k = some-chain (chain_at old id) (λ k. IsSome (pin_at k.chain.pins pin)) has in
      let pins = (sound-of old id k.0 k.1 sound).pins last (pin-is-pinned k.0.chain.pins pin last (pinned k.0 k.1)) in
      subst (λ (m : Memory). IsSomeAnd (chain_at m id) (λ q. j < length q.chain.versions)) (sym h.same)
      (subst (λ (o : Option KeptChain). IsSomeAnd o (λ q. j < length q.chain.versions)) (sym k.1) (omega (arith, pins, low)))

  pub touched-all : (new : Memory) → IsTouchingKey id x (last + 1) old new → (k : KeptChain) (j : ℕ) → chain_at old id ≡ Some k → pin_at k.chain.pins pin ≡ Some j → (list : List Member) × IsTouched (IsAtUpTo id j x) old.recency list × (new ≡ listed_as list new.region old)
  touched-all new h k j e at =
      let same : last ≡ j = same-number last j (sym (pinned k e) ∙ at) in
      (h.list, touched-as (IsAtBelow id (last + 1) x) old.recency h.list h.touched (IsAtUpTo id j x) (λ w is. let low = is.1 in (is.0, omega (arith, low, same), is.2)) (λ w is. let low = is.1 in (is.0, omega (arith, low, same), is.2)), h.same)
