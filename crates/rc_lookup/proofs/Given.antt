-- Objects at some places that go to the back of the recency list, and then those at others.
use Rattle.std.proofs.Common.{◌≡◌, ◌≢◌, ◌⊎◌, ◌<◌, ◌+◌, ◌≤◌, ℕ, zero, suc, List, [], ◌∷◌, ◌++◌, Option, Some, None, inl, inr, refl, sym, ap, ◌∙◌, subst, append_assoc, length, arith}
use Rattle.std.specs.Prelude.{AllPairs, Contains, IsSome, IsSomeAnd}
use Rattle.std.proofs.lemmas.List.{append-nil}
use Rattle.std.proofs.lemmas.List.Elements.{Contains-append_cases, Contains-append_right}
use Rattle.lsa_path.specs.laws.Steps.{objects-trans}
use Rattle.lsa_store.specs.declared.place.Ref.{Ref}
use Rattle.lsa_region.specs.Region.{View}
use Rattle.rc_position.specs.declared.comps.Comp.{Comp}
use Rattle.rc_position.specs.declared.positions.Pos.{Pos}
use Rattle.rc_query.specs.declared.lines.OutLine.{OutLine}
use Rattle.rc_query.specs.declared.lines.OutLine.TheVariants as line
use Rattle.rc_chain.specs.Lives.{IsRemainder}
use Rattle.rc_memory.specs.Changes.{member_at}
use Rattle.rc_memory.specs.Lists.{elem-cases, elem-first, elem-later, elem-left, elem-none, elem-here, elem-split, once-beside}
use Rattle.rc_memory.specs.Memory.{HasChain, IsMemberObject, KeptChain, Member, Memory, chain_at, listed_as}
use Rattle.rc_memory.specs.Partitions.{standing}
use Rattle.rc_memory.specs.Recency.{HasObject, IsRecency, MayBeListed}
use Rattle.rc_memory.specs.laws.At.{number-low}
use Rattle.rc_core.specs.AtPlace.{HasEntryAt}
use Rattle.rc_version.specs.Versions.{IsEntryFound}
use Rattle.rc_lookup.specs.Touched.{AreRecent, AreTouched, IsLineOf, IsEntryOfRow}
use Rattle.rc_lookup.specs.calls.Touched.{IsReordered}
use Rattle.rc_lookup.specs.calls.Recent.{IsTurnedAlone}
use Rattle.rc_schema.specs.SchemaValue.{SchemaValue}
use Rattle.rc_row_cache.specs.Entries.{AreEntries}
use Rattle.rc_row_cache.specs.Footprint.{AreInUse}
use Rattle.rc_row_cache.specs.Saying.{Below, CacheSays}
use Rattle.rc_lookup.specs.Rest.{LeavesRest}
use Rattle.rc_lookup.proofs.Kept.{unchanged}
use Rattle.rc_lookup.proofs.Reordered.{entries-reordered, rest-reordered}
use Rattle.rc_lookup.proofs.Placed.{IsPlaced, listed-has}

-- ---- what is left of a list

module _ (these : Member → Type 0) where
  -- none of it stands at these places
  left-whole : (ws : List Member) → ((w : Member) → Contains ws w → these w → ⊥) → IsRemainder these ws ws
  left-whole [] none = refl
  left-whole (w ∷ ws) none = inr (none w (elem-first w ws), (ws, refl, left-whole ws (λ x on. none x (elem-later w x ws on))))

  left-was : (ws rest : List Member) (w : Member) → IsRemainder these ws rest → Contains rest w → Contains ws w
  left-was [] rest w h on = absurd (elem-none w (subst (λ l. Contains l w) h on))
  left-was (x ∷ ws) rest w (inl h) on = elem-later x w ws (left-was ws rest w h.1 on)
  left-was (x ∷ ws) rest w (inr h) on = elim (elem-cases x w h.1.0 (subst (λ l. Contains l w) h.1.1 on)) [
    | inl this ↦ subst (Contains (x ∷ ws)) this (elem-first x ws)
    | inr more ↦ elem-later x w ws (left-was ws h.1.0 w h.1.2 more)
  ]

  -- each member stands at one of them, or is left
  left-or : (ws rest : List Member) (w : Member) → IsRemainder these ws rest → Contains ws w → these w ⊎ Contains rest w
  left-or [] rest w h on = absurd (elem-none w on)
  left-or (x ∷ ws) rest w (inl h) on = elim (elem-cases x w ws on) [ inl this ↦ inl (subst these this h.0) | inr more ↦ left-or ws rest w h.1 more ]
  left-or (x ∷ ws) rest w (inr h) on = elim (elem-cases x w ws on) [
    | inl this ↦ inr (subst (λ l. Contains l w) (sym h.1.1) (subst (Contains (x ∷ h.1.0)) this (elem-first x h.1.0)))
    | inr more ↦ elim (left-or ws h.1.0 w h.1.2 more) [ inl at ↦ inl at | inr later ↦ inr (subst (λ l. Contains l w) (sym h.1.1) (elem-later x w h.1.0 later)) ]
  ]

  -- of two lists each
  left-both : (xs ys rest : List Member) → IsRemainder these (xs ++ ys) rest → (r : List Member) × (s : List Member) × (rest ≡ r ++ s) × IsRemainder these xs r × IsRemainder these ys s
  left-both [] ys rest h = ([], rest, refl, refl, h)
  left-both (x ∷ xs) ys rest (inl h) = let b = left-both xs ys rest h.1 in (b.0, b.1, b.2, inl (h.0, b.3), b.4)
  left-both (x ∷ xs) ys rest (inr h) = let b = left-both xs ys h.1.0 h.1.2 in (x ∷ b.0, b.1, h.1.1 ∙ ap (λ l. x ∷ l) b.2, inr (h.0, (b.0, refl, b.3)), b.4)

  -- at other places where the members stand at these
  left-like : (those : Member → Type 0) (ws rest : List Member) → ((w : Member) → Contains ws w → these w → those w) → ((w : Member) → Contains ws w → those w → these w) → IsRemainder these ws rest → IsRemainder those ws rest
  left-like those [] rest to from h = h
  left-like those (w ∷ ws) rest to from (inl h) = inl (to w (elem-first w ws) h.0, left-like those ws rest (λ x on. to x (elem-later w x ws on)) (λ x on. from x (elem-later w x ws on)) h.1)
  left-like those (w ∷ ws) rest to from (inr h) = inr (
    (λ at. h.0 (from w (elem-first w ws) at)),
    (h.1.0, h.1.1, left-like those ws h.1.0 (λ x on. to x (elem-later w x ws on)) (λ x on. from x (elem-later w x ws on)) h.1.2),
  )

-- without those at some places, and then without those at others
left-twice : (these those : Member → Type 0) (ws rest last : List Member) → IsRemainder these ws rest → IsRemainder those rest last → IsRemainder (λ w. these w ⊎ those w) ws last
left-twice these those [] rest last h g = subst (λ l. IsRemainder those l last) h g
left-twice these those (w ∷ ws) rest last (inl h) g = inl (inl h.0, left-twice these those ws rest last h.1 g)
left-twice these those (w ∷ ws) rest last (inr h) g = elim (subst (λ l. IsRemainder those l last) h.1.1 g) [
  | inl k ↦ inl (inr k.0, left-twice these those ws h.1.0 last h.1.2 k.1)
  | inr k ↦ inr ((λ at. elim at [ inl this ↦ h.0 this | inr that ↦ k.0 that ]), (k.1.0, k.1.1, left-twice these those ws h.1.0 k.1.0 h.1.2 k.1.2))
]

-- ---- the list

recent-none : (these : Member → Type 0) (list : List Member) → ((w : Member) → Contains list w → these w → ⊥) → AreRecent these list list
recent-none these list none = record {
  rest = list;
  own = [];
  split = sym (append-nil list);
  left = left-whole these list none;
  mine = λ w on. absurd (elem-none w on);
  all = λ w on at. absurd (none w on at);
}

module _ (these those : Member → Type 0) (old mid new : List Member) (h : AreRecent these old mid) (g : AreRecent those mid new) where
  was-there : (w : Member) → Contains mid w → Contains old w
  was-there w on = elim (Contains-append_cases h.rest h.own w (subst (λ l. Contains l w) h.split on)) [ inl left ↦ left-was these old h.rest w h.left left | inr own ↦ (h.mine w own).1 ]

  is-there : (w : Member) → Contains old w → Contains mid w
  is-there w on = subst (λ l. Contains l w) (sym h.split) (elim (left-or these old h.rest w h.left on) [ inl at ↦ Contains-append_right h.rest h.own w (h.all w on at) | inr left ↦ elem-left h.rest h.own w left ])

  pub recent-then : AreRecent (λ w. these w ⊎ those w) old new
  recent-then =
      let b = left-both those h.rest h.own g.rest (subst (λ l. IsRemainder those l g.rest) h.split g.left) in
      record {
        rest = b.0;
        own = b.1 ++ g.own;
        split = g.split ∙ ap (λ l. l ++ g.own) b.2 ∙ append_assoc b.0 b.1 g.own;
        left = left-twice these those old h.rest b.0 h.left b.3;
        mine = λ w on. elim (Contains-append_cases b.1 g.own w on) [
          | inl before ↦ let m = h.mine w (left-was those h.own b.1 w b.4 before) in (inl m.0, m.1)
          | inr own ↦ let m = g.mine w own in (inr m.0, was-there w m.1)
        ];
        all = λ w on at. elim at [
          | inl this ↦ elim (left-or those h.own b.1 w b.4 (h.all w on this)) [ inl that ↦ Contains-append_right b.1 g.own w (g.all w (is-there w on) that) | inr left ↦ elem-left b.1 g.own w left ]
          | inr that ↦ Contains-append_right b.1 g.own w (g.all w (is-there w on) that)
        ];
      }

module _ (these those : Member → Type 0) (old new : List Member) (to : (w : Member) → Contains old w → these w → those w) (from : (w : Member) → Contains old w → those w → these w) where
  recent-like : AreRecent these old new → AreRecent those old new
  recent-like h = record {
    rest = h.rest;
    own = h.own;
    split = h.split;
    left = left-like these those old h.rest to from h.left;
    mine = λ w on. let m = h.mine w on in (to w m.1 m.0, m.1);
    all = λ w on at. h.all w on (from w on at);
  }

-- a list without one of its members
left-one : (x : Member) (front back : List Member) → (Contains (front ++ back) x → ⊥) → IsRemainder (λ w. w ≡ x) (front ++ (x ∷ back)) (front ++ back)
left-one x [] back off = inl (refl, left-whole (λ w. w ≡ x) back (λ w on same. off (subst (Contains back) same on)))
left-one x (f ∷ front) back off = inr ((λ same. off (subst (Contains (f ∷ (front ++ back))) same (elem-first f (front ++ back)))), (front ++ back, refl, left-one x front back (λ on. off (elem-later f x (front ++ back) on))))

recent-one : (x : Member) (old new front back : List Member) → AllPairs ◌≢◌ old → old ≡ front ++ (x ∷ back) → new ≡ (front ++ back) ++ (x ∷ []) → AreRecent (λ w. w ≡ x) old new
recent-one x old new front back once was is =
    let off = once-beside front back x (subst (AllPairs ◌≢◌) was once) in
    record {
      rest = front ++ back;
      own = x ∷ [];
      split = is;
      left = subst (λ l. IsRemainder (λ w. w ≡ x) l (front ++ back)) (sym was) (left-one x front back off);
      mine = λ w on. elim (elem-cases x w [] on) [ inl same ↦ (sym same, subst (Contains old) same (subst (λ l. Contains l x) (sym was) (elem-here front back x))) | inr none ↦ absurd (elem-none w none) ];
      all = λ w on same. subst (Contains (x ∷ [])) (sym same) (elem-first x []);
    }

-- ---- the memory

-- nothing stood at these places
pub touched-none : (these : Member → Type 0) (m : Memory) → ((w : Member) → Contains m.recency w → these w → ⊥) → AreTouched these m m
touched-none these m none = record { recency = recent-none these m.recency none; same = refl; objects = unchanged m.region }

pub touched-then : (these those : Member → Type 0) (old mid new : Memory) → AreTouched these old mid → AreTouched those mid new → AreTouched (λ w. these w ⊎ those w) old new
touched-then these those old mid new h g = record {
  recency = recent-then these those old.recency mid.recency new.recency h.recency g.recency;
  same = g.same ∙ ap (λ (m : Memory). listed_as new.recency new.region m) h.same;
  objects = objects-trans old.region mid.region new.region h.objects g.objects;
}

-- the same places, where something is listed
pub touched-like : (these those : Member → Type 0) (old new : Memory) → ((w : Member) → Contains old.recency w → these w → those w) → ((w : Member) → Contains old.recency w → those w → these w) → AreTouched these old new → AreTouched those old new
touched-like these those old new to from h = record { recency = recent-like these those old.recency new.recency to from h.recency; same = h.same; objects = h.objects }

-- one object went to the back
pub touched-one : (x : Member) (old new : Memory) → AllPairs ◌≢◌ old.recency → IsTurnedAlone x old new → AreTouched (λ w. w ≡ x) old new
touched-one x old new once t = record {
  recency = elim t.recency [
    | inl none ↦ subst (AreRecent (λ w. w ≡ x) old.recency) (sym none.1) (recent-none (λ w. w ≡ x) old.recency (λ w on same. none.0 (subst (Contains old.recency) same on)))
    | inr there ↦ (let s = elem-split old.recency x there.0 in recent-one x old.recency new.recency s.0 s.1 once s.2 (there.1 s.0 s.1 s.2))
  ];
  same = t.same;
  objects = t.objects;
}

pub touched-reordered : (these : Member → Type 0) (old new : Memory) → AreTouched these old new → IsReordered old new
touched-reordered these old new t = record {
  kept = λ w on. subst (λ l. Contains l w) (sym t.recency.split) (elim (left-or these old.recency t.recency.rest w t.recency.left on) [ inl at ↦ Contains-append_right t.recency.rest t.recency.own w (t.recency.all w on at) | inr left ↦ elem-left t.recency.rest t.recency.own w left ]);
  same = t.same;
  objects = t.objects;
}

-- ---- version by version

-- a place is of a version of a chain below one, and this holds of its position; and of that version itself
abbrev pub IsBelow : ℕ → ℕ → (Option Pos → Type 0) → Member → Type 0
IsBelow id n at w = (w.chain ≡ id) × (w.version < n) × at w.position

abbrev pub IsInVersion : ℕ → ℕ → (Option Pos → Type 0) → Member → Type 0
IsInVersion id n at w = (w.chain ≡ id) × (w.version ≡ n) × at w.position

below-or : (m n : ℕ) → m < n + 1 → (m < n) ⊎ (m ≡ n)
below-or m n low = at-or-below m n (omega (arith, low))
  where
    at-or-below : (m n : ℕ) → m ≤ n → (m < n) ⊎ (m ≡ n)
    at-or-below zero zero low = inr refl
    at-or-below zero (suc n) low = inl (omega arith)
    at-or-below (suc m) zero low = absurd (omega (arith, low))
    at-or-below (suc m) (suc n) low = elim (at-or-below m n (omega (arith, low))) [ inl less ↦ inl (omega (arith, less)) | inr same ↦ inr (ap suc same) ]

pub below-start : (id : ℕ) (at : Option Pos → Type 0) (m : Memory) → AreTouched (IsBelow id 0 at) m m
below-start id at m = touched-none (IsBelow id 0 at) m (λ w on is. let low = is.1 in omega (arith, low))

pub below-step : (id n : ℕ) (at : Option Pos → Type 0) (old mid new : Memory) → AreTouched (IsBelow id n at) old mid → AreTouched (IsInVersion id n at) mid new → AreTouched (IsBelow id (n + 1) at) old new
below-step id n at old mid new h g = touched-like (λ w. IsBelow id n at w ⊎ IsInVersion id n at w) (IsBelow id (n + 1) at) old new
    (λ w on is. elim is [
      | inl below ↦ (let low = below.1 in (below.0, omega (arith, low), below.2))
      | inr same ↦ (let here = same.1 in (same.0, omega (arith, here), same.2))
    ])
    (λ w on is. elim (below-or w.version n is.1) [ inl low ↦ inl (is.0, low, is.2) | inr same ↦ inr (is.0, same, is.2) ])
    (touched-then (IsBelow id n at) (IsInVersion id n at) old mid new h g)

-- one place of a version
in-version : (id n : ℕ) (p : Option Pos) (w : Member) → w ≡ member_at id n p → IsInVersion id n (λ q. q ≡ p) w
in-version id n p w same = (ap (λ (y : Member). y.chain) same, ap (λ (y : Member). y.version) same, ap (λ (y : Member). y.position) same)

of-version : (id n : ℕ) (p : Option Pos) (w : Member) → IsInVersion id n (λ q. q ≡ p) w → w ≡ member_at id n p
of-version id n p w is = λ i. record { chain = is.0 i; version = is.1 i; position = is.2 i }

pub version-one : (id n : ℕ) (p : Option Pos) (old new : Memory) → AreTouched (λ w. w ≡ member_at id n p) old new → AreTouched (IsInVersion id n (λ q. q ≡ p)) old new
version-one id n p old new h = touched-like (λ w. w ≡ member_at id n p) (IsInVersion id n (λ q. q ≡ p)) old new (λ w on is. in-version id n p w is) (λ w on is. of-version id n p w is) h

-- and two
pub version-two : (id n : ℕ) (p r : Option Pos) (old mid new : Memory) → AreTouched (λ w. w ≡ member_at id n p) old mid → AreTouched (λ w. w ≡ member_at id n r) mid new → AreTouched (IsInVersion id n (λ q. (q ≡ p) ⊎ (q ≡ r))) old new
version-two id n p r old mid new h g = touched-like (λ w. IsInVersion id n (λ q. q ≡ p) w ⊎ IsInVersion id n (λ q. q ≡ r) w) (IsInVersion id n (λ q. (q ≡ p) ⊎ (q ≡ r))) old new
    (λ w on is. elim is [ inl a ↦ (a.0, a.1, inl a.2) | inr b ↦ (b.0, b.1, inr b.2) ])
    (λ w on is. elim is.2 [ inl a ↦ inl (is.0, is.1, a) | inr b ↦ inr (is.0, is.1, b) ])
    (touched-then (IsInVersion id n (λ q. q ≡ p)) (IsInVersion id n (λ q. q ≡ r)) old mid new (version-one id n p old mid h) (version-one id n r mid new g))

some-chain : (o : Option KeptChain) → IsSome o → (k : KeptChain) × (o ≡ Some k)
some-chain None on = absurd (cc)
some-chain (Some k) on = (k, refl)

pub below-all : (id n : ℕ) (at : Option Pos → Type 0) (old new : Memory) → IsRecency old → HasChain old id → ((k : KeptChain) → chain_at old id ≡ Some k → length k.chain.versions ≤ n) → AreTouched (IsBelow id n at) old new → AreTouched (λ w. (w.chain ≡ id) × at w.position) old new
below-all id n at old new rule has most h = touched-like (IsBelow id n at) (λ w. (w.chain ≡ id) × at w.position) old new (λ w on is. (is.0, is.2))
    (λ w on is. (
    let k = some-chain (chain_at old id) has in
    let may : MayBeListed k.0.chain w.version w.position = subst (λ (o : Option KeptChain). IsSomeAnd o (λ q. MayBeListed q.chain w.version w.position)) (ap (chain_at old) is.0 ∙ k.1) (rule.members w on) in
    let low = number-low k.0.chain.versions w.version may.version may.number in let all = most k.0 k.1 in
    (is.0, omega (arith, low, all), is.1)))
    h

-- ---- where the chain is not there

gone-list : (m : Memory) (id : ℕ) → IsRecency m → chain_at m id ≡ None → (w : Member) → Contains m.recency w → w.chain ≡ id → ⊥
gone-list m id rule gone w on of = subst (λ (o : Option KeptChain). IsSomeAnd o (λ q. MayBeListed q.chain w.version w.position)) (ap (chain_at m) of ∙ gone) (rule.members w on)

line-chain : (id : ℕ) (lines : List OutLine) (w : Member) → IsLineOf id lines w → w.chain ≡ id
line-chain id [] w at = absurd at
line-chain id (line.Static values ∷ lines) w at = line-chain id lines w at
line-chain id (line.Row key values ∷ lines) w at = elim at [ inl this ↦ this.0 | inr more ↦ line-chain id lines w more ]

pub gone-touched : (m : Memory) (id : ℕ) (lines : List OutLine) → IsRecency m → chain_at m id ≡ None → AreTouched (IsLineOf id lines) m m
gone-touched m id lines rule gone = touched-none (IsLineOf id lines) m (λ w on at. gone-list m id rule gone w on (line-chain id lines w at))

-- ---- the entry at a position

module _ (m : Memory) (id number : ℕ) (n : Ref) (p : IsPlaced m id number n) (x : Pos) (o : Option Ref) where
  pub entry-at : (r : Ref) (view : View) → view ≡ m.region → o ≡ Some r → IsEntryFound view p.standing.entries p.version x o → IsMemberObject m r (member_at id number (Some x))
  entry-at r view same is found =
      let f = subst (λ q. IsEntryFound m.region p.standing.entries p.version x q) is (subst (λ v. IsEntryFound v p.standing.entries p.version x o) same found) in
      record {
        partition = p.standing.partition;
        version = standing n p.standing.entries p.version;
        chain = p.standing.there;
        number = p.standing.number;
        object = (f.0, f.1);
      }

  none-found : (q : Option Ref) (view : View) → ((r : Ref) → q ≡ Some r → ⊥) → IsEntryFound view p.standing.entries p.version x q → HasEntryAt x p.version.entries → ⊥
  none-found None view none found = found.1
  none-found (Some r) view none found = absurd (none r refl)

  pub unfound : IsRecency m → (view : View) → ((r : Ref) → o ≡ Some r → ⊥) → IsEntryFound view p.standing.entries p.version x o → (w : Member) → Contains m.recency w → w ≡ member_at id number (Some x) → ⊥
  unfound rule view none found w on same =
      none-found o view none found (subst (HasObject p.version) (ap (λ (y : Member). y.position) same) (listed-has m id number n p rule w on (ap (λ (y : Member). y.chain) same) (ap (λ (y : Member). y.version) same)))

-- ---- line by line

pub no-line : (id : ℕ) (values : List (ℕ × List ℕ)) (m : Memory) → AreTouched (IsLineOf id (line.Static values ∷ [])) m m
no-line id values m = touched-none (IsLineOf id (line.Static values ∷ [])) m (λ w on at. at)

pub row-line : (id : ℕ) (key : List Comp) (values : List (ℕ × List ℕ)) (old new : Memory) → AreTouched (IsEntryOfRow id key) old new → AreTouched (IsLineOf id (line.Row key values ∷ [])) old new
row-line id key values old new h = touched-like (IsEntryOfRow id key) (IsLineOf id (line.Row key values ∷ [])) old new (λ w on at. inl at) (λ w on at. elim at [ inl this ↦ this | inr none ↦ absurd none ]) h

first-line : (id : ℕ) (first : OutLine) (rest : List OutLine) (w : Member) → IsLineOf id (first ∷ []) w ⊎ IsLineOf id rest w → IsLineOf id (first ∷ rest) w
first-line id (line.Static values) rest w at = elim at [ inl none ↦ absurd none | inr more ↦ more ]
first-line id (line.Row key values) rest w at = elim at [ inl one ↦ elim one [ inl this ↦ inl this | inr none ↦ absurd none ] | inr more ↦ inr more ]

line-first : (id : ℕ) (first : OutLine) (rest : List OutLine) (w : Member) → IsLineOf id (first ∷ rest) w → IsLineOf id (first ∷ []) w ⊎ IsLineOf id rest w
line-first id (line.Static values) rest w at = inr at
line-first id (line.Row key values) rest w at = elim at [ inl this ↦ inl (inl this) | inr more ↦ inr more ]

-- the chain is there, and once the lines that are left are done all are
pub record IsGiving (id : ℕ) (lines left : List OutLine) (old now : Memory) : Type 0 where
  pub has : HasChain now id
  pub then : (new : Memory) → AreTouched (IsLineOf id left) now new → AreTouched (IsLineOf id lines) old new

pub giving-start : (id : ℕ) (lines : List OutLine) (m : Memory) → HasChain m id → IsGiving id lines lines m m
giving-start id lines m has = record { has = has; then = λ new h. h }

pub giving-step : (id : ℕ) (lines rest : List OutLine) (first : OutLine) (old now new : Memory) → IsGiving id lines (first ∷ rest) old now → AreTouched (IsLineOf id (first ∷ [])) now new → IsGiving id lines rest old new
giving-step id lines rest first old now new h t = record {
  has = subst (λ (m : Memory). HasChain m id) (sym t.same) h.has;
  then = λ last more. h.then last (touched-like (λ w. IsLineOf id (first ∷ []) w ⊎ IsLineOf id rest w) (IsLineOf id (first ∷ rest)) now last (λ w on. first-line id first rest w) (λ w on. line-first id first rest w) (touched-then (IsLineOf id (first ∷ [])) (IsLineOf id rest) now new last t more));
}

pub giving-end : (id : ℕ) (lines : List OutLine) (old now : Memory) → IsGiving id lines [] old now → AreTouched (IsLineOf id lines) old now
giving-end id lines old now h = h.then now (touched-none (IsLineOf id []) now (λ w on at. at))

-- ---- what that leaves

module _ (these : Member → Type 0) (old new : Memory) (t : AreTouched these old new) where
  pub touched-used : AreInUse old → AreInUse new
  touched-used u id k e idle = u id k (subst (λ (m : Memory). chain_at m id ≡ Some k) t.same e)
      (record { cached = idle.cached; settled = idle.settled; unpinned = idle.unpinned; unlisted = λ j x on. idle.unlisted j x ((touched-reordered these old new t).kept (member_at id j x) on) })

  pub touched-rest : LeavesRest old new
  touched-rest = rest-reordered old new (touched-reordered these old new t)

  pub touched-says : (schema : SchemaValue) (below : Below) → CacheSays schema below old → CacheSays schema below new
  touched-says schema below says = subst (CacheSays schema below) (sym t.same) says

  pub touched-entries : (entries : List (List ℕ × ℕ)) → AreEntries entries old → AreEntries entries new
  touched-entries entries are = entries-reordered old new (touched-reordered these old new t) entries are

pub no-lines : (lines : List OutLine) → length lines ≡ 0 → lines ≡ []
no-lines [] e = refl
no-lines (l ∷ lines) e = absurd (omega (arith, e))
