-- The end dummy of a version, the last entry before it, and whether an object is listed.
use Rattle.std.proofs.Common.{◌≡◌, ℕ, List, [], ◌∷◌, ◌++◌, Option, Some, None, IsTrue, is_some, true, false, ◌↔◌, inl, inr, refl, sym, ap, ◌∙◌, subst, arith}
use Rattle.std.specs.Prelude.{Contains, IfNone, IfSome, ◌⊎◌}
use Rattle.rc_position.specs.declared.positions.Pos.{Pos}
use Rattle.lsa_store.specs.declared.place.Ref.{Ref}
use Rattle.lsa_region.specs.declared.end.End.{End}
use Rattle.lsa_region.specs.declared.end.End.TheVariants.{Obj}
use Rattle.lsa_region.specs.Region.{View, link_of}
use Rattle.lsa_list.specs.declared.recency.List.{List as Slots}
use Rattle.lsa_list.specs.laws.Lists.{listed-set}
use Rattle.lsa_tree.specs.Entries.{AreAscending, IsEntryAtPosition}
use Rattle.lsa_tree.specs.Search.{last_entry, last_entry_from}
use Rattle.lsa_tree.specs.laws.Found.{at-once}
use Rattle.lsa_tree.specs.laws.Orders.{ascending-split}
use Rattle.rc_core.specs.AtPlace.{HasEntryAt}
use Rattle.rc_core.specs.declared.entries.Entry.{Entry}
use Rattle.rc_core.specs.Version.{EndsWithDummy, Version, end_position}
use Rattle.rc_object.specs.Objects.{HoldsEntry}
use Rattle.rc_version.specs.Versions.{HoldEntries, IsStaticRowFound, IsVersionOf}
use Rattle.rc_version.specs.laws.Objects.{holds-stands}
use Rattle.rc_memory.specs.Lists.{elem-here, elem-split}
use Rattle.rc_registry.specs.Registry.{Registry}
use Rattle.rc_memory.specs.declared.counts.Counts.{Counts}
use Rattle.rc_memory.specs.Memory.{KeptChain, Member, Memory, HasVersion, IsMemberObject, IsVersionAt, IsVersionObject, chain_at}
use Rattle.rc_memory.specs.Changes.{OfVersion, member_at}
use Rattle.rc_memory.specs.laws.At.{found-version}
use Rattle.rc_memory.specs.laws.Listed.{one-at}
use Rattle.rc_memory.specs.laws.Places.{same_some}
use Rattle.rc_recency.specs.Holding.{IsHeldVersion}
use Rattle.rc_recency.specs.laws.Held.{own-member, standing-as, stands}
use Rattle.rc_memory.specs.Recency.{IsLastInner}
use Rattle.rc_memory.specs.Kept.{HoldMemory}
use Rattle.rc_memory.specs.laws.Listed.{list-at, unlisted-at}
use Rattle.rc_memory.specs.laws.Listing.{listed-decided}
use Rattle.rc_chain.specs.Lives.{IsEndAlone}
use Rattle.rc_chain.proofs.Reading.{at-place}

-- ---- lists

pub ends-split : (es : List Entry) → EndsWithDummy es → (fs : List Entry) × (e : Entry) × (es ≡ fs ++ (e ∷ [])) × (e.position ≡ end_position) × (e.row ≡ None)
ends-split [] h = absurd h
ends-split (e ∷ []) h = ([], e, refl, h.0, h.1)
ends-split (e ∷ f ∷ es) h = let rest = ends-split (f ∷ es) h in (e ∷ rest.0, rest.1, ap (λ l. e ∷ l) rest.2, rest.3, rest.4)

-- objects that hold entries are split as the entries are
pub held-split : (v : View) (refs : List Ref) (es : List Entry) (e : Entry) (fs : List Entry) → HoldEntries v refs (es ++ (e ∷ fs)) → (rs : List Ref) × (r : Ref) × (qs : List Ref) × (refs ≡ rs ++ (r ∷ qs)) × HoldEntries v rs es × HoldsEntry v r e × HoldEntries v qs fs
held-split v [] [] e fs h = absurd h
held-split v (r ∷ refs) [] e fs h = ([], r, refs, refl, tt, h.0, h.1)
held-split v [] (x ∷ es) e fs h = absurd h
held-split v (r ∷ refs) (x ∷ es) e fs h = let k = held-split v refs es e fs h.1 in (r ∷ k.0, k.1, k.2, ap (λ l. r ∷ l) k.3, (h.0, k.4), k.5, k.6)

none-held : (v : View) (refs : List Ref) → HoldEntries v refs [] → refs ≡ []
none-held v [] h = refl
none-held v (r ∷ refs) h = absurd h

-- entries are split as the objects that hold them are
pub holding-split : (v : View) (rs : List Ref) (r : Ref) (qs : List Ref) (es : List Entry) → HoldEntries v (rs ++ (r ∷ qs)) es → (fs : List Entry) × (e : Entry) × (gs : List Entry) × (es ≡ fs ++ (e ∷ gs)) × HoldEntries v rs fs × HoldsEntry v r e × HoldEntries v qs gs
holding-split v [] r qs [] h = absurd h
holding-split v [] r qs (e ∷ es) h = ([], e, es, refl, tt, h.0, h.1)
holding-split v (q ∷ rs) r qs [] h = absurd h
holding-split v (q ∷ rs) r qs (e ∷ es) h = let k = holding-split v rs r qs es h.1 in (e ∷ k.0, k.1, k.2, ap (λ l. e ∷ l) k.3, (h.0, k.4), k.5, k.6)

last-from : (o : Option Ref) (xs : List Ref) (q : Ref) → last_entry_from o xs ≡ Some q → ((ys : List Ref) × (xs ≡ ys ++ (q ∷ []))) ⊎ ((xs ≡ []) × (o ≡ Some q))
last-from o [] q e = inr (refl, e)
last-from o (x ∷ xs) q e = elim (last-from (Some x) xs q e) [
  | inl more ↦ inl (x ∷ more.0, ap (λ l. x ∷ l) more.1)
  | inr none ↦ inl ([], λ i. some-is x q none.1 i ∷ none.0 i)
] where
  some-is : (a b : Ref) → Some a ≡ Some b → a ≡ b
  some-is a b h = cc h

pub last-some : (xs : List Ref) (q : Ref) → last_entry xs ≡ Some q → (ys : List Ref) × (xs ≡ ys ++ (q ∷ []))
last-some xs q e = elim (last-from None xs q e) [
  | inl more ↦ more
  | inr none ↦ absurd (never none.1)
] where
  never : None ≡ Some q → ⊥
  never h = cc h

never-none : (x : Ref) (xs : List Ref) → last_entry_from (Some x) xs ≡ None → ⊥
never-none x [] e = cc e
never-none x (y ∷ xs) e = never-none y xs e

pub last-none : (xs : List Ref) → last_entry xs ≡ None → xs ≡ []
last-none [] e = refl
last-none (x ∷ xs) e = absurd (never-none x xs e)

-- ---- the end dummy

pub has-end : (c : Version) → EndsWithDummy c.entries → HasEntryAt end_position c.entries
has-end c h = of c.entries h
  where
    of : (es : List Entry) → EndsWithDummy es → HasEntryAt end_position es
    of [] h = absurd h
    of (e ∷ []) h = inl h.0
    of (e ∷ f ∷ es) h = inr (of (f ∷ es) h)

-- the objects of a version end with that of its end dummy
pub end-held : (v : View) (n : Ref) (refs : List Ref) (c : Version) → IsVersionOf v n refs c → (front : List Ref) × (r : Ref) × (refs ≡ front ++ (r ∷ [])) × IsEntryAtPosition v r end_position
end-held v n refs c h =
    let e = ends-split c.entries h.version.ends in let k = held-split v refs e.0 e.1 [] (subst (HoldEntries v refs) e.2 h.entries) in
    (k.0, k.1, k.3 ∙ ap (λ l. k.0 ++ (k.1 ∷ l)) (none-held v k.2 k.6), subst (IsEntryAtPosition v k.1) e.3 (holds-stands v k.1 e.1 k.5))

-- what stands at the end is the last one
pub end-last : (v : View) (n : Ref) (refs : List Ref) (c : Version) → IsVersionOf v n refs c → (r : Ref) → Contains refs r → IsEntryAtPosition v r end_position → (front : List Ref) × (refs ≡ front ++ (r ∷ [])) × IsEntryAtPosition v r end_position
end-last v n refs c h r on at =
    let k = end-held v n refs c h in
    let same = at-once v end_position k.0 [] k.1 r (subst (λ l. Contains l r) k.2 on) (ascending-split v k.0 [] k.1 end_position k.3 (subst (λ l. AreAscending v l) k.2 h.tree.ascending)) at in
    (k.0, k.2 ∙ ap (λ x. k.0 ++ (x ∷ [])) same, at)

-- ---- whether an object is listed

module _ (slots : Slots) (v : View) (registry : Registry) (counts : Counts) (m : Memory) (h : HoldMemory slots v registry counts m) (r : Ref) (w : Member) (here : IsMemberObject m r w) where
  pub off-list : link_of v (Obj r 0) ≡ None → Contains m.recency w → ⊥
  off-list unset on =
      let k = elem-split m.recency w on in let l = list-at slots v registry counts m h k.0 w k.1 r k.2 (at-place slots v registry counts m h r w here) in
      (listed-set slots v h.well l.0 l.1 r l.2 (Obj r 0) unset).0 refl

  pub set-listed : (e : End) → link_of v (Obj r 0) ≡ Some e → Contains m.recency w
  set-listed e is = elim (listed-decided m.recency w) [
    | inl on ↦ on
    | inr off ↦ absurd (let clash : None ≡ Some e = sym (unlisted-at slots v registry counts m h r w (at-place slots v registry counts m h r w here) off 0 (omega arith)) ∙ is in cc)
  ]

  pub listed-either : (o : Option End) → link_of v (Obj r 0) ≡ o → IsTrue (is_some o) ↔ Contains m.recency w
  listed-either None e = ((λ t. cc t), (λ on. absurd (off-list e on)))
  listed-either (Some x) e = ((λ t. set-listed x e), (λ on. refl))

-- ---- a version of a chain, as it is held

module _ (slots : Slots) (v : View) (registry : Registry) (counts : Counts) (m : Memory) (h : HoldMemory slots v registry counts m) (id j : ℕ) (n : Ref) (has : HasVersion m id j) (object : IsVersionObject m id j n) where
  pub held-version : (k : KeptChain) × (c : Version) × IsHeldVersion slots v registry counts m id j k c n
  held-version = let a = found-version m id j has in (a.0, a.1, record { held = h; chain = a.2; number = a.3; object = object })

  -- its objects
  pub held-whole : (refs : List Ref) × (c : Version) × IsVersionOf v n refs c
  held-whole = let a = held-version in ((standing-as slots v registry counts m id j a.0 a.1 n a.2).entries, a.1, stands slots v registry counts m id j a.0 a.1 n a.2)

  -- the end dummy at its place
  pub end-member : (r : Ref) → ((refs : List Ref) (c : Version) → IsVersionOf v n refs c → (front : List Ref) × (refs ≡ front ++ (r ∷ [])) × IsEntryAtPosition v r end_position) → IsMemberObject m r (member_at id j (Some end_position))
  unfolding held-whole
  end-member r told =
      let a = held-version in let w = held-whole in let e = told w.0 w.1 w.2 in
      own-member slots v registry counts m id j a.0 a.1 n a.2 (Some end_position) r (subst (λ l. Contains l r) (sym e.1) (elem-here e.0 [] r), e.2)

  -- the last entry before it
  pub inner-some : (r q : Ref) → ((refs : List Ref) (c : Version) → IsVersionOf v n refs c → (front : List Ref) × (refs ≡ front ++ (r ∷ [])) × IsEntryAtPosition v r end_position)
      → ((front back : List Ref) (c : Version) → IsVersionOf v n (front ++ (r ∷ back)) c → last_entry front ≡ Some q) → (x : Pos) × IsMemberObject m q (member_at id j (Some x)) × OfVersion m id j (λ k c. IsLastInner c (Some x))
  unfolding held-whole
  inner-some r q told before =
      let a = held-version in let w = held-whole in let e = told w.0 w.1 w.2 in
      let is : IsVersionOf v n (e.0 ++ (r ∷ [])) w.1 = subst (λ l. IsVersionOf v n l w.1) e.1 w.2 in
      let l = last-some e.0 q (before e.0 [] w.1 is) in
      let k = holding-split v l.0 q (r ∷ []) w.1.entries (subst (λ z. HoldEntries v z w.1.entries) (ap (λ z. z ++ (r ∷ [])) l.1 ∙ joined l.0 q r) is.entries) in
      let f = holding-split v [] r [] k.2 k.6 in let last : k.2 ≡ f.1 ∷ [] = f.3 ∙ alone f.0 f.1 f.2 f.4 f.6 in
      let entries : w.1.entries ≡ k.0 ++ (k.1 ∷ f.1 ∷ []) = k.3 ∙ ap (λ z. k.0 ++ (k.1 ∷ z)) last in (
        k.1.position,
        own-member slots v registry counts m id j a.0 a.1 n a.2 (Some k.1.position) q
            (subst (λ z. Contains z q) (sym (e.1 ∙ ap (λ z. z ++ (r ∷ [])) l.1 ∙ joined l.0 q r)) (elem-here l.0 (r ∷ []) q), holds-stands v q k.1 k.5),
        λ k' c' chain' at'. (k.0, k.1, f.1, subst (λ (z : Version). z.entries ≡ k.0 ++ (k.1 ∷ f.1 ∷ [])) (one-of id j a.0 k' a.1 c' a.2.chain chain' a.2.number at') entries, refl),
      )
    where
      joined : (xs : List Ref) (x y : Ref) → (xs ++ (x ∷ [])) ++ (y ∷ []) ≡ xs ++ (x ∷ y ∷ [])
      joined [] x y = refl
      joined (z ∷ xs) x y = ap (λ l. z ∷ l) (joined xs x y)

      alone : (fs : List Entry) (e : Entry) (gs : List Entry) → HoldEntries v [] fs → HoldEntries v [] gs → fs ++ (e ∷ gs) ≡ e ∷ []
      alone [] e [] a b = refl
      alone [] e (g ∷ gs) a b = absurd b
      alone (f ∷ fs) e gs a b = absurd a

      one-of : (id j : ℕ) (k k' : KeptChain) (c c' : Version) → chain_at m id ≡ Some k → chain_at m id ≡ Some k' → IsVersionAt k.chain.versions j c → IsVersionAt k'.chain.versions j c' → c ≡ c'
      one-of id j k k' c c' e e' at at' = one-at k.chain.versions j c c' at (subst (λ (z : KeptChain). IsVersionAt z.chain.versions j c') (same_some k' k (sym e' ∙ e)) at')

  pub inner-none : (r : Ref) → ((refs : List Ref) (c : Version) → IsVersionOf v n refs c → (front : List Ref) × (refs ≡ front ++ (r ∷ [])) × IsEntryAtPosition v r end_position)
      → ((front back : List Ref) (c : Version) → IsVersionOf v n (front ++ (r ∷ back)) c → last_entry front ≡ None) → OfVersion m id j (λ k c. (at : Option Pos) → IsLastInner c at → ⊥)
  unfolding held-version held-whole
  inner-none r told before = λ k' c' chain' at' at last.
      let a = held-version in let w = held-whole in let e = told w.0 w.1 w.2 in
      let is : IsVersionOf v n (e.0 ++ (r ∷ [])) w.1 = subst (λ l. IsVersionOf v n l w.1) e.1 w.2 in
      let none = last-none e.0 (before e.0 [] w.1 is) in
      let held : HoldEntries v (r ∷ []) w.1.entries = subst (λ z. HoldEntries v (z ++ (r ∷ [])) w.1.entries) none is.entries in
      let same : a.1 ≡ c' = one-at a.0.chain.versions j a.1 c' a.2.number (subst (λ (z : KeptChain). IsVersionAt z.chain.versions j c') (same_some k' a.0 (sym chain' ∙ a.2.chain)) at') in
      two-held r last.0 last.1 last.2 (subst (HoldEntries v (r ∷ [])) (ap (λ (z : Version). z.entries) same ∙ last.3) held)
    where
      two-held : (r : Ref) (fs : List Entry) (e f : Entry) → HoldEntries v (r ∷ []) (fs ++ (e ∷ f ∷ [])) → ⊥
      two-held r [] e f h = h.1
      two-held r (g ∷ []) e f h = h.1
      two-held r (g ∷ g' ∷ fs) e f h = h.1

  pub inner-either : (r : Ref) → ((refs : List Ref) (c : Version) → IsVersionOf v n refs c → (front : List Ref) × (refs ≡ front ++ (r ∷ [])) × IsEntryAtPosition v r end_position) → (o : Option Ref)
      → ((front back : List Ref) (c : Version) → IsVersionOf v n (front ++ (r ∷ back)) c → last_entry front ≡ o)
      → IfSome o (λ q. (x : Pos) × IsMemberObject m q (member_at id j (Some x)) × OfVersion m id j (λ k c. IsLastInner c (Some x))) × IfNone o (OfVersion m id j (λ k c. (at : Option Pos) → IsLastInner c at → ⊥))
  inner-either r told None before = (tt, inner-none r told before)
  inner-either r told (Some q) before = (inner-some r q told before, tt)

last-split : (fs : List Entry) → (fs ≡ []) ⊎ ((gs : List Entry) × (g : Entry) × (fs ≡ gs ++ (g ∷ [])))
last-split [] = inl refl
last-split (f ∷ fs) = elim (last-split fs) [
  | inl none ↦ inr ([], f, ap (λ l. f ∷ l) none)
  | inr more ↦ inr (f ∷ more.0, more.1, ap (λ l. f ∷ l) more.2)
]

joined-two : (gs : List Entry) (g e : Entry) → (gs ++ (g ∷ [])) ++ (e ∷ []) ≡ gs ++ (g ∷ e ∷ [])
joined-two [] g e = refl
joined-two (f ∷ gs) g e = ap (λ l. f ∷ l) (joined-two gs g e)

-- where there is neither a static row nor an entry before the end, the end dummy alone is left
pub bare-is : (c : Version) → EndsWithDummy c.entries → c.statics ≡ None → ((at : Option Pos) → IsLastInner c at → ⊥) → IsEndAlone c
bare-is c ends statics none =
    let e = ends-split c.entries ends in record {
      statics = statics;
      alone = (
        e.1,
        e.2 ∙ ap (λ l. l ++ (e.1 ∷ [])) (elim (last-split e.0) [
          | inl empty ↦ empty
          | inr more ↦ absurd (none (Some more.1.position) (more.0, more.1, e.1, e.2 ∙ ap (λ l. l ++ (e.1 ∷ [])) more.2 ∙ joined-two more.0 more.1 e.1, refl))
        ]),
      );
    }

static-same : (v : View) (c : Version) (row : Option Ref) → IsStaticRowFound v c row → is_some row ≡ is_some c.statics
static-same v c None h = sym (ap is_some h)
static-same v c (Some r) h = sym (ap is_some h.1)

pub no-statics : (c : Version) → is_some c.statics ≡ false → c.statics ≡ None
no-statics c off = of c.statics off
  where
    of : {X : Type 0} (o : Option X) → is_some o ≡ false → o ≡ None
    of None e = refl
    of (Some x) e = cc e

pub some-inner : (o : Option Ref) (P : Ref → Type 0) → IfSome o P → is_some o ≡ true → (r : Ref) × P r
some-inner None P h e = cc e
some-inner (Some r) P h e = (r, h)

pub none-inner : (o : Option Ref) (P : Type 0) → IfNone o P → is_some o ≡ false → P
none-inner None P h e = h
none-inner (Some r) P h e = cc e

module _ (slots : Slots) (v : View) (registry : Registry) (counts : Counts) (m : Memory) (h : HoldMemory slots v registry counts m) (id j : ℕ) (n : Ref) (has : HasVersion m id j) (object : IsVersionObject m id j n)
    (row : Option Ref) (told : (refs : List Ref) (c : Version) → IsVersionOf v n refs c → IsStaticRowFound v c row) where
  -- what is told of the static row is told of the version of the chain
  static-told : OfVersion m id j (λ k c. IsStaticRowFound v c row)
  static-told k' c' chain' at' =
      let a = held-version slots v registry counts m h id j n has object in
      let same : a.1 ≡ c' = one-at a.0.chain.versions j a.1 c' a.2.number (subst (λ (z : KeptChain). IsVersionAt z.chain.versions j c') (same_some k' a.0 (sym chain' ∙ a.2.chain)) at') in
      subst (λ c. IsStaticRowFound v c row) same (told (standing-as slots v registry counts m id j a.0 a.1 n a.2).entries a.1 (stands slots v registry counts m id j a.0 a.1 n a.2))

  pub static-there : OfVersion m id j (λ k c. is_some row ≡ is_some c.statics)
  static-there k c e at = static-same v c row (static-told k c e at)
