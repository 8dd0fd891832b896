-- What the object at a place is: its kind tells of which sort it is, and its bytes whether it is an end dummy.
use Rattle.std.proofs.Common.{◌≡◌, ◌≢◌, ◌⊎◌, ℕ, List, [], ◌∷◌, ◌++◌, Option, Some, None, inl, inr, refl, sym, ap, ◌∙◌, subst, arith}
use Rattle.std.specs.Prelude.{Contains, IsSome, IsSomeAnd}
use Rattle.lsa_kinds.specs.declared.kind.Kind.{Kind}
use Rattle.lsa_kinds.specs.declared.kind.Kind.TheVariants.{Dummy, RowEntry, Static}
use Rattle.lsa_region.specs.Region.{View, body}
use Rattle.lsa_store.specs.declared.place.Ref.{Ref}
use Rattle.rc_cell.specs.declared.rows.Row.{Row}
use Rattle.rc_position.specs.declared.positions.Pos.{Pos}
use Rattle.rc_rowcode.specs.Spelling.{IsPos, pos_code}
use Rattle.rc_rowcode.specs.laws.Codecs.{pos_codec}
use Rattle.rc_rowcode.specs.laws.Read.{one_spelling}
use Rattle.rc_core.specs.declared.entries.Entry.{Entry}
use Rattle.rc_core.specs.AtPlace.{HasEntryAt}
use Rattle.rc_core.specs.Version.{Ascend, EndsWithDummy, IsVersion, On, Version, end_position, finding_in}
use Rattle.rc_core.specs.laws.Placed.{ahead_of, not_end}
use Rattle.rc_core.specs.laws.Spots.{ascend-tail}
use Rattle.rc_core.specs.laws.Surgery.{seen-on}
use Rattle.rc_object.specs.Objects.{HoldsEntry, HoldsStatic, SpellsEntry, entry_kind}
use Rattle.rc_partition.specs.laws.Lists.{elem-cases, elem-none, elem-split}
use Rattle.rc_memory.specs.Memory.{KeptChain, Member, Memory, IsVersionAt, chain_at}
use Rattle.rc_memory.specs.Changes.{OfVersion}
use Rattle.rc_memory.specs.laws.Listed.{one-at}
use Rattle.rc_memory.specs.laws.Places.{same_some}
use Rattle.rc_evict.specs.declared.evicting.Evicted.{Evicted}
use Rattle.rc_evict.specs.declared.evicting.Evicted.TheVariants as sort
use Rattle.rc_evict.specs.Evictions.{IsSort}
use Rattle.rc_chain.specs.Held.{HoldsPlaced, IsHeldAt}
use Rattle.rc_evict.proofs.Together.{some-of}

-- ---- entries

has_of : (x : Pos) (es : List Entry) (y : Entry) → Contains es y → y.position ≡ x → HasEntryAt x es
has_of x [] y on is = absurd (elem-none y on)
has_of x (e ∷ es) y on is = elim (elem-cases e y es on) [
  | inl same ↦ inl (ap (λ (z : Entry). z.position) same ∙ is)
  | inr later ↦ inr (has_of x es y later is)
]

end_has : (es : List Entry) → EndsWithDummy es → HasEntryAt end_position es
end_has [] h = absurd h
end_has (e ∷ []) h = inl h.0
end_has (e ∷ f ∷ es) h = inr (end_has (f ∷ es) h)

-- an entry ahead of others is not at the end
pub ahead-inner : (e f : Entry) (es : List Entry) → Ascend (e ∷ f ∷ es) → EndsWithDummy (e ∷ f ∷ es) → e.position ≢ end_position
ahead-inner e f es a h = not_end e.position (ahead_of end_position e (f ∷ es) a (end_has (f ∷ es) h))

-- the entry at the end has no row
end_row : (es : List Entry) (y : Entry) → Ascend es → EndsWithDummy es → Contains es y → y.position ≡ end_position → y.row ≡ None
end_row [] y a h on is = absurd h
end_row (e ∷ []) y a h on is = elim (elem-cases e y [] on) [ inl same ↦ ap (λ (z : Entry). z.row) (sym same) ∙ h.1 | inr none ↦ absurd (elem-none y none) ]
end_row (e ∷ f ∷ es) y a h on is = elim (elem-cases e y (f ∷ es) on) [
  | inl same ↦ absurd (ahead-inner e f es a h (ap (λ (z : Entry). z.position) same ∙ is))
  | inr later ↦ end_row (f ∷ es) y (ascend-tail e (f ∷ es) a) h later is
]

-- what a version says at the position of an entry is its row
pub row-there : (v : Version) (y : Entry) (x : Pos) → IsVersion v → Contains v.entries y → y.position ≡ x → (finding_in (On x) v.entries).row ≡ y.row
row-there v y x i on is =
    let s = elem-split v.entries y on in
    subst (λ z. (finding_in (On z) v.entries).row ≡ y.row) is
    (subst (λ es. (finding_in (On y.position) es).row ≡ y.row) (sym s.2) (ap (λ f. f.row) (seen-on s.0 y s.1 (subst Ascend s.2 i.ascend))))

pub end-row : (v : Version) (y : Entry) → IsVersion v → Contains v.entries y → y.position ≡ end_position → y.row ≡ None
end-row v y i on is = end_row v.entries y i.ascend i.ends on is

-- ---- kinds

kind_of : (o : Option (Kind × List ℕ)) (kind : Kind) (e : Entry) → IsSomeAnd o (λ b. b.0 ≡ kind) → IsSomeAnd o (λ b. SpellsEntry b e) → kind ≡ entry_kind e.row
kind_of None kind e a b = absurd a
kind_of (Some x) kind e a b = sym a ∙ b.kind

some_body : {A : Type 0} (P : A → Type 0) (o : Option A) → IsSomeAnd o P → IsSome o
some_body P None h = absurd h
some_body P (Some x) h = refl

has_row : (o : Option Row) → RowEntry ≡ entry_kind o → IsSome o
has_row None e = cc e
has_row (Some row) e = refl

no_row : (o : Option Row) → Dummy ≡ entry_kind o → o ≡ None
no_row None e = refl
no_row (Some row) e = cc e

an_entry : (o : Option Row) (kind : Kind) → kind ≡ entry_kind o → (kind ≡ RowEntry) ⊎ (kind ≡ Dummy)
an_entry None kind e = inr e
an_entry (Some row) kind e = inl e

static_kind : (o : Option (Kind × List ℕ)) (code : List ℕ) (kind : Kind) → o ≡ Some (Static, code) → IsSomeAnd o (λ b. b.0 ≡ kind) → kind ≡ Static
static_kind o code kind e h = let k : Static ≡ kind = subst (λ (x : Option (Kind × List ℕ)). IsSomeAnd x (λ b. b.0 ≡ kind)) e h in sym k

-- ---- positions

some_pos : (o : Option (Kind × List ℕ)) (e : Entry) → IsSomeAnd o (λ b. SpellsEntry b e) → IsPos e.position
some_pos None e h = absurd h
some_pos (Some b) e h = h.position

end_pos : IsPos end_position
end_pos = (omega arith, tt)

pub code-end : (v : View) (r : Ref) (y : Entry) → HoldsEntry v r y → pos_code y.position ≡ pos_code end_position → y.position ≡ end_position
code-end v r y h same = (one_spelling pos_codec y.position end_position [] [] (some_pos (body v r) y h) end_pos (ap (λ l. l ++ []) same)).0

-- ---- an object at a place

module _ (m : Memory) (r : Ref) (w : Member) (held : IsHeldAt m r w) where
  abbrev of_one : (k : KeptChain) × (chain_at m w.chain ≡ Some k) × ((v : Version) × IsVersionAt k.chain.versions w.version v × HoldsPlaced m.region r w.position v)
  of_one = some-of (λ k. (v : Version) × IsVersionAt k.chain.versions w.version v × HoldsPlaced m.region r w.position v) (chain_at m w.chain) held

  -- whatever version that is
  pub holds-of : OfVersion m w.chain w.version (λ k v. HoldsPlaced m.region r w.position v)
  holds-of k v there number =
      let a = of_one in let same : a.0 ≡ k = same_some a.0 k (sym a.1 ∙ there) in
      subst (HoldsPlaced m.region r w.position) (one-at k.chain.versions w.version a.2.0 v (subst (λ (x : KeptChain). IsVersionAt x.chain.versions w.version a.2.0) same a.2.1) number) a.2.2

by_place : (P : Type 0) (at : Option Pos) → ((x : Pos) → at ≡ Some x → P) → (at ≡ None → P) → P
by_place P None f g = g refl
by_place P (Some x) f g = f x refl

placed_entry : (view : View) (r : Ref) (at : Option Pos) (x : Pos) (v : Version) → at ≡ Some x → HoldsPlaced view r at v → (y : Entry) × Contains v.entries y × (y.position ≡ x) × HoldsEntry view r y
placed_entry view r at x v e h = subst (λ z. HoldsPlaced view r z v) e h

placed_static : (view : View) (r : Ref) (at : Option Pos) (v : Version) → at ≡ None → HoldsPlaced view r at v → (row : Row) × (v.statics ≡ Some row) × HoldsStatic view r row
placed_static view r at v e h = subst (λ z. HoldsPlaced view r z v) e h

pub placed-body : (view : View) (r : Ref) (at : Option Pos) (v : Version) → HoldsPlaced view r at v → IsSome (body view r)
placed-body view r at v h = by_place (IsSome (body view r)) at
    (λ x e. let y = placed_entry view r at x v e h in some_body (λ b. SpellsEntry b y.0) (body view r) y.3)
    (λ e. let row = placed_static view r at v e h in subst (λ (o : Option (Kind × List ℕ)). IsSome o) (sym row.2.0) refl)

module _ (view : View) (r : Ref) (at : Option Pos) (v : Version) (i : IsVersion v) (h : HoldsPlaced view r at v) (kind : Kind) (is : IsSomeAnd (body view r) (λ b. b.0 ≡ kind)) where
  entry_here : (x : Pos) → at ≡ Some x → (y : Entry) × Contains v.entries y × (y.position ≡ x) × HoldsEntry view r y × (kind ≡ entry_kind y.row)
  entry_here x e = let y = placed_entry view r at x v e h in (y.0, y.1, y.2, y.3, kind_of (body view r) kind y.0 is y.3)

  static_here : at ≡ None → kind ≡ Static
  static_here e = let row = placed_static view r at v e h in static_kind (body view r) _ kind row.2.0 is

  pub sort-row : kind ≡ RowEntry → IsSort sort.Row at v
  sort-row k = by_place (IsSort sort.Row at v) at
      (λ x e. let y = entry_here x e in let row : IsSome y.0.row = has_row y.0.row (sym k ∙ y.4) in (
        x,
        e,
        (λ end. let none : y.0.row ≡ None = end-row v y.0 i y.1 (y.2 ∙ end) in let u : IsSome {T = Row} None = subst (λ (o : Option Row). IsSome o) none row in cc u),
        subst (λ (o : Option Row). IsSome o) (sym (row-there v y.0 x i y.1 y.2)) row,
      ))
      (λ e. let clash : RowEntry ≡ Static = sym k ∙ static_here e in absurd (cc clash))

  pub sort-static : (kind ≡ RowEntry → ⊥) → (kind ≡ Dummy → ⊥) → IsSort sort.Static at v
  sort-static no_entry no_dummy = by_place (at ≡ None) at
      (λ x e. let y = entry_here x e in elim (an_entry y.0.row kind y.4) [ inl k ↦ absurd (no_entry k) | inr k ↦ absurd (no_dummy k) ])
      (λ e. e)

  -- a dummy, by the code of its position
  module _ (k : kind ≡ Dummy) (code : List ℕ) (told : (y : Entry) → HoldsEntry view r y → code ≡ pos_code y.position) where
    pub sort-end : code ≡ pos_code end_position → IsSort sort.EndDummy at v
    sort-end same = by_place (at ≡ Some end_position) at
        (λ x e. let y = entry_here x e in e ∙ ap (λ z. Some z) (sym y.2 ∙ code-end view r y.0 y.3 (sym (told y.0 y.3) ∙ same)))
        (λ e. let clash : Dummy ≡ Static = sym k ∙ static_here e in absurd (cc clash))

    pub sort-inner : (code ≡ pos_code end_position → ⊥) → IsSort sort.Dummy at v
    sort-inner other = by_place (IsSort sort.Dummy at v) at
        (λ x e. let y = entry_here x e in
        (x, e, (λ end. other (told y.0 y.3 ∙ ap pos_code (y.2 ∙ end))), row-there v y.0 x i y.1 y.2 ∙ no_row y.0.row (sym k ∙ y.4)))
        (λ e. let clash : Dummy ≡ Static = sym k ∙ static_here e in absurd (cc clash))

    pub sort-dummy : (told_sort : Evicted) → (told_sort ≡ sort.EndDummy → code ≡ pos_code end_position) → (told_sort ≡ sort.Dummy → code ≡ pos_code end_position → ⊥) → (told_sort ≡ sort.EndDummy) ⊎ (told_sort ≡ sort.Dummy) → IsSort told_sort at v
    sort-dummy told_sort end inner only = elim only [
      | inl e ↦ subst (λ s. IsSort s at v) (sym e) (sort-end (end e))
      | inr e ↦ subst (λ s. IsSort s at v) (sym e) (sort-inner (inner e))
    ]

  -- where it is a dummy, it holds an entry
  pub dummy-entry : kind ≡ Dummy → (y : Entry) × HoldsEntry view r y
  dummy-entry k = by_place ((y : Entry) × HoldsEntry view r y) at
      (λ x e. let y = entry_here x e in (y.0, y.3))
      (λ e. let clash : Dummy ≡ Static = sym k ∙ static_here e in absurd (cc clash))

-- ---- the sort of an object

pub held-body : (m : Memory) (r : Ref) (w : Member) (view : View) → view ≡ m.region → IsHeldAt m r w → IsSome (body view r)
held-body m r w view same held =
    let a = some-of (λ k. (v : Version) × IsVersionAt k.chain.versions w.version v × HoldsPlaced m.region r w.position v) (chain_at m w.chain) held in
    subst (λ (z : View). IsSome (body z r)) (sym same) (placed-body m.region r w.position a.2.0 a.2.2)

module _ (m : Memory) (r : Ref) (w : Member) (view : View) (same : view ≡ m.region) (held : IsHeldAt m r w) (versions : (id j : ℕ) → OfVersion m id j (λ k v. IsVersion v)) (kind : Kind) (is : IsSomeAnd (body view r) (λ b. b.0 ≡ kind)) where
  here : IsSomeAnd (body m.region r) (λ b. b.0 ≡ kind)
  here = subst (λ (z : View). IsSomeAnd (body z r) (λ b. b.0 ≡ kind)) same is

  pub held-row : kind ≡ RowEntry → OfVersion m w.chain w.version (λ k v. IsSort sort.Row w.position v)
  held-row e k v there number = sort-row m.region r w.position v (versions w.chain w.version k v there number) (holds-of m r w held k v there number) kind here e

  pub held-static : (kind ≡ RowEntry → ⊥) → (kind ≡ Dummy → ⊥) → OfVersion m w.chain w.version (λ k v. IsSort sort.Static w.position v)
  held-static row dummy k v there number = sort-static m.region r w.position v (versions w.chain w.version k v there number) (holds-of m r w held k v there number) kind here row dummy

  pub held-dummy : kind ≡ Dummy → (code : List ℕ) → ((y : Entry) → HoldsEntry view r y → code ≡ pos_code y.position) → (told : Evicted) → (told ≡ sort.EndDummy → code ≡ pos_code end_position) → (told ≡ sort.Dummy → code ≡ pos_code end_position → ⊥) → (told ≡ sort.EndDummy) ⊎ (told ≡ sort.Dummy)
      → OfVersion m w.chain w.version (λ k v. IsSort told w.position v)
  held-dummy e code says told end inner only k v there number =
      sort-dummy m.region r w.position v (versions w.chain w.version k v there number) (holds-of m r w held k v there number) kind here e code
      (λ y h. says y (subst (λ (z : View). HoldsEntry z r y) (sym same) h)) told end inner only

  pub held-entry : kind ≡ Dummy → (y : Entry) × HoldsEntry view r y
  held-entry e =
      let a = of_one m r w held in
      let y = dummy-entry m.region r w.position a.2.0 (versions w.chain w.version a.0 a.2.0 a.1 a.2.1) a.2.2 kind here e in
      (y.0, subst (λ (z : View). HoldsEntry z r y.0) (sym same) y.1)
