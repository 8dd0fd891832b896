-- What is in the recency list: after an object was made, and of the version under update.
use Rattle.std.proofs.Common.{◌≡◌, ◌≢◌, ◌⊎◌, ℕ, true, false, List, [], ◌∷◌, ◌++◌, Option, Some, None, IsSome, inl, inr, refl, sym, ap, ◌∙◌, subst}
use Rattle.std.specs.Prelude.{Contains, IfSome, IsSomeAnd}
use Rattle.rc_position.specs.declared.positions.Pos.{Pos}
use Rattle.rc_position.specs.Position.{IsBefore}
use Rattle.rc_cell.specs.declared.rows.Row.{Row}
use Rattle.rc_core.specs.declared.entries.ChainKind.{ChainKind}
use Rattle.rc_core.specs.declared.entries.ChainKind.TheVariants.{Cache, Memtable}
use Rattle.rc_core.specs.declared.entries.Entry.{Entry}
use Rattle.rc_core.specs.AtPlace.{HasEntryAt}
use Rattle.rc_core.specs.Change.{gap_split}
use Rattle.rc_core.specs.Continuity.{with_entries}
use Rattle.rc_core.specs.Steps.{row_joined}
use Rattle.rc_core.specs.Version.{Ascend, EndsWithDummy, IsVersion, Version, end_position}
use Rattle.rc_core.specs.laws.Spots.{ascend-tail}
use Rattle.rc_partition.specs.laws.Lists.{elem-cases, elem-first, elem-here, elem-left, elem-none, elem-replaced}
use Rattle.rc_memory.specs.Memory.{KeptChain, Member, Memory, HasVersion, chain_at}
use Rattle.rc_memory.specs.Kept.{IsSoundChain}
use Rattle.rc_memory.specs.Changes.{IsRenewed, IsRenewedWhereNone, KeepsLast, LastIsListed, OfVersion, member_at}
use Rattle.rc_memory.specs.Recency.{HasObject, IsLastInner, IsUnderUpdate, MayBeListed, MustBeListed}
use Rattle.rc_memory.specs.laws.At.{found-version}
use Rattle.rc_memory.specs.laws.Entries.{before-differs, only-joined, split-has}
use Rattle.rc_memory.specs.laws.Listing.{listed-decided, pos_decided}
use Rattle.rc_memory.specs.laws.Places.{same_some}
use Rattle.rc_memory.specs.laws.Renewed.{without-still}
use Rattle.rc_chain_guarded.specs.Guarded.{IsListedWhole}
use Rattle.rc_chain_guarded.specs.calls.Inner.{IsLastListed}
use Rattle.rc_chain_guarded.proofs.Steps.{KeepsEntries, KeepsListed, from-if, from-some, to-if, to-some}

-- ---- an object was made

module _ (w : Member) (old new : List Member) where
  pub renewed-more : (kind : ChainKind) → IsRenewed kind w old new → (x : Member) → Contains old x → Contains new x
  renewed-more Memtable is x on = subst (λ l. Contains l x) (sym is) on
  renewed-more Cache is x on = subst (λ l. Contains l x) (sym is.2) (elim (listed-decided (w ∷ []) x) [
    | inl this ↦ elim (elem-cases w x [] this) [ inl same ↦ subst (Contains (is.0 ++ (w ∷ []))) same (elem-here is.0 [] w) | inr none ↦ absurd (elem-none x none) ]
    | inr other ↦ elem-left is.0 (w ∷ []) x (without-still w old is.0 is.1 x (λ e. other (subst (Contains (w ∷ [])) e (elem-first w []))) on)
  ])

  pub renewed-here : (kind : ChainKind) → kind ≡ Cache → IsRenewed kind w old new → Contains new w
  renewed-here kind cached is = let k = subst (λ c. IsRenewed c w old new) cached is in subst (λ l. Contains l w) (sym k.2) (elem-here k.0 [] w)

pub has-decided : (x : Pos) (es : List Entry) → HasEntryAt x es ⊎ (HasEntryAt x es → ⊥)
has-decided x [] = inr (λ h. h)
has-decided x (e ∷ es) = elim (pos_decided e.position x) [
  | inl here ↦ inl (inl here)
  | inr ne ↦ elim (has-decided x es) [ inl later ↦ inl (inr later) | inr none ↦ inr (λ h. elim h [ inl here ↦ ne here | inr later ↦ none later ]) ]
]

some_decided : (o : Option Row) → IsSome o ⊎ (IsSome o → ⊥)
some_decided None = inr (λ h. cc h)
some_decided (Some row) = inl refl

object-decided : (v : Version) (at : Option Pos) → HasObject v at ⊎ (HasObject v at → ⊥)
object-decided v None = some_decided v.statics
object-decided v (Some x) = has-decided x v.entries

pub where_none-more : (kind : ChainKind) (v : Version) (w : Member) (old new : List Member) → IsRenewedWhereNone kind v w old new → (x : Member) → Contains old x → Contains new x
where_none-more kind v w old new is x on = elim (object-decided v w.position) [
  | inl there ↦ subst (λ l. Contains l x) (sym (is.there there)) on
  | inr none ↦ renewed-more w old new kind (is.made none) x on
]

-- ---- of a version

module _ (m n : Memory) (id j : ℕ) (there : HasVersion m id j) where
  -- what was listed is still, and the entries are as they were or listed
  module _ (sound : (i : ℕ) → IfSome (chain_at m i) (λ k. IsSoundChain k.chain)) where
    cached : (k : KeptChain) → chain_at m id ≡ Some k → IsUnderUpdate k.chain j → k.chain.kind ≡ Cache
    cached k at u = (from-if (λ (k : KeptChain). IsSoundChain k.chain) (chain_at m id) k (sound id) at).cached u.0

    module _ (x : Pos) (renewed : OfVersion m id j (λ k v. IsRenewedWhereNone k.chain.kind v (member_at id j (Some x)) m.recency n.recency)) where
      pub split-listed : KeepsListed m n
      split-listed i l y inner on = let k = found-version m id j there in where_none-more k.0.chain.kind k.1 (member_at id j (Some x)) m.recency n.recency (renewed k.0 k.1 k.2 k.3) (member_at i l (Some y)) on

      pub split-only : KeepsEntries id j (λ (c : Version). with_entries (gap_split x c.entries) c) m n
      split-only k v y at number on = elim (split-has x y v.entries on) [
        | inl old ↦ inl old
        | inr same ↦ elim (has-decided x v.entries) [
          | inl old ↦ inl (subst (λ z. HasEntryAt z v.entries) (sym same) old)
          | inr none ↦ inr (λ u. subst (λ z. Contains n.recency (member_at id j (Some z))) (sym same)
              (renewed-here (member_at id j (Some x)) m.recency n.recency k.chain.kind (cached k at u) ((renewed k v at number).made none)))
        ]
      ]

    module _ (x : Pos) (row : Row) (renewed : OfVersion m id j (λ k v. IsRenewed k.chain.kind (member_at id j (Some x)) m.recency n.recency)) where
      pub joined-only : KeepsEntries id j (row_joined x row) m n
      joined-only k v y at number on = elim (only-joined v x row (Some y) on) [
        | inl old ↦ inl old
        | inr same ↦ inr (λ u. subst (λ (z : Option Pos). Contains n.recency (member_at id j z)) (sym same) (renewed-here (member_at id j (Some x)) m.recency n.recency k.chain.kind (cached k at u) (renewed k v at number)))
      ]

  module _ (at : Option Pos) (renewed : OfVersion m id j (λ k v. IsRenewed k.chain.kind (member_at id j at) m.recency n.recency)) where
    pub renewed-listed : KeepsListed m n
    renewed-listed i l y inner on = let k = found-version m id j there in renewed-more (member_at id j at) m.recency n.recency k.0.chain.kind (renewed k.0 k.1 k.2 k.3) (member_at i l (Some y)) on

-- ---- the last entry before the end

last_has : (front : List Entry) (e end : Entry) → HasEntryAt e.position (front ++ (e ∷ end ∷ []))
last_has [] e end = inl refl
last_has (f ∷ front) e end = inr (last_has front e end)

last_before : (front : List Entry) (e end : Entry) → Ascend (front ++ (e ∷ end ∷ [])) → IsBefore e.position end.position
last_before [] e end a = a.0
last_before (f ∷ front) e end a = last_before front e end (ascend-tail f (front ++ (e ∷ end ∷ [])) a)

last_end : (front : List Entry) (e end : Entry) → EndsWithDummy (front ++ (e ∷ end ∷ [])) → end.position ≡ end_position
last_end [] e end h = h.0
last_end (f ∷ []) e end h = h.0
last_end (f ∷ g ∷ front) e end h = last_end (g ∷ front) e end h

last_inner : (v : Version) (at : Option Pos) → IsVersion v → IsLastInner v at → (x : Pos) × (at ≡ Some x) × HasEntryAt x v.entries × (x ≢ end_position)
last_inner v at is l = (
  l.1.position,
  l.4,
  subst (HasEntryAt l.1.position) (sym l.3) (last_has l.0 l.1 l.2),
  λ e. before-differs l.1.position l.2.position (last_before l.0 l.1 l.2 (subst Ascend l.3 is.ascend)) (e ∙ sym (last_end l.0 l.1 l.2 (subst EndsWithDummy l.3 is.ends))),
)

module _ (m : Memory) (id : ℕ) (versions : (i l : ℕ) → OfVersion m i l (λ k v. IsVersion v)) where
  pub full-last : IfSome (chain_at m id) (IsListedWhole id m.recency) → LastIsListed id m
  full-last full k j v at there u number l =
      let e = last_inner v at (versions id j k v there number) l in subst (λ a. Contains m.recency (member_at id j a)) (sym e.1) (from-if (IsListedWhole id m.recency) (chain_at m id) k full there j v e.0 u number e.2 e.3)

-- so its last entry stays the last one, or is listed
pub last-keeps : (m : Memory) (id j : ℕ) (f : Version → Version) → IsLastListed id j m → KeepsLast id j f m
last-keeps m id j f last = to-if _ (chain_at m id) (λ k there v number u at l. inr (last k v at there u number l))

-- ---- end dummies

pub ends-has : (es : List Entry) → EndsWithDummy es → HasEntryAt end_position es
ends-has [] h = absurd h
ends-has (e ∷ []) h = inl h.0
ends-has (e ∷ f ∷ es) h = inr (ends-has (f ∷ es) h)

-- the end dummy of a version of a cache chain, in which no update stands, may be in the list
pub may-list : (m : Memory) (id j : ℕ) → HasVersion m id j → ((i l : ℕ) → OfVersion m i l (λ k v. IsVersion v)) → ((k : KeptChain) → chain_at m id ≡ Some k → k.chain.kind ≡ Cache) → ((k : KeptChain) → chain_at m id ≡ Some k → k.chain.updating ≡ false)
    → IsSomeAnd (chain_at m id) (λ k. MayBeListed k.chain j (Some end_position))
may-list m id j has versions cached settled =
    let a = found-version m id j has in
    to-some (λ (k : KeptChain). MayBeListed k.chain j (Some end_position)) (chain_at m id) a.0 a.2
    (record { cached = cached a.0 a.2; version = a.1; number = a.3; object = ends-has a.1.entries (versions id j a.0 a.1 a.2 a.3).ends; settled = λ u. absurd (let clash : false ≡ true = sym (settled a.0 a.2) ∙ u.0 in cc) })

pub end-free : (m : Memory) (id j : ℕ) → IsSomeAnd (chain_at m id) (λ k. MustBeListed k.chain j (Some end_position)) → ⊥
end-free m id j must = let k = from-some (λ (k : KeptChain). MustBeListed k.chain j (Some end_position)) (chain_at m id) must in k.2.inner refl

-- without an end dummy the list has what it had of other entries
pub ended-listed : (m n : Memory) (id j : ℕ) (front back : List Member) → m.recency ≡ front ++ (member_at id j (Some end_position) ∷ back) → n.recency ≡ front ++ back → KeepsListed m n
ended-listed m n id j front back is list i l x inner on = subst (λ ws. Contains ws (member_at i l (Some x))) (sym list) (elim (elem-replaced front back (member_at id j (Some end_position)) (member_at i l (Some x)) (subst (λ ws. Contains ws (member_at i l (Some x))) is on)) [
  | inl same ↦ absurd (inner (sym (same_some end_position x (ap (λ (w : Member). w.position) same))))
  | inr beside ↦ beside
])
