-- Nothing comes into the recency list but objects of the chain that is filled, and nothing goes out of it.
use Rattle.std.proofs.Common.{◌≡◌, ◌⊎◌, ℕ, List, [], ◌∷◌, ◌++◌, Option, Some, None, IsSome, inl, inr, refl, sym, subst}
use Rattle.std.specs.Prelude.{Contains}
use Rattle.std.proofs.lemmas.List.Elements.{Contains-append_cases, Contains-append_left, Contains-append_right}
use Rattle.rc_cell.specs.declared.rows.Row.{Row}
use Rattle.rc_position.specs.declared.positions.Pos.{Pos}
use Rattle.rc_core.specs.declared.entries.ChainKind.{ChainKind}
use Rattle.rc_core.specs.declared.entries.ChainKind.TheVariants.{Cache, Memtable}
use Rattle.rc_core.specs.declared.entries.Entry.{Entry}
use Rattle.rc_core.specs.AtPlace.{HasEntryAt}
use Rattle.rc_core.specs.Version.{Version}
use Rattle.rc_partition.specs.laws.Lists.{elem-cases, elem-first, elem-none, elem-replaced}
use Rattle.rc_memory.specs.Memory.{Member}
use Rattle.rc_memory.specs.Changes.{IsRenewed, IsRenewedWhereNone, IsWithout}
use Rattle.rc_memory.specs.Recency.{HasObject}
use Rattle.rc_memory.specs.laws.Listing.{pos_decided}
use Rattle.rc_memory.specs.laws.Renewed.{without-old}
use Rattle.rc_populate.specs.Filling.{AreBoundsListed, IsGivenListed}

has-decided : (x : Pos) (es : List Entry) → HasEntryAt x es ⊎ (HasEntryAt x es → ⊥)
has-decided x [] = inr (λ h. h)
has-decided x (e ∷ es) = elim (pos_decided e.position x) [
  | inl here ↦ inl (inl here)
  | inr ne ↦ elim (has-decided x es) [ inl later ↦ inl (inr later) | inr none ↦ inr (λ h. elim h [ inl here ↦ ne here | inr later ↦ none later ]) ]
]

some-decided : (o : Option Row) → IsSome o ⊎ (IsSome o → ⊥)
some-decided None = inr (λ h. cc h)
some-decided (Some row) = inl refl

object-decided : (v : Version) (at : Option Pos) → HasObject v at ⊎ (HasObject v at → ⊥)
object-decided v None = some-decided v.statics
object-decided v (Some x) = has-decided x v.entries

-- each object of a list was in another one, or is of this chain
abbrev pub ComeOf : ℕ → List Member → List Member → Type 0
ComeOf id old new = (x : Member) → Contains new x → Contains old x ⊎ (x.chain ≡ id)

module _ (id : ℕ) where
  come-same : (old new : List Member) → new ≡ old → ComeOf id old new
  come-same old new is x on = inl (subst (λ l. Contains l x) is on)

  come-then : (old mid new : List Member) → ComeOf id old mid → ComeOf id mid new → ComeOf id old new
  come-then old mid new a b x on = elim (b x on) [ inl in_mid ↦ a x in_mid | inr own ↦ inr own ]

  module _ (w : Member) (own : w.chain ≡ id) where
    pub come-renewed : (kind : ChainKind) (old new : List Member) → IsRenewed kind w old new → ComeOf id old new
    come-renewed Memtable old new is = come-same old new is
    come-renewed Cache old new is = λ x on. elim (Contains-append_cases is.0 (w ∷ []) x (subst (λ l. Contains l x) is.2 on)) [
      | inl before ↦ inl (without-old w old is.0 is.1 x before)
      | inr this ↦ elim (elem-cases w x [] this) [ inl same ↦ inr (subst (λ (y : Member). y.chain ≡ id) same own) | inr none ↦ absurd (elem-none x none) ]
    ]

    pub come-given : (kind : ChainKind) (row : Option Row) (old new : List Member) → IsGivenListed kind row w old new → ComeOf id old new
    come-given kind None old new is = come-same old new is
    come-given kind (Some row) old new is = come-renewed kind old new is

    come-where-none : (kind : ChainKind) (v : Version) (old new : List Member) → IsRenewedWhereNone kind v w old new → ComeOf id old new
    come-where-none kind v old new is = elim (object-decided v w.position) [ inl there ↦ come-same old new (is.there there) | inr none ↦ come-renewed kind old new (is.made none) ]

  pub come-bounds : (kind : ChainKind) (v : Version) (from to : Member) (old new : List Member) → from.chain ≡ id → to.chain ≡ id → AreBoundsListed kind v from to old new → ComeOf id old new
  come-bounds kind v from to old new f t is = come-then old is.0 new (come-where-none from f kind v old is.0 is.1) (come-where-none to t kind v is.0 new is.2)

-- each object of a list is in another one still
abbrev pub StayIn : List Member → List Member → Type 0
StayIn old new = (x : Member) → Contains old x → Contains new x

stay-same : (old new : List Member) → new ≡ old → StayIn old new
stay-same old new is x on = subst (λ l. Contains l x) (sym is) on

module _ (w : Member) where
  -- an object that was taken out, if it was there, and put behind the others
  stay-behind : (old rest : List Member) → IsWithout w old rest → StayIn old (rest ++ (w ∷ []))
  stay-behind old rest out x on = elim out [
    | inl same ↦ Contains-append_left rest (w ∷ []) x (subst (λ l. Contains l x) (sym same.1) on)
    | inr split ↦ elim (elem-replaced split.0 split.1 w x (subst (λ l. Contains l x) split.2 on)) [
      | inl this ↦ Contains-append_right rest (w ∷ []) x (subst (Contains (w ∷ [])) this (elem-first w []))
      | inr beside ↦ Contains-append_left rest (w ∷ []) x (subst (λ l. Contains l x) (sym split.3) beside)
    ]
  ]

  pub stay-renewed : (kind : ChainKind) (old new : List Member) → IsRenewed kind w old new → StayIn old new
  stay-renewed Memtable old new is = stay-same old new is
  stay-renewed Cache old new is = λ x on. subst (λ l. Contains l x) (sym is.2) (stay-behind old is.0 is.1 x on)

  pub stay-given : (kind : ChainKind) (row : Option Row) (old new : List Member) → IsGivenListed kind row w old new → StayIn old new
  stay-given kind None old new is = stay-same old new is
  stay-given kind (Some row) old new is = stay-renewed kind old new is

  stay-where-none : (kind : ChainKind) (v : Version) (old new : List Member) → IsRenewedWhereNone kind v w old new → StayIn old new
  stay-where-none kind v old new is = elim (object-decided v w.position) [ inl there ↦ stay-same old new (is.there there) | inr none ↦ stay-renewed kind old new (is.made none) ]

pub stay-bounds : (kind : ChainKind) (v : Version) (from to : Member) (old new : List Member) → AreBoundsListed kind v from to old new → StayIn old new
stay-bounds kind v from to old new is x on = stay-where-none to kind v is.0 new is.2 x (stay-where-none from kind v old is.0 is.1 x on)
