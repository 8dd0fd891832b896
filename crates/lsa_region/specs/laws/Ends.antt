-- Laws of ends: what is not there names nothing, and no kind has a link past its own.
use Rattle.std.proofs.Common.{◌≡◌, ◌≢◌, ℕ, ◌<◌, ◌≤◌, ◌⊎◌, inl, inr, List, Option, Some, None, refl, ap, ◌∙◌, arith}
use Rattle.std.specs.Prelude.{IsSomeAnd}
use Rattle.lsa_kinds.specs.declared.kind.Kind.{Kind}
use Rattle.lsa_kinds.specs.declared.kind.Kind.TheVariants.{Version, RowEntry, Dummy, Static}
use Rattle.lsa_kinds.specs.Kinds.{links_of}
use Rattle.lsa_store.specs.Usages.{decided}
use Rattle.lsa_store.specs.declared.place.Ref.{Ref}
use Rattle.lsa_region.specs.declared.end.End.{End}
use Rattle.lsa_region.specs.declared.end.Root.{Root}
use Rattle.lsa_region.specs.declared.end.End.TheVariants.{Obj, Slot}
use Rattle.lsa_region.specs.Region.{View, body, link_of, IsEnd, IsWell}
use Rattle.lsa_region.specs.laws.Refs.{refs_decided}

pub ends_decided : (a b : End) → (a ≡ b) ⊎ (a ≢ b)
ends_decided (Obj r f) (Obj s g) = elim (refs_decided r s) [
  | inl e ↦ elim (decided f g) [
    | inl d ↦ inl (ap (λ x. Obj x f) e ∙ ap (λ k. Obj s k) d)
    | inr d ↦ inr (λ same. d (cc))
  ]
  | inr e ↦ inr (λ same. e (cc))
]
ends_decided (Obj r f) (Slot s) = inr (λ same. cc)
ends_decided (Slot r) (Obj s g) = inr (λ same. cc)
ends_decided (Slot r) (Slot s) = elim (decided r.number s.number) [
  | inl e ↦ inl (ap (λ n. Slot (record { number = n })) e)
  | inr e ↦ inr (λ same. let inner : r ≡ s = cc in e (ap (λ (x : Root). x.number) inner))
]

pub some_and_none : {X : Type 0} (o : Option X) (P : X → Type 0) → o ≡ None → IsSomeAnd o P → ⊥
some_and_none None P e h = h
some_and_none (Some x) P e h = cc

pub links_few : (k : Kind) → links_of k ≤ 5
links_few Version = omega arith
links_few RowEntry = omega arith
links_few Dummy = omega arith
links_few Static = omega arith

few_of : (o : Option (Kind × List ℕ)) (field : ℕ) → IsSomeAnd o (λ b. field < links_of b.0) → field < 5
few_of None field h = absurd h
few_of (Some b) field h = omega (arith, links_few b.0, h)

pub none_unless : (o : Option End) → ((y : End) → o ≡ Some y → ⊥) → o ≡ None
none_unless None h = refl
none_unless (Some y) h = absurd (h y refl)

-- an end that is not there names nothing
pub no-end : (v : View) → IsWell v → (e : End) → (IsEnd v e → ⊥) → link_of v e ≡ None
no-end v well e gone = none_unless (link_of v e) (λ y is. gone (well.ends y e (well.paired.mates e y is)))

-- no kind has a link of number 5 or more
pub few-links : (v : View) (r : Ref) (field : ℕ) → IsEnd v (Obj r field) → field < 5
few-links v r field h = few_of (body v r) field h

none_past : (o : Option (Kind × List ℕ)) (kind : Kind) (bytes : List ℕ) (field : ℕ) → o ≡ Some (kind, bytes) → links_of kind ≤ field → IsSomeAnd o (λ b. field < links_of b.0) → ⊥
none_past None kind bytes field is past h = absurd h
none_past (Some b) kind bytes field is past h = let same : b ≡ (kind, bytes) = cc in omega (arith, h, past, ap (λ (b : Kind × List ℕ). links_of b.0) same)

-- past the links of an object's kind nothing is set
pub past-links : (v : View) (r : Ref) (kind : Kind) (bytes : List ℕ) (field : ℕ) → IsWell v → body v r ≡ Some (kind, bytes) → links_of kind ≤ field → link_of v (Obj r field) ≡ None
past-links v r kind bytes field well is past = no-end v well (Obj r field) (none_past (body v r) kind bytes field is past)
