-- A walk along a list, while the region is the same; and what a list is after some compactions.
use Rattle.std.proofs.Common.{◌≡◌, ℕ, ◌<◌, ◌≤◌, List, [], ◌∷◌, ◌++◌, Option, Some, None, IsSome, sym, ap, subst, map, arith}
use Rattle.std.specs.Prelude.{IsSomeAnd}
use Rattle.std.proofs.lemmas.List.{append_assoc}
use Rattle.lsa_kinds.specs.declared.kind.Kind.{Kind}
use Rattle.lsa_kinds.specs.declared.kind.Kind.TheVariants.{Dummy}
use Rattle.lsa_kinds.specs.Kinds.{links_of}
use Rattle.lsa_region.specs.Ref.{Ref}
use Rattle.lsa_region.specs.Ends.{named_as}
use Rattle.lsa_region.specs.Region.{View, body, IsWell, IsAdded, Renamed}
use Rattle.lsa_path.specs.laws.Renamed.{some-there}
use Rattle.lsa_list.specs.declared.recency.List.{List as Slots}
use Rattle.lsa_list.specs.Recency.{IsList, first}
use Rattle.lsa_tests.specs.Listed.{IsOneOf}
use Rattle.lsa_list.specs.laws.Lists.{recent-at, list-added, list-renamed}

module _ (slots : Slots) (v : View) where
  pub one-first : (refs : List Ref) → IsList slots v refs → (o : Option Ref) → o ≡ first refs → IsOneOf slots v o
  one-first [] l o e = subst (IsOneOf slots v) (sym e) tt
  one-first (r ∷ refs) l o e = subst (IsOneOf slots v) (sym e) ([], refs, l)

  pub one-next : (xs ys : List Ref) (r : Ref) → IsList slots v (xs ++ (r ∷ ys)) → (o : Option Ref) → o ≡ first ys → IsOneOf slots v o
  one-next xs [] r l o e = subst (IsOneOf slots v) (sym e) tt
  one-next xs (q ∷ ys) r l o e = subst (IsOneOf slots v) (sym e) (xs ++ (r ∷ []), ys, subst (IsList slots v) (sym (append_assoc xs (r ∷ []) (q ∷ ys))) l)

  pub one-there : (xs ys : List Ref) (r : Ref) → IsList slots v (xs ++ (r ∷ ys)) → IsSome (body v r)
  one-there xs ys r l = some-there _ (body v r) (recent-at v xs ys r l.recent)

-- a link past the last one of the kind is none
pub past : (o : Option (Kind × List ℕ)) (field count : ℕ) (kind : Kind) → IsSomeAnd o (λ b. b.0 ≡ kind) → count ≡ links_of kind → count ≤ field → IsSomeAnd o (λ b. field < links_of b.0) → ⊥
past None field count kind is e le h = absurd h
past (Some b) field count kind is e le h = absurd (omega (arith, h, ap links_of is, e, le))

pub still : (slots : Slots) (old new : View) → IsWell old → (names : List (Ref × Ref)) → Renamed old new names → (refs : List Ref) → IsList slots old refs → (now : List Ref) × IsList slots new now
still slots old new well names renamed refs l = (map (named_as names) refs, list-renamed slots old new names renamed well refs l)

pub made : (slots : Slots) (old new w : View) (r : Ref) (bytes : List ℕ) → IsWell old → (names : List (Ref × Ref)) → Renamed old new names → (refs : List Ref) → IsList slots old refs → IsAdded new w r Dummy bytes → (now : List Ref) × IsList slots w now
made slots old new w r bytes well names renamed refs l added = let s = still slots old new well names renamed refs l in (s.0, list-added slots new w r Dummy bytes added s.0 s.1)
