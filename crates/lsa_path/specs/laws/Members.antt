-- The members of a list of references, and the ends by which a path leaves them.
use Rattle.std.proofs.Common.{◌≡◌, ◌≢◌, ℕ, zero, suc, ◌<◌, List, [], ◌∷◌, ◌++◌, length, get_or, inl, inr, ◌⊎◌, refl, sym, ap, ◌∙◌, subst, map, arith}
use Rattle.std.specs.Prelude.{Contains, AllPairs}
use Rattle.std.proofs.lemmas.List.{map-append}
use Rattle.std.proofs.lemmas.List.Elements.{Contains-append_left, Contains-append_right}
use Rattle.lsa_region.specs.Ref.{Ref}
use Rattle.lsa_region.specs.declared.end.End.{End}
use Rattle.lsa_region.specs.declared.end.End.TheVariants.{Obj}
use Rattle.lsa_path.specs.Path.{AllOnward}

among : (x r : Ref) (xs : List Ref) (k : ℕ) → k < length (x ∷ xs) → get_or (x ∷ xs) k r ≡ r → (x ≡ r) ⊎ Contains xs r
among x r xs zero lt e = inl e
among x r xs (suc k) lt e = inr (k, omega arith, e)

pub member-cases : (x r : Ref) (xs : List Ref) → Contains (x ∷ xs) r → (x ≡ r) ⊎ Contains xs r
member-cases x r xs h = among x r xs h.0 h.1 h.2

pub member-first : (r : Ref) (xs : List Ref) → Contains (r ∷ xs) r
member-first r xs = (0, omega arith, refl)

pub member-later : (x r : Ref) (xs : List Ref) → Contains xs r → Contains (x ∷ xs) r
member-later x r xs h = (suc h.0, omega (arith, h.1), h.2)

pub member-here : (xs ys : List Ref) (r : Ref) → Contains (xs ++ (r ∷ ys)) r
member-here xs ys r = Contains-append_right xs (r ∷ ys) r (member-first r ys)

no-member : (r : Ref) → Contains [] r → ⊥
no-member r h = omega (arith, h.1)

-- a list is split at a member
pub member-split : (xs : List Ref) (r : Ref) → Contains xs r → (front : List Ref) × (back : List Ref) × (xs ≡ front ++ (r ∷ back))
member-split [] r h = absurd (no-member r h)
member-split (x ∷ xs) r h = elim (member-cases x r xs h) [
  | inl same ↦ ([], xs, ap (λ q. q ∷ xs) same)
  | inr later ↦ let w = member-split xs r later in (x ∷ w.0, w.1, ap (λ l. x ∷ l) w.2)
]

-- what holds of each end by which these are left holds of that of a member, and the other way
pub all-member : (o : ℕ) (P : End → Type 0) (xs : List Ref) (r : Ref) → AllOnward o P xs → Contains xs r → P (Obj r o)
all-member o P [] r all h = absurd (no-member r h)
all-member o P (x ∷ xs) r all h = elim (member-cases x r xs h) [ inl same ↦ subst (λ q. P (Obj q o)) same all.0 | inr later ↦ all-member o P xs r all.1 later ]

pub all-from_members : (o : ℕ) (P : End → Type 0) (xs : List Ref) → ((r : Ref) → Contains xs r → P (Obj r o)) → AllOnward o P xs
all-from_members o P [] h = tt
all-from_members o P (x ∷ xs) h = (h x (member-first x xs), all-from_members o P xs (λ r later. h r (member-later x r xs later)))

-- where each stands once, none stands before or behind itself
pub once-split : (xs ys : List Ref) (r : Ref) → AllPairs ◌≢◌ (xs ++ (r ∷ ys)) → Contains (xs ++ ys) r → ⊥
once-split [] ys r once h = once 0 (suc h.0) r (omega arith) (omega (arith, h.1)) (sym h.2)
once-split (x ∷ xs) ys r once h = elim (member-cases x r (xs ++ ys) h) [
  | inl same ↦ let w = member-here xs ys r in once 0 (suc w.0) r (omega arith) (omega (arith, w.1)) (same ∙ sym w.2)
  | inr later ↦ once-split xs ys r (λ i j d less within. once (suc i) (suc j) d (omega (arith, less)) (omega (arith, within))) later
]

-- a function that leaves each member leaves the list
pub map-members : (f : Ref → Ref) (xs : List Ref) → ((x : Ref) → Contains xs x → f x ≡ x) → map f xs ≡ xs
map-members f [] h = refl
map-members f (x ∷ xs) h = ap (λ y. y ∷ map f xs) (h x (member-first x xs)) ∙ ap (λ l. x ∷ l) (map-members f xs (λ y later. h y (member-later x y xs later)))

-- a function that leaves all but one
pub map-split : (f : Ref → Ref) (xs ys : List Ref) (r q : Ref) → f r ≡ q → ((x : Ref) → Contains (xs ++ ys) x → f x ≡ x) → map f (xs ++ (r ∷ ys)) ≡ xs ++ (q ∷ ys)
map-split f xs ys r q here others =
    map-append f xs (r ∷ ys) ∙ ap (λ l. l ++ map f (r ∷ ys)) (map-members f xs (λ x h. others x (Contains-append_left xs ys x h)))
    ∙ ap (λ y. xs ++ (y ∷ map f ys)) here ∙ ap (λ l. xs ++ (q ∷ l)) (map-members f ys (λ x h. others x (Contains-append_right xs ys x h)))
