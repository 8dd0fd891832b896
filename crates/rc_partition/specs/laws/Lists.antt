-- Lists of anything: their members, one put in the place of another, and lists in which each stands once.
use Rattle.std.proofs.Common.{◌≡◌, ◌≢◌, ◌⊎◌, ℕ, zero, suc, ◌+◌, ◌<◌, List, [], ◌∷◌, ◌++◌, length, get_or, reverse, map, inl, inr, refl, sym, ap, ◌∙◌, subst, arith}
use Rattle.std.specs.Prelude.{Contains, AllPairs, sum_by}
use Rattle.std.specs.List.{flat_map}
use Rattle.std.proofs.lemmas.List.{append-nil, map-append, reverse-append, reverse-reverse}
use Rattle.std.proofs.lemmas.List.Elements.{Contains-append_left, Contains-append_right, Contains-append_cases, Contains-get_or}
use Rattle.std.proofs.lemmas.List.Kept.{AllPairs-cons}
use Rattle.std.proofs.lemmas.List.Sums.{sum_by-cons, sum_by-append}

module _ {X : Type 0} where
  among_these : (x y : X) (xs : List X) (k : ℕ) → k < length (x ∷ xs) → get_or (x ∷ xs) k y ≡ y → (x ≡ y) ⊎ Contains xs y
  among_these x y xs zero lt e = inl e
  among_these x y xs (suc k) lt e = inr (k, omega arith, e)

  pub elem-cases : (x y : X) (xs : List X) → Contains (x ∷ xs) y → (x ≡ y) ⊎ Contains xs y
  elem-cases x y xs h = among_these x y xs h.0 h.1 h.2

  pub elem-first : (x : X) (xs : List X) → Contains (x ∷ xs) x
  elem-first x xs = (0, omega arith, refl)

  pub elem-later : (x y : X) (xs : List X) → Contains xs y → Contains (x ∷ xs) y
  elem-later x y xs h = (suc h.0, omega (arith, h.1), h.2)

  pub elem-here : (xs ys : List X) (x : X) → Contains (xs ++ (x ∷ ys)) x
  elem-here xs ys x = Contains-append_right xs (x ∷ ys) x (elem-first x ys)

  pub elem-none : (x : X) → Contains [] x → ⊥
  elem-none x h = omega (arith, h.1)

  -- one in the middle, and those beside it
  pub elem-replaced : (xs ys : List X) (a y : X) → Contains (xs ++ (a ∷ ys)) y → (a ≡ y) ⊎ Contains (xs ++ ys) y
  elem-replaced xs ys a y h = elim (Contains-append_cases xs (a ∷ ys) y h) [
    | inl before ↦ inr (Contains-append_left xs ys y before)
    | inr behind ↦ elim (elem-cases a y ys behind) [ inl same ↦ inl same | inr later ↦ inr (Contains-append_right xs ys y later) ]
  ]

  pub elem-still : (xs ys : List X) (a y : X) → Contains (xs ++ ys) y → Contains (xs ++ (a ∷ ys)) y
  elem-still xs ys a y h = elim (Contains-append_cases xs ys y h) [
    | inl before ↦ Contains-append_left xs (a ∷ ys) y before
    | inr behind ↦ Contains-append_right xs (a ∷ ys) y (elem-later a y ys behind)
  ]

  pub elem-reversed : (xs : List X) (y : X) → Contains xs y → Contains (reverse xs) y
  elem-reversed [] y h = absurd (elem-none y h)
  elem-reversed (x ∷ xs) y h = subst (λ l. Contains l y) (sym (reverse-append (x ∷ []) xs)) (elim (elem-cases x y xs h) [
    | inl same ↦ Contains-append_right (reverse xs) (x ∷ []) y (subst (Contains (x ∷ [])) same (elem-first x []))
    | inr later ↦ Contains-append_left (reverse xs) (x ∷ []) y (elem-reversed xs y later)
  ])

  -- a list is split at a member
  pub elem-split : (xs : List X) (y : X) → Contains xs y → (front : List X) × (back : List X) × (xs ≡ front ++ (y ∷ back))
  elem-split [] y h = absurd (elem-none y h)
  elem-split (x ∷ xs) y h = elim (elem-cases x y xs h) [
    | inl same ↦ ([], xs, ap (λ z. z ∷ xs) same)
    | inr later ↦ let w = elem-split xs y later in (x ∷ w.0, w.1, ap (λ l. x ∷ l) w.2)
  ]

  pub elem-left : (xs ys : List X) (y : X) → Contains xs y → Contains (xs ++ ys) y
  elem-left xs ys y h = Contains-append_left xs ys y h

  pub elem-pushed : (xs : List X) (a y : X) → Contains (xs ++ (a ∷ [])) y → Contains xs y ⊎ (a ≡ y)
  elem-pushed xs a y h = elim (Contains-append_cases xs (a ∷ []) y h) [
    | inl before ↦ inl before
    | inr last ↦ elim (elem-cases a y [] last) [ inl same ↦ inr same | inr later ↦ absurd (elem-none y later) ]
  ]

  pub elem-unreversed : (xs : List X) (y : X) → Contains (reverse xs) y → Contains xs y
  elem-unreversed xs y h = subst (λ l. Contains l y) (reverse-reverse xs) (elem-reversed (reverse xs) y h)

  -- ---- each once

  pub once-none : AllPairs {X = X} ◌≢◌ []
  once-none = λ i j d less within. absurd (omega (arith, less, within))

  pub once-cons : (x : X) (xs : List X) → (Contains xs x → ⊥) → AllPairs ◌≢◌ xs → AllPairs ◌≢◌ (x ∷ xs)
  once-cons x xs beside once = AllPairs-cons ◌≢◌ x xs (λ k d within same. beside (subst (Contains xs) (sym same) (Contains-get_or xs k d within))) once

  pub once-tail : (x : X) (xs : List X) → AllPairs ◌≢◌ (x ∷ xs) → AllPairs ◌≢◌ xs
  once-tail x xs once = λ i j d less within. once (suc i) (suc j) d (omega (arith, less)) (omega (arith, within))

  pub once-head : (x : X) (xs : List X) → AllPairs ◌≢◌ (x ∷ xs) → Contains xs x → ⊥
  once-head x xs once h = once 0 (suc h.0) x (omega arith) (omega (arith, h.1)) (sym h.2)

  pub once-both : (xs ys : List X) → AllPairs ◌≢◌ xs → AllPairs ◌≢◌ ys → ((y : X) → Contains xs y → Contains ys y → ⊥) → AllPairs ◌≢◌ (xs ++ ys)
  once-both [] ys h k apart = k
  once-both (x ∷ xs) ys h k apart = once-cons x (xs ++ ys)
      (λ c. elim (Contains-append_cases xs ys x c) [ inl before ↦ once-head x xs h before | inr behind ↦ apart x (elem-first x xs) behind ])
      (once-both xs ys (once-tail x xs h) k (λ y a b. apart y (elem-later x y xs a) b))

  pub once-beside : (xs ys : List X) (a : X) → AllPairs ◌≢◌ (xs ++ (a ∷ ys)) → Contains (xs ++ ys) a → ⊥
  once-beside [] ys a once h = once-head a ys once h
  once-beside (x ∷ xs) ys a once h = elim (elem-cases x a (xs ++ ys) h) [
    | inl same ↦ once-head x (xs ++ (a ∷ ys)) once (subst (Contains (xs ++ (a ∷ ys))) (sym same) (elem-here xs ys a))
    | inr later ↦ once-beside xs ys a (once-tail x (xs ++ (a ∷ ys)) once) later
  ]

  pub once-without : (xs ys : List X) (a : X) → AllPairs ◌≢◌ (xs ++ (a ∷ ys)) → AllPairs ◌≢◌ (xs ++ ys)
  once-without [] ys a once = once-tail a ys once
  once-without (x ∷ xs) ys a once = once-cons x (xs ++ ys) (λ c. once-head x (xs ++ (a ∷ ys)) once (elem-still xs ys a x c)) (once-without xs ys a (once-tail x (xs ++ (a ∷ ys)) once))

  pub once-with : (xs ys : List X) (a : X) → (Contains (xs ++ ys) a → ⊥) → AllPairs ◌≢◌ (xs ++ ys) → AllPairs ◌≢◌ (xs ++ (a ∷ ys))
  once-with [] ys a beside once = once-cons a ys beside once
  once-with (x ∷ xs) ys a beside once = once-cons x (xs ++ (a ∷ ys))
      (λ c. elim (elem-replaced xs ys a x c) [ inl same ↦ beside (subst (λ z. Contains (x ∷ (xs ++ ys)) z) (sym same) (elem-first x (xs ++ ys))) | inr other ↦ once-head x (xs ++ ys) once other ])
      (once-with xs ys a (λ c. beside (elem-later x a (xs ++ ys) c)) (once-tail x (xs ++ ys) once))

  pub once-reversed : (xs : List X) → AllPairs ◌≢◌ (reverse xs) → AllPairs ◌≢◌ xs
  once-reversed [] once = once-none
  once-reversed (x ∷ xs) once = let back : AllPairs ◌≢◌ (reverse xs ++ (x ∷ [])) = subst (AllPairs ◌≢◌) (reverse-append (x ∷ []) xs) once in
      once-cons x xs (λ c. once-beside (reverse xs) [] x back (Contains-append_left (reverse xs) [] x (elem-reversed xs x c)))
      (once-reversed xs (subst (AllPairs ◌≢◌) (append-nil (reverse xs)) (once-without (reverse xs) [] x back)))

  -- ---- sums

  pub sum-middle : (f : X → ℕ) (xs ys : List X) (a : X) → sum_by f (xs ++ (a ∷ ys)) ≡ sum_by f xs + (f a + sum_by f ys)
  sum-middle f xs ys a = sum_by-append f xs (a ∷ ys) ∙ ap (λ n. sum_by f xs + n) (sum_by-cons f a ys)

  pub sum-without : (f : X → ℕ) (xs ys : List X) → sum_by f (xs ++ ys) ≡ sum_by f xs + sum_by f ys
  sum-without f xs ys = sum_by-append f xs ys

-- ---- a function of each

module _ {X Y : Type 0} (f : X → Y) where
  pub elem-map : (xs : List X) (x : X) → Contains xs x → Contains (map f xs) (f x)
  elem-map [] x h = absurd (elem-none x h)
  elem-map (z ∷ xs) x h = elim (elem-cases z x xs h) [
    | inl same ↦ subst (λ y. Contains (f z ∷ map f xs) (f y)) same (elem-first (f z) (map f xs))
    | inr later ↦ elem-later (f z) (f x) (map f xs) (elem-map xs x later)
  ]

  pub elem-mapped : (xs : List X) (y : Y) → Contains (map f xs) y → (x : X) × Contains xs x × (f x ≡ y)
  elem-mapped [] y h = absurd (elem-none y h)
  elem-mapped (z ∷ xs) y h = elim (elem-cases (f z) y (map f xs) h) [
    | inl same ↦ (z, elem-first z xs, same)
    | inr later ↦ let w = elem-mapped xs y later in (w.0, elem-later z w.0 xs w.1, w.2)
  ]

  pub map-reversed : (xs : List X) → map f (reverse xs) ≡ reverse (map f xs)
  map-reversed [] = refl
  map-reversed (x ∷ xs) = ap (map f) (reverse-append (x ∷ []) xs) ∙ map-append f (reverse xs) (x ∷ []) ∙ ap (λ l. l ++ (f x ∷ [])) (map-reversed xs) ∙ sym (reverse-append (f x ∷ []) (map f xs))

  pub sum-mapped : (g : Y → ℕ) (xs : List X) → sum_by g (map f xs) ≡ sum_by (λ x. g (f x)) xs
  sum-mapped g [] = refl
  sum-mapped g (x ∷ xs) = sum_by-cons g (f x) (map f xs) ∙ ap (λ n. g (f x) + n) (sum-mapped g xs) ∙ sym (sum_by-cons (λ x. g (f x)) x xs)

-- ---- lists of each, one after another

module _ {X Y : Type 0} (f : X → List Y) where
  pub elem-joined : (xs : List X) (x : X) (y : Y) → Contains xs x → Contains (f x) y → Contains (flat_map f xs) y
  elem-joined [] x y h k = absurd (elem-none x h)
  elem-joined (z ∷ xs) x y h k = elim (elem-cases z x xs h) [
    | inl same ↦ Contains-append_left (f z) (flat_map f xs) y (subst (λ q. Contains (f q) y) (sym same) k)
    | inr later ↦ Contains-append_right (f z) (flat_map f xs) y (elem-joined xs x y later k)
  ]

  pub elem-parted : (xs : List X) (y : Y) → Contains (flat_map f xs) y → (x : X) × Contains xs x × Contains (f x) y
  elem-parted [] y h = absurd (elem-none y h)
  elem-parted (z ∷ xs) y h = elim (Contains-append_cases (f z) (flat_map f xs) y h) [
    | inl before ↦ (z, elem-first z xs, before)
    | inr behind ↦ let w = elem-parted xs y behind in (w.0, elem-later z w.0 xs w.1, w.2)
  ]

  pub sum-joined : (g : Y → ℕ) (xs : List X) → sum_by g (flat_map f xs) ≡ sum_by (λ x. sum_by g (f x)) xs
  sum-joined g [] = refl
  sum-joined g (x ∷ xs) = sum_by-append g (f x) (flat_map f xs) ∙ ap (λ n. sum_by g (f x) + n) (sum-joined g xs) ∙ sym (sum_by-cons (λ x. sum_by g (f x)) x xs)

pub sum-same : {X : Type 0} (f g : X → ℕ) (xs : List X) → ((x : X) → Contains xs x → f x ≡ g x) → sum_by f xs ≡ sum_by g xs
sum-same f g [] same = refl
sum-same f g (x ∷ xs) same = sum_by-cons f x xs ∙ (λ i. same x (elem-first x xs) i + sum-same f g xs (λ y later. same y (elem-later x y xs later)) i) ∙ sym (sum_by-cons g x xs)
