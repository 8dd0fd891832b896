-- What holds of each element of a list, by recursion on the list.
use Rattle.std.specs.Prelude.{◌≡◌, zero, suc, All, Bool, true, false, ◌&&◌, cond, List, [], ◌∷◌, ◌++◌, Option, Some, None, map as list_map}
use Rattle.std.proofs.Common.{refl, arith}
use Rattle.std.specs.List.{filter, filter_map, flat_map, list_all, cons_option}
use Rattle.std.specs.Option.{option_map}

-- it holds of each element
abbrev pub Each : {X : Type 0} → (X → Type 0) → List X → Type 0
Each P [] = Unit {0}
Each P (x ∷ xs) = P x × Each P xs

-- it holds of the value, if there is one
abbrev pub If : {X : Type 0} → (X → Type 0) → Option X → Type 0
If P None = Unit {0}
If P (Some x) = P x

pub both : (b c : Bool) → b && c ≡ true → (b ≡ true) × (c ≡ true)
both true c h = (refl, h)
both false c h = absurd (cc)

module _ {X : Type 0} (P : X → Type 0) where
  pub each_of_all : (xs : List X) → All P xs → Each P xs
  each_of_all [] h = tt
  each_of_all (x ∷ xs) h = (h 0 x (omega arith), each_of_all xs (λ k d lt. h (suc k) d (omega arith)))

  pub all_of_each : (xs : List X) → Each P xs → All P xs
  all_of_each [] h k d lt = absurd (omega arith)
  all_of_each (x ∷ xs) h zero d lt = h.0
  all_of_each (x ∷ xs) h (suc k) d lt = all_of_each xs h.1 k d (omega arith)

  pub each_append : (xs ys : List X) → Each P xs → Each P ys → Each P (xs ++ ys)
  each_append [] ys h k = k
  each_append (x ∷ xs) ys h k = (h.0, each_append xs ys h.1 k)

  each_kept : (b : Bool) (x : X) (xs : List X) → P x → Each P xs → Each P (cond b (x ∷ xs) xs)
  each_kept true x xs h k = (h, k)
  each_kept false x xs h k = k

  pub each_filter : (test : X → Bool) (xs : List X) → Each P xs → Each P (filter test xs)
  each_filter test [] h = tt
  each_filter test (x ∷ xs) h = each_kept (test x) x (filter test xs) h.0 (each_filter test xs h.1)

  each_cons : (o : Option X) (xs : List X) → If P o → Each P xs → Each P (cons_option o xs)
  each_cons None xs h k = k
  each_cons (Some x) xs h k = (h, k)

  -- of what a function gives for each of some, it holds if it holds of all that the function gives
  pub each_filter_map : {Y : Type 0} (f : Y → Option X) (ys : List Y) → ((y : Y) → If P (f y)) → Each P (filter_map f ys)
  each_filter_map f [] h = tt
  each_filter_map f (y ∷ ys) h = each_cons (f y) (filter_map f ys) (h y) (each_filter_map f ys h)

  pub each_map : {Y : Type 0} (f : Y → X) (ys : List Y) → Each (λ y. P (f y)) ys → Each P (list_map f ys)
  each_map f [] h = tt
  each_map f (y ∷ ys) h = (h.0, each_map f ys h.1)

  pub each_flat_map : {Y : Type 0} (f : Y → List X) (ys : List Y) → Each (λ y. Each P (f y)) ys → Each P (flat_map f ys)
  each_flat_map f [] h = tt
  each_flat_map f (y ∷ ys) h = each_append (f y) (flat_map f ys) h.0 (each_flat_map f ys h.1)

  pub if_map : {Y : Type 0} (f : Y → X) (o : Option Y) → If (λ y. P (f y)) o → If P (option_map f o)
  if_map f None h = tt
  if_map f (Some y) h = h

module _ {X : Type 0} (P Q : X → Type 0) where
  pub each_so : (xs : List X) → Each P xs → ((x : X) → P x → Q x) → Each Q xs
  each_so [] h f = tt
  each_so (x ∷ xs) h f = (f x h.0, each_so xs h.1 f)

module _ {X : Type 0} (test : X → Bool) where
  pub each_of_test : (xs : List X) → list_all test xs ≡ true → Each (λ x. test x ≡ true) xs
  each_of_test [] h = tt
  each_of_test (x ∷ xs) h =
      let p = both (test x) (list_all test xs) h in
      (p.0, each_of_test xs p.1)

  pub test_of_each : (xs : List X) → Each (λ x. test x ≡ true) xs → list_all test xs ≡ true
  test_of_each [] h = refl
  test_of_each (x ∷ xs) h = rw (h.0, test_of_each xs h.1) refl
