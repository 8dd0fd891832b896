-- Sums over what is there of a list, by what stands at each number.
use Rattle.std.proofs.Common.{◌≡◌, ◌≤◌, ◌+◌, ℕ, zero, suc, Bool, true, false, List, [], ◌∷◌, Option, Some, None, refl, sym, ap, ◌∙◌, slice_index_or, cond, sum_by, arith}
use Rattle.std.specs.Prelude.{filter}
use Rattle.std.proofs.lemmas.List.Sums.{sum_by-cons}
use Rattle.rc_registry.specs.Registry.{put_at_number}
use Rattle.rc_memory.specs.Kept.{present}

-- what stands at a number adds
abbrev pub added_by : {X : Type 0} → (X → ℕ) → Option X → ℕ
added_by f None = 0
added_by f (Some x) = f x

-- what an element adds that a test lets through
abbrev pub through : {X : Type 0} → (X → Bool) → (X → ℕ) → X → ℕ
through p f x = cond (p x) (f x) 0

-- what a test does not let through adds nothing
through-off : (b : Bool) (n : ℕ) → (b ≡ true → ⊥) → cond b n 0 ≡ 0
through-off true n h = absurd (h refl)
through-off false n h = refl

module _ {X : Type 0} where
  -- a sum over those that a test lets through
  pub sum-filter : (p : X → Bool) (f : X → ℕ) (xs : List X) → sum_by f (filter p xs) ≡ sum_by (through p f) xs
  sum-filter p f [] = refl
  sum-filter p f (x ∷ xs) =
      elim (p x) as (λ b. sum_by f (cond b (x ∷ filter p xs) (filter p xs)) ≡ cond b (f x) 0 + sum_by (through p f) xs) [
        | true ↦ sum_by-cons f x (filter p xs) ∙ ap (λ n. f x + n) (sum-filter p f xs)
        | false ↦ omega (arith, sum-filter p f xs)
      ] ∙ sym (sum_by-cons (through p f) x xs)

  -- a sum grows with what is summed
  pub sum-under : (f g : X → ℕ) → ((x : X) → f x ≤ g x) → (xs : List X) → sum_by f xs ≤ sum_by g xs
  sum-under f g h [] = omega arith
  sum-under f g h (x ∷ xs) = omega (arith, h x, sum-under f g h xs, sum_by-cons f x xs, sum_by-cons g x xs)

  -- one more in front
  pub sum-front : (f : X → ℕ) (o : Option X) (xs : List (Option X)) → sum_by f (present (o ∷ xs)) ≡ added_by f o + sum_by f (present xs)
  sum-front f None xs = omega arith
  sum-front f (Some x) xs = sum_by-cons f x (present xs)

  -- nothing adds nothing
  sum-none : (f : X → ℕ) (xs : List (Option X)) → ((n : ℕ) → added_by f (slice_index_or xs n None) ≡ 0) → sum_by f (present xs) ≡ 0
  sum-none f [] h = refl
  sum-none f (o ∷ xs) h = omega (arith, sum-front f o xs, h 0, sum-none f xs (λ n. h (suc n)))

  -- what adds the same at each number has the same sum
  pub sum-alike : (f : X → ℕ) (xs ys : List (Option X)) → ((n : ℕ) → added_by f (slice_index_or xs n None) ≡ added_by f (slice_index_or ys n None)) → sum_by f (present xs) ≡ sum_by f (present ys)
  sum-alike f [] ys h = sym (sum-none f ys (λ n. sym (h n)))
  sum-alike f (o ∷ xs) [] h = sum-none f (o ∷ xs) h
  sum-alike f (o ∷ xs) (q ∷ ys) h = omega (arith, sum-front f o xs, sum-front f q ys, h 0, sum-alike f xs ys (λ n. h (suc n)))

  -- what stands at a number gives way to another thing
  pub sum-put : (f : X → ℕ) (n : ℕ) (c : Option X) (xs : List (Option X)) → sum_by f (present (put_at_number n c xs)) + added_by f (slice_index_or xs n None) ≡ sum_by f (present xs) + added_by f c
  sum-put f zero c [] = omega (arith, sum-front f c [])
  sum-put f zero c (o ∷ xs) = omega (arith, sum-front f c xs, sum-front f o xs)
  sum-put f (suc n) c [] = omega (arith, sum-front f None (put_at_number n c []), sum-put f n c [])
  sum-put f (suc n) c (o ∷ xs) = omega (arith, sum-front f o (put_at_number n c xs), sum-front f o xs, sum-put f n c xs)

  -- two things are the same where a test lets one of them through
  pub through-alike : (p : X → Bool) (f : X → ℕ) (o q : Option X) → ((x : X) → p x ≡ true → o ≡ Some x → q ≡ Some x) → ((x : X) → p x ≡ true → q ≡ Some x → o ≡ Some x) → added_by (through p f) o ≡ added_by (through p f) q
  through-alike p f None None h k = refl
  through-alike p f None (Some y) h k = sym (through-off (p y) (f y) (λ e. cc (k y e refl)))
  through-alike p f (Some x) None h k = through-off (p x) (f x) (λ e. cc (h x e refl))
  through-alike p f (Some x) (Some y) h k = cases (p x) refl
    where
      cases : (b : Bool) → p x ≡ b → through p f x ≡ through p f y
      cases true e = let same : x ≡ y = cc (h x e refl) in ap (through p f) same
      cases false e = ap (λ b. cond b (f x) 0) e ∙ sym (through-off (p y) (f y) (λ t. let same : x ≡ y = cc (k y t refl) in let both : p x ≡ p y = ap p same in cc (e, t, both)))

  -- one of a list adds no more than the list
  pub sum-one : (f : X → ℕ) (xs : List (Option X)) (n : ℕ) (x : X) → slice_index_or xs n None ≡ Some x → f x ≤ sum_by f (present xs)
  sum-one f [] n x e = absurd (cc e)
  sum-one f (o ∷ xs) zero x e = let is : added_by f o ≡ f x = ap (added_by f) e in omega (arith, is, sum-front f o xs)
  sum-one f (o ∷ xs) (suc n) x e = omega (arith, sum-front f o xs, sum-one f xs n x e)
