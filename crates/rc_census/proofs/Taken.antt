-- What is there of a list up to a number.
use Rattle.std.proofs.Common.{◌≡◌, ◌≤◌, ◌<◌, ◌+◌, ℕ, zero, suc, List, [], ◌∷◌, Option, Some, None, refl, ap, slice_index_or, take, sum_by, arith}
use Rattle.rc_memory.specs.Kept.{present}
use Rattle.rc_census.proofs.Sums.{added_by, sum-front}

module _ {X : Type 0} (f : X → ℕ) where
  -- up to the next one that is there it adds what that one does
  pub sum-more : (xs : List (Option X)) (first n : ℕ) (x : X) → first ≤ n → ((i : ℕ) → first ≤ i → i < n → slice_index_or xs i None ≡ None) → slice_index_or xs n None ≡ Some x
      → sum_by f (present (take (suc n) xs)) ≡ sum_by f (present (take first xs)) + f x
  sum-more [] first n x low gap e = absurd (cc e)
  sum-more (o ∷ xs) zero zero x low gap e = let is : added_by f o ≡ f x = ap (added_by f) e in omega (arith, is, sum-front f o [])
  sum-more (o ∷ xs) zero (suc n) x low gap e =
      let none : added_by f o ≡ 0 = ap (added_by f) (gap 0 (omega arith) (omega arith)) in
      let rest = sum-more xs zero n x (omega arith) (λ i a b. gap (suc i) (omega arith) (omega (arith, b))) e in
      omega (arith, none, sum-front f o (take (suc n) xs), rest)
  sum-more (o ∷ xs) (suc first) zero x low gap e = absurd (omega (arith, low))
  sum-more (o ∷ xs) (suc first) (suc n) x low gap e =
      let rest = sum-more xs first n x (omega (arith, low)) (λ i a b. gap (suc i) (omega (arith, a)) (omega (arith, b))) e in
      omega (arith, sum-front f o (take (suc n) xs), sum-front f o (take first xs), rest)

  -- up to a number behind which there is none it is all
  pub sum-all : (xs : List (Option X)) (first : ℕ) → ((i : ℕ) → first ≤ i → slice_index_or xs i None ≡ None) → sum_by f (present xs) ≡ sum_by f (present (take first xs))
  sum-all [] zero gap = refl
  sum-all [] (suc first) gap = refl
  sum-all (o ∷ xs) zero gap =
      let none : added_by f o ≡ 0 = ap (added_by f) (gap 0 (omega arith)) in
      let rest = sum-all xs zero (λ i a. gap (suc i) (omega arith)) in
      omega (arith, none, sum-front f o xs, rest)
  sum-all (o ∷ xs) (suc first) gap =
      let rest = sum-all xs first (λ i a. gap (suc i) (omega (arith, a))) in
      omega (arith, sum-front f o xs, sum-front f o (take first xs), rest)

  -- up to a number it is no more than all
  pub sum-part : (xs : List (Option X)) (first : ℕ) → sum_by f (present (take first xs)) ≤ sum_by f (present xs)
  sum-part [] zero = omega arith
  sum-part [] (suc first) = omega arith
  sum-part (o ∷ xs) zero = omega arith
  sum-part (o ∷ xs) (suc first) = omega (arith, sum-front f o xs, sum-front f o (take first xs), sum-part xs first)
