-- Sums over what is there of a list, by what stands at each number.
use Rattle.std.proofs.Common.{◌≡◌, ◌≢◌, ◌≤◌, ◌+◌, ◌*◌, ℕ, zero, suc, Bool, true, false, List, [], ◌∷◌, Option, Some, None, refl, sym, ap, ◌∙◌, slice_index_or, cond, sum_by, arith}
use Rattle.std.specs.Prelude.{filter}
use Rattle.std.proofs.lemmas.List.Sums.{sum_by-cons}
use Rattle.rc_memory.specs.Kept.{present}

-- what stands at a number adds
abbrev pub added_by : {X : Type 0} → (X → ℕ) → Option X → ℕ
added_by f None = 0
added_by f (Some x) = f x

-- what an element adds that a test lets through
abbrev pub through : {X : Type 0} → (X → Bool) → (X → ℕ) → X → ℕ
through p f x = cond (p x) (f x) 0

module _ {X : Type 0} where
  -- a sum over those that a test lets through
  pub sum-filter : (p : X → Bool) (f : X → ℕ) (xs : List X) → sum_by f (filter p xs) ≡ sum_by (through p f) xs
  sum-filter p f [] = refl
  sum-filter p f (x ∷ xs) =
      elim (p x) as (λ b. sum_by f (cond b (x ∷ filter p xs) (filter p xs)) ≡ cond b (f x) 0 + sum_by (through p f) xs) [
        | true ↦ sum_by-cons f x (filter p xs) ∙ ap (λ n. f x + n) (sum-filter p f xs)
        | false ↦ omega (arith, sum-filter p f xs)
      ] ∙ sym (sum_by-cons (through p f) x xs)

  -- a sum of sums
  pub sum-both : (f g h : X → ℕ) → ((x : X) → g x + h x ≡ f x) → (xs : List X) → sum_by f xs ≡ sum_by g xs + sum_by h xs
  sum-both f g h is [] = omega arith
  sum-both f g h is (x ∷ xs) = omega (arith, is x, sum-both f g h is xs, sum_by-cons f x xs, sum_by-cons g x xs, sum_by-cons h x xs)

  -- a sum of what is 152 times as much
  pub sum-times : (f g : X → ℕ) → ((x : X) → f x ≡ 152 * g x) → (xs : List X) → sum_by f xs ≡ 152 * sum_by g xs
  sum-times f g is [] = omega arith
  sum-times f g is (x ∷ xs) = omega (arith, is x, sum-times f g is xs, sum_by-cons f x xs, sum_by-cons g x xs)

  -- one more in front
  sum-front : (f : X → ℕ) (o : Option X) (xs : List (Option X)) → sum_by f (present (o ∷ xs)) ≡ added_by f o + sum_by f (present xs)
  sum-front f None xs = omega arith
  sum-front f (Some x) xs = sum_by-cons f x (present xs)

  -- what adds no more at each number has no greater sum
  pub sum-least : (f g : X → ℕ) (xs ys : List (Option X)) → ((n : ℕ) → added_by f (slice_index_or xs n None) ≤ added_by g (slice_index_or ys n None)) → sum_by f (present xs) ≤ sum_by g (present ys)
  sum-least f g [] ys h = omega arith
  sum-least f g (o ∷ xs) [] h = omega (arith, sum-front f o xs, h 0, sum-least f g xs [] (λ n. h (suc n)))
  sum-least f g (o ∷ xs) (q ∷ ys) h = omega (arith, sum-front f o xs, sum-front g q ys, h 0, sum-least f g xs ys (λ n. h (suc n)))

  -- where at each number but one it adds no more, and at that one by so much less or more, the sums are apart by that
  pub sum-one : (f g : X → ℕ) (less more id : ℕ) (xs ys : List (Option X)) → ((n : ℕ) → n ≢ id → added_by f (slice_index_or xs n None) ≤ added_by g (slice_index_or ys n None)) → added_by f (slice_index_or xs id None) + less ≤ added_by g (slice_index_or ys id None) + more → sum_by f (present xs) + less ≤ sum_by g (present ys) + more
  sum-one f g less more zero [] [] h at = omega (arith, at)
  sum-one f g less more (suc i) [] [] h at = omega (arith, at)
  sum-one f g less more zero [] (q ∷ ys) h at = omega (arith, sum-front g q ys, at)
  sum-one f g less more (suc i) [] (q ∷ ys) h at = omega (arith, sum-front g q ys, sum-one f g less more i [] ys (λ n ne. h (suc n) (λ e. ne (omega (arith, e)))) at)
  sum-one f g less more zero (o ∷ xs) [] h at = omega (arith, sum-front f o xs, at, sum-least f g xs [] (λ n. h (suc n) (omega arith)))
  sum-one f g less more (suc i) (o ∷ xs) [] h at = omega (arith, sum-front f o xs, h 0 (omega arith), sum-one f g less more i xs [] (λ n ne. h (suc n) (λ e. ne (omega (arith, e)))) at)
  sum-one f g less more zero (o ∷ xs) (q ∷ ys) h at = omega (arith, sum-front f o xs, sum-front g q ys, at, sum-least f g xs ys (λ n. h (suc n) (omega arith)))
  sum-one f g less more (suc i) (o ∷ xs) (q ∷ ys) h at = omega (arith, sum-front f o xs, sum-front g q ys, h 0 (omega arith), sum-one f g less more i xs ys (λ n ne. h (suc n) (λ e. ne (omega (arith, e)))) at)
