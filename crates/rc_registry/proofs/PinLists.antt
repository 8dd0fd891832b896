-- Pins as a list: what is read and written at a number.
use Rattle.std.proofs.Common.{◌≡◌, ℕ, zero, suc, ◌+◌, ◌-◌, ◌<◌, ◌≤◌, List, [], ◌∷◌, ◌++◌, length, get_or, Option, Some, None, IsTrue, IsSome, ◌↔◌, slice_index_or, slice_set, take, drop, map, refl, sym, ap, subst, ◌∙◌, inl, inr, arith}
use Rattle.std.proofs.Math.ListN.{set}
use Rattle.std.specs.Prelude.{is_none}
use Rattle.std.specs.List.{list_all}
use Rattle.std.proofs.lemmas.List.{take_all, append-nil}
use Rattle.rc_core.specs.Steps.{free_number, number_after_removal, pin_at, pins_with, pins_without}
use Rattle.rc_registry.specs.Registry.{AreFree}

pub pin_at-is : (pins : List (Option ℕ)) (i : ℕ) → get_or pins i None ≡ pin_at pins i
pin_at-is [] i = refl
pin_at-is (p ∷ ps) zero = refl
pin_at-is (p ∷ ps) (suc i) = pin_at-is ps i

-- a number that is taken stands in the list
pub pin_at-there : (pins : List (Option ℕ)) (i : ℕ) → IsSome (pin_at pins i) → i < length pins
pin_at-there [] i taken = absurd (cc)
pin_at-there (p ∷ ps) zero taken = omega arith
pin_at-there (p ∷ ps) (suc i) taken = omega (arith, pin_at-there ps i taken)

pub released-is : (pins : List (Option ℕ)) (i : ℕ) → set pins i None ≡ pins_without i pins
released-is [] i = refl
released-is (p ∷ ps) zero = refl
released-is (p ∷ ps) (suc i) = ap (λ qs. p ∷ qs) (released-is ps i)

-- at the least free number within the list
pub pinned-within : (version : ℕ) (pins : List (Option ℕ)) → free_number pins < length pins → set pins (free_number pins) (Some version) ≡ pins_with version pins
pinned-within version [] lt = absurd (omega arith)
pinned-within version (None ∷ ps) lt = refl
pinned-within version (Some p ∷ ps) lt = ap (λ qs. Some p ∷ qs) (pinned-within version ps (omega arith))

-- no number of the list is free
pub pinned-behind : (version : ℕ) (pins : List (Option ℕ)) → length pins ≤ free_number pins → pins ++ Some version ∷ [] ≡ pins_with version pins
pinned-behind version [] le = refl
pinned-behind version (None ∷ ps) le = absurd (omega arith)
pinned-behind version (Some p ∷ ps) le = ap (λ qs. Some p ∷ qs) (pinned-behind version ps (omega arith))

pub free_number-le : (pins : List (Option ℕ)) → free_number pins ≤ length pins
free_number-le [] = omega arith
free_number-le (None ∷ ps) = omega arith
free_number-le (Some p ∷ ps) = omega (arith, free_number-le ps)

-- a newer version has a number less by one
pub renumbered-newer : (n j : ℕ) → n < j → j - 1 ≡ number_after_removal n j
renumbered-newer zero zero lt = absurd (omega arith)
renumbered-newer zero (suc j) lt = omega arith
renumbered-newer (suc n) zero lt = absurd (omega arith)
renumbered-newer (suc n) (suc j) lt = let h = renumbered-newer n j (omega arith) in omega (arith, h)

pub renumbered-older : (n j : ℕ) → j ≤ n → j ≡ number_after_removal n j
renumbered-older zero zero le = refl
renumbered-older zero (suc j) le = absurd (omega arith)
renumbered-older (suc n) zero le = refl
renumbered-older (suc n) (suc j) le = ap suc (renumbered-older n j (omega arith))

-- a number behind the list is free
pub pin_at-behind : (pins : List (Option ℕ)) (i : ℕ) → length pins ≤ i → None ≡ pin_at pins i
pin_at-behind [] i le = refl
pin_at-behind (p ∷ ps) zero le = absurd (omega arith)
pin_at-behind (p ∷ ps) (suc i) le = pin_at-behind ps i (omega arith)

-- ---- elements written in place

pub step-set : {A : Type 0} (f : A → A) (xs ys : List A) (i : ℕ) (d y : A) → i < length xs → ys ≡ map f (take i xs) ++ drop i xs → y ≡ f (slice_index_or ys i d) → slice_set ys i y ≡ map f (take (i + 1) xs) ++ drop (i + 1) xs
step-set f xs ys i d y lt e h =
    let k : suc i ≡ i + 1 = omega arith in
    subst (λ k. slice_set ys i y ≡ map f (take k xs) ++ drop k xs) k
    (subst (λ zs. slice_set zs i y ≡ map f (take (suc i) xs) ++ drop (suc i) xs) (sym e)
    (subst (λ z. slice_set (map f (take i xs) ++ drop i xs) i z ≡ map f (take (suc i) xs) ++ drop (suc i) xs) (sym (h ∙ ap (λ zs. f (slice_index_or zs i d)) e)) (at_index f xs i d lt)))
  where
    at_index : {A : Type 0} (f : A → A) (xs : List A) (i : ℕ) (d : A) → i < length xs →
        slice_set (map f (take i xs) ++ drop i xs) i (f (slice_index_or (map f (take i xs) ++ drop i xs) i d)) ≡ map f (take (suc i) xs) ++ drop (suc i) xs
    at_index f [] i d lt = absurd (omega arith)
    at_index f (x ∷ xs) zero d lt = refl
    at_index f (x ∷ xs) (suc i) d lt = ap (λ zs. f x ∷ zs) (at_index f xs i d (omega arith))

pub whole-set : {A : Type 0} (f : A → A) (xs : List A) (i : ℕ) → length xs ≤ i → map f (take i xs) ++ drop i xs ≡ map f xs
whole-set f [] zero le = refl
whole-set f [] (suc i) le = refl
whole-set f (x ∷ xs) zero le = absurd (omega arith)
whole-set f (x ∷ xs) (suc i) le = ap (λ zs. f x ∷ zs) (whole-set f xs i (omega arith))

-- all numbers are free where no version is pinned
pub free-is : (pins : List (Option ℕ)) → IsTrue (list_all is_none pins) ↔ AreFree pins
free-is pins = (none pins, all pins)
  where
    none : (pins : List (Option ℕ)) → IsTrue (list_all is_none pins) → AreFree pins
    none [] h j k = k
    none (None ∷ ps) h j k = elim k [ inl e ↦ absurd (cc) | inr m ↦ none ps h j m ]
    none (Some p ∷ ps) h j k = absurd (cc)

    all : (pins : List (Option ℕ)) → AreFree pins → IsTrue (list_all is_none pins)
    all [] h = refl
    all (None ∷ ps) h = all ps (λ j k. h j (inr k))
    all (Some p ∷ ps) h = absurd (h p (inl refl))

-- what is written through a slice of a whole list
pub written-back : {A : Type 0} (xs ys : List A) (n : ℕ) → n ≡ length ys → length xs ≡ length ys → take n (xs ++ drop (length xs) ys) ≡ xs
written-back xs ys n e l = rw (nothing ys (length xs) (omega arith), append-nil xs) (take_all n xs (omega arith))
  where
    nothing : {A : Type 0} (ys : List A) (k : ℕ) → length ys ≤ k → drop k ys ≡ []
    nothing [] zero le = refl
    nothing [] (suc k) le = refl
    nothing (y ∷ ys) zero le = absurd (omega arith)
    nothing (y ∷ ys) (suc k) le = nothing ys k (omega arith)

-- what an index within the list reads
pub pin_at-read : (pins : List (Option ℕ)) (i : ℕ) (x : Option ℕ) → i < length pins → x ≡ get_or pins i x → x ≡ pin_at pins i
pin_at-read [] i x lt e = absurd (omega arith)
pin_at-read (p ∷ ps) zero x lt e = e
pin_at-read (p ∷ ps) (suc i) x lt e = pin_at-read ps i x (omega arith) e
