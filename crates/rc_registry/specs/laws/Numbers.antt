-- Numbers that each stand once in a list.
use Rattle.std.proofs.Common.{◌≡◌, ◌⊎◌, ℕ, ◌<◌, ◌≤◌, List, [], ◌∷◌, ◌++◌, length, Bool, true, false, eqb, ◌||◌, refl, sym, subst, inl, inr, ne_eqb}
use Rattle.std.specs.List.{IsDistinct, AllByRecursion, list_any}
use Rattle.std.proofs.lemmas.Bool.Decides.{eqb_tells}
use Rattle.std.proofs.lemmas.Map.Steps.{length-le_from_distinct_below}
use Rattle.rc_registry.specs.Registry.{IsNumberIn, AreOnce}

-- ---- lists joined

pub IsOneOf-front : (xs ys : List ℕ) (n : ℕ) → IsNumberIn xs n → IsNumberIn (xs ++ ys) n
IsOneOf-front [] ys n h = absurd h
IsOneOf-front (x ∷ xs) ys n h = elim h [ inl e ↦ inl e | inr k ↦ inr (IsOneOf-front xs ys n k) ]

pub IsOneOf-back : (xs ys : List ℕ) (n : ℕ) → IsNumberIn ys n → IsNumberIn (xs ++ ys) n
IsOneOf-back [] ys n h = h
IsOneOf-back (x ∷ xs) ys n h = inr (IsOneOf-back xs ys n h)

pub IsOneOf-parts : (xs ys : List ℕ) (n : ℕ) → IsNumberIn (xs ++ ys) n → IsNumberIn xs n ⊎ IsNumberIn ys n
IsOneOf-parts [] ys n h = inr h
IsOneOf-parts (x ∷ xs) ys n h = elim h [ inl e ↦ inl (inl e) | inr k ↦ elim (IsOneOf-parts xs ys n k) [ inl a ↦ inl (inr a) | inr b ↦ inr b ] ]

-- each of the back part stands there once
pub AreOnce-back : (xs ys : List ℕ) → AreOnce (xs ++ ys) → AreOnce ys
AreOnce-back [] ys once = once
AreOnce-back (x ∷ xs) ys once = AreOnce-back xs ys once.1

-- one more behind
pub AreOnce-push : (xs : List ℕ) (n : ℕ) → AreOnce xs → (IsNumberIn xs n → ⊥) → AreOnce (xs ++ n ∷ [])
AreOnce-push [] n once new = (λ h. h, tt)
AreOnce-push (x ∷ xs) n once new =
    (λ h. elim (IsOneOf-parts xs (n ∷ []) x h) [ inl a ↦ once.0 a | inr b ↦ elim b [ inl e ↦ new (inl (sym e)) | inr none ↦ none ] ], AreOnce-push xs n once.1 (λ h. new (inr h)))

-- one out of the middle
pub AreOnce-without : (xs ys : List ℕ) (n : ℕ) → AreOnce (xs ++ n ∷ ys) → AreOnce (xs ++ ys)
AreOnce-without [] ys n once = once.1
AreOnce-without (x ∷ xs) ys n once =
    (λ h. once.0 (elim (IsOneOf-parts xs ys x h) [ inl a ↦ IsOneOf-front xs (n ∷ ys) x a | inr b ↦ IsOneOf-back xs (n ∷ ys) x (inr b) ]), AreOnce-without xs ys n once.1)

-- the one in the middle is none of the others
pub AreOnce-apart : (xs ys : List ℕ) (n : ℕ) → AreOnce (xs ++ n ∷ ys) → IsNumberIn (xs ++ ys) n → ⊥
AreOnce-apart [] ys n once h = once.0 h
AreOnce-apart (x ∷ xs) ys n once h = elim h [ inl e ↦ once.0 (subst (λ k. IsNumberIn (xs ++ n ∷ ys) k) (sym e) (IsOneOf-back xs (n ∷ ys) n (inl refl))) | inr k ↦ AreOnce-apart xs ys n once.1 k ]

-- ---- how many there are

apart : (xs : List ℕ) (n : ℕ) → (IsNumberIn xs n → ⊥) → AllByRecursion (λ y. eqb n y ≡ false) xs
apart [] n no_one = tt
apart (x ∷ xs) n no_one = (ne_eqb n x (λ e. no_one (inl (sym e))), apart xs n (λ h. no_one (inr h)))

distinct : (xs : List ℕ) → AreOnce xs → IsDistinct eqb xs
unfolding IsDistinct
distinct [] once = tt
distinct (x ∷ xs) once = (apart xs x once.0, distinct xs once.1)

found : (xs : List ℕ) (n : ℕ) → list_any (eqb n) xs ≡ true → IsNumberIn xs n
found [] n any = absurd (cc)
found (x ∷ xs) n any = elim (eqb_tells n x) [ inl e ↦ inl (sym e.1) | inr e ↦ inr (found xs n (rest (eqb n x) (list_any (eqb n) xs) e.0 any)) ]
  where
    rest : (a b : Bool) → a ≡ false → (a || b) ≡ true → b ≡ true
    rest true b e any = absurd (cc)
    rest false b e any = any

-- numbers below a bound, each once, are at most as many
pub length-AreOnce : (xs : List ℕ) (bound : ℕ) → AreOnce xs → ((n : ℕ) → IsNumberIn xs n → n < bound) → length xs ≤ bound
length-AreOnce xs bound once below = length-le_from_distinct_below xs bound (distinct xs once) (λ q any. below q (found xs q any))
