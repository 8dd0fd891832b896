-- Items that come one behind another, and what holds of all of a list.
use Rattle.std.proofs.Common.{◌≡◌, ℕ, zero, suc, ◌+◌, ◌-◌, ◌<◌, ◌≤◌, List, [], ◌∷◌, ◌++◌, length, get_or, take, drop, refl, sym, ap, ◌∙◌, arith, append-nil, append_assoc}
use Rattle.std.specs.Prelude.{All}
use Rattle.std.specs.List.{flat_map, AllByRecursion}
use Rattle.std.proofs.lemmas.Grind.{flat_map-append}
use Rattle.std.proofs.lemmas.List.{take_more, take_rest}
use Rattle.rc_items.specs.Items.{Item, item_code}
use Rattle.rc_items.specs.Before.{ItemsBefore, text, followed_by}

-- what each of one more gives comes last
pub one_more : {X A : Type 0} (f : X → List A) (xs : List X) (i : ℕ) (x : X) → i < length xs → x ≡ get_or xs i x → flat_map f (take (i + 1) xs) ≡ flat_map f (take i xs) ++ f x
one_more f xs i x lt is =
    ap (flat_map f) (take_more xs i x lt) ∙ flat_map-append f (take i xs) (get_or xs i x ∷ []) ∙ ap (λ t. flat_map f (take i xs) ++ t) (append-nil (f (get_or xs i x)) ∙ ap f (sym is))

pub followed_by-append : (before : ItemsBefore) (xs ys : List Item) → followed_by before (xs ++ ys) ≡ followed_by (followed_by before xs) ys
followed_by-append before [] ys = refl
followed_by-append before (x ∷ xs) ys = followed_by-append (x ∷ before) xs ys

-- the text grows by what comes behind
pub text-followed_by : (before : ItemsBefore) (xs : List Item) → text (followed_by before xs) ≡ text before ++ flat_map item_code xs
text-followed_by before [] = sym (append-nil (text before))
text-followed_by before (x ∷ xs) = text-followed_by (x ∷ before) xs ∙ append_assoc (text before) (item_code x) (flat_map item_code xs)

pub all_of : {X : Type 0} (P : X → Type 0) (xs : List X) → AllByRecursion P xs → All P xs
all_of P [] h k d lt = absurd (omega arith)
all_of P (x ∷ xs) h zero d lt = h.0
all_of P (x ∷ xs) h (suc k) d lt = all_of P xs h.1 k d (omega arith)

pub by_recursion : {X : Type 0} (P : X → Type 0) (xs : List X) → All P xs → AllByRecursion P xs
by_recursion P [] h = tt
by_recursion P (x ∷ xs) h = (h 0 x (omega arith), by_recursion P xs (λ k d lt. h (suc k) d (omega arith)))

pub all_append : {X : Type 0} (P : X → Type 0) (xs ys : List X) → AllByRecursion P xs → AllByRecursion P ys → AllByRecursion P (xs ++ ys)
all_append P [] ys h g = g
all_append P (x ∷ xs) ys h g = (h.0, all_append P xs ys h.1 g)

-- a list is its first and the rest
pub first_and_rest : {X : Type 0} (xs : List X) (x : X) → 1 ≤ length xs → x ≡ get_or xs 0 x → xs ≡ x ∷ take (length xs - 1) (drop 1 xs)
first_and_rest [] x n e = absurd (omega (arith, n))
first_and_rest (y ∷ xs) x n e = let r : take (length (y ∷ xs) - 1) (drop 1 (y ∷ xs)) ≡ xs = take_rest (y ∷ xs) 1 in λ i. sym e i ∷ sym r i
