-- The greatest of some values, for crates above to cite: of lists one behind the other, in another order, twice, of one and of two.
use Rattle.std.specs.Prelude.{Bool, true, false, not, ◌&&◌, ◌||◌, List, [], ◌∷◌, ◌++◌, Option, Some, None, is_some, cond}
use Rattle.std.proofs.Common.{◌≡◌, refl, sym, ap, ◌∙◌}
use Rattle.std.specs.declared.cmp.Ordering.{Ordering}
use Rattle.std.specs.declared.cmp.Ordering.TheVariants.{Less, Equal, Greater}
use Rattle.std.specs.Ordering.{is_lt, is_gt, ordering_reverse}
use Rattle.std.specs.Option.{option_to_list}
use Rattle.std.specs.List.{filter, list_any, list_all}
use Rattle.std.specs.Cmp.{IsTotalOrder, upto, tied_itself}
use Rattle.std.specs.FinMap.{IsAntisymmetric}
use Rattle.rc_cell.specs.Winner.{first_of, greatest}
use Rattle.rc_cell.specs.Greatest.{greater}
use Rattle.rc_cell.specs.calls.Greatest.{is_nil}

-- the test of the value, true where there is none, and false where there is none
abbrev pub if_any : {K : Type 0} → (K → Bool) → Option K → Bool
if_any p None = true
if_any p (Some x) = p x

-- there is a value and it passes
abbrev pub some_passes : {K : Type 0} → (K → Bool) → Option K → Bool
some_passes p None = false
some_passes p (Some x) = p x

-- the greater of the first and of the greatest of the others
abbrev pub top : {K : Type 0} → (K → K → Ordering) → List K → Option K
top R [] = None
top R (x ∷ xs) = greater R (Some x) (top R xs)

and_left : (a b : Bool) → (a ≡ true → b ≡ true) → (a && b) ≡ a
and_left true b h = h refl
and_left false b h = refl

and_right : (a b : Bool) → (b ≡ true → a ≡ true) → (a && b) ≡ b
and_right true b h = refl
and_right false true h = h refl
and_right false false h = refl

or_left : (a b : Bool) → (b ≡ true → a ≡ true) → (a || b) ≡ a
or_left true b h = refl
or_left false true h = sym (h refl)
or_left false false h = refl

or_right : (a b : Bool) → (a ≡ true → b ≡ true) → (a || b) ≡ b
or_right true b h = sym (h refl)
or_right false b h = refl

pub and_true : (a : Bool) → (a && true) ≡ a
and_true true = refl
and_true false = refl

or_false : (a : Bool) → (a || false) ≡ a
or_false true = refl
or_false false = refl

pub and_same : (a : Bool) → (a && a) ≡ a
and_same true = refl
and_same false = refl

pub and_comm : (a b : Bool) → (a && b) ≡ (b && a)
and_comm true true = refl
and_comm true false = refl
and_comm false true = refl
and_comm false false = refl

and_first : (a b : Bool) → (a && b) ≡ true → a ≡ true
and_first true b h = refl
and_first false b h = h

and_second : (a b : Bool) → (a && b) ≡ true → b ≡ true
and_second true b h = h
and_second false b h = absurd (cc)

not_true : (a : Bool) → not a ≡ true → a ≡ false
not_true true h = absurd (cc)
not_true false h = refl

turn_gt : (r : Ordering) → is_gt (ordering_reverse r) ≡ is_lt r
turn_gt Less = refl
turn_gt Equal = refl
turn_gt Greater = refl

up_of_less : (r : Ordering) → is_lt r ≡ true → not (is_gt r) ≡ true
up_of_less Less h = refl
up_of_less Equal h = refl
up_of_less Greater h = h

level : (r : Ordering) → not (is_gt r) ≡ true → not (is_lt r) ≡ true → r ≡ Equal
level Less h k = absurd (cc)
level Equal h k = refl
level Greater h k = absurd (cc)

pub list_all-append : {K : Type 0} (p : K → Bool) (xs ys : List K) → list_all p (xs ++ ys) ≡ (list_all p xs && list_all p ys)
list_all-append p [] ys = refl
list_all-append p (x ∷ xs) ys = elim (p x) as (λ b. (b && list_all p (xs ++ ys)) ≡ ((b && list_all p xs) && list_all p ys)) [ true ↦ list_all-append p xs ys | false ↦ refl ]

is_nil-append : {K : Type 0} (xs ys : List K) → is_nil (xs ++ ys) ≡ (is_nil xs && is_nil ys)
is_nil-append [] ys = refl
is_nil-append (x ∷ xs) ys = refl

module _ {K : Type 0} {R : K → K → Ordering} (o : IsTotalOrder R) where
  -- x is at most y
  abbrev at_most : K → K → Bool
  at_most x y = not (is_gt (R x y))

  chain : (x y z : K) → at_most x y ≡ true → at_most y z ≡ true → at_most x z ≡ true
  chain x y z h k = ap not (upto o x y z (not_true _ h) (not_true _ k))

  at_most_itself : (x : K) → at_most x x ≡ true
  at_most_itself x = ap (λ r. not (is_gt r)) (tied_itself o x)

  -- R x y is not `Less` exactly where y is at most x
  turned : (x y : K) → at_most y x ≡ not (is_lt (R x y))
  turned x y = ap (λ r. not (is_gt r)) (o.antisymm y x) ∙ ap not (turn_gt (R x y))

  both_at_most : (y m x : K) → (at_most y x && at_most m x) ≡ at_most (cond (is_lt (R y m)) m y) x
  both_at_most y m x =
      elim (is_lt (R y m)) as (λ b. is_lt (R y m) ≡ b → (at_most y x && at_most m x) ≡ at_most (cond b m y) x) [
        | true ↦ λ h. and_right _ _ (λ k. chain y m x (up_of_less _ h) k)
        | false ↦ λ h. and_left _ _ (λ k. chain m y x (turned y m ∙ ap not h) k)
      ] refl

  one_at_least : (y m z : K) → (at_most z y || at_most z m) ≡ at_most z (cond (is_lt (R y m)) m y)
  one_at_least y m z =
      elim (is_lt (R y m)) as (λ b. is_lt (R y m) ≡ b → (at_most z y || at_most z m) ≡ at_most z (cond b m y)) [
        | true ↦ λ h. or_right _ _ (λ k. chain z y m k (up_of_less _ h))
        | false ↦ λ h. or_left _ _ (λ k. chain z m y k (turned y m ∙ ap not h))
      ] refl

  -- each is at most x exactly where the top is
  all-top : (x : K) (xs : List K) → list_all (λ y. at_most y x) xs ≡ if_any (λ m. at_most m x) (top R xs)
  all-top x [] = refl
  all-top x (y ∷ ys) =
      ap (λ b. at_most y x && b) (all-top x ys)
      ∙ elim (top R ys) as (λ t. (at_most y x && if_any (λ m. at_most m x) t) ≡ if_any (λ m. at_most m x) (greater R (Some y) t)) [ None ↦ and_true _ | Some m ↦ both_at_most y m x ]

  any-top : (z : K) (xs : List K) → list_any (λ y. at_most z y) xs ≡ some_passes (λ m. at_most z m) (top R xs)
  any-top z [] = refl
  any-top z (y ∷ ys) =
      ap (λ b. at_most z y || b) (any-top z ys)
      ∙ elim (top R ys) as (λ t. (at_most z y || some_passes (λ m. at_most z m) t) ≡ some_passes (λ m. at_most z m) (greater R (Some y) t)) [ None ↦ or_false _ | Some m ↦ one_at_least y m z ]

  module _ (same : IsAntisymmetric R) where
    pinned : (x y : K) → at_most x y ≡ true → at_most y x ≡ true → x ≡ y
    pinned x y h k = same x y (level (R x y) h (sym (turned x y) ∙ k))

    first_above : (m : K) (xs : List K) → list_all (λ x. at_most x m) xs ≡ true → first_of (filter (λ x. at_most m x) xs) ≡ cond (list_any (λ x. at_most m x) xs) (Some m) None
    first_above m [] h = refl
    first_above m (x ∷ xs) h =
        elim (at_most m x) as (λ b. at_most m x ≡ b → first_of (cond b (x ∷ filter (λ x. at_most m x) xs) (filter (λ x. at_most m x) xs)) ≡ cond (b || list_any (λ x. at_most m x) xs) (Some m) None) [
          | true ↦ λ k. ap Some (pinned x m (and_first _ _ h) k)
          | false ↦ λ _. first_above m xs (and_second _ _ h)
        ] refl

    chosen-top : (xs : List K) (t : Option K) → top R xs ≡ t → first_of (filter (λ x. if_any (λ m. at_most m x) t) xs) ≡ t
    chosen-top [] t e = e
    chosen-top (x ∷ xs) None e = elim (top R xs) as (λ s. greater R (Some x) s ≡ None → first_of (filter (λ x. true) (x ∷ xs)) ≡ None) [ None ↦ λ h. cc | Some m ↦ λ h. cc ] e
    chosen-top (x ∷ xs) (Some m) e =
        first_above m (x ∷ xs) (all-top m (x ∷ xs) ∙ ap (if_any (λ n. at_most n m)) e ∙ at_most_itself m)
        ∙ ap (λ b. cond b (Some m) None) (any-top m (x ∷ xs) ∙ ap (some_passes (λ n. at_most m n)) e ∙ at_most_itself m)

    -- the greatest is found by going over the list once
    pub greatest-top : (xs : List K) → greatest R xs ≡ top R xs
    unfolding greatest
    greatest-top xs = (λ i. first_of (filter (λ x. all-top x xs i) xs)) ∙ chosen-top xs (top R xs) refl

    is_some-top : (xs : List K) → is_some (top R xs) ≡ not (is_nil xs)
    is_some-top [] = refl
    is_some-top (x ∷ xs) = elim (top R xs) as (λ s. is_some (greater R (Some x) s) ≡ true) [ None ↦ refl | Some m ↦ refl ]

    same_top : (s t : Option K) → is_some s ≡ is_some t → ((x : K) → if_any (λ m. at_most m x) s ≡ if_any (λ m. at_most m x) t) → s ≡ t
    same_top None None e h = refl
    same_top None (Some y) e h = absurd (cc)
    same_top (Some x) None e h = absurd (cc)
    same_top (Some x) (Some y) e h = ap Some (pinned x y (h y ∙ at_most_itself y) (sym (h x) ∙ at_most_itself x))

    -- two lists with the same upper bounds, both empty or neither, have the same greatest
    pub same_greatest : (xs ys : List K) → is_nil xs ≡ is_nil ys → ((x : K) → list_all (λ y. at_most y x) xs ≡ list_all (λ y. at_most y x) ys) → greatest R xs ≡ greatest R ys
    same_greatest xs ys e h =
        greatest-top xs
        ∙ same_top (top R xs) (top R ys) (is_some-top xs ∙ ap not e ∙ sym (is_some-top ys)) (λ x. sym (all-top x xs) ∙ h x ∙ all-top x ys)
        ∙ sym (greatest-top ys)

    bounds-top : (xs : List K) (x : K) → list_all (λ y. at_most y x) (option_to_list (top R xs)) ≡ list_all (λ y. at_most y x) xs
    bounds-top xs x = elim (top R xs) as (λ t. list_all (λ y. at_most y x) (option_to_list t) ≡ if_any (λ m. at_most m x) t) [ None ↦ refl | Some m ↦ and_true _ ] ∙ sym (all-top x xs)

    is_nil-top : (xs : List K) → is_nil (option_to_list (top R xs)) ≡ is_nil xs
    is_nil-top [] = refl
    is_nil-top (x ∷ xs) = elim (top R xs) as (λ s. is_nil (option_to_list (greater R (Some x) s)) ≡ false) [ None ↦ refl | Some m ↦ refl ]

    -- of two lists together the greatest is the greatest of the two greatest
    pub greatest-append : (xs ys : List K) → greatest R (xs ++ ys) ≡ greatest R (option_to_list (greatest R xs) ++ option_to_list (greatest R ys))
    greatest-append xs ys =
        same_greatest _ _
        (is_nil-append xs ys ∙ sym (is_nil-append (option_to_list (top R xs)) (option_to_list (top R ys)) ∙ (λ i. is_nil-top xs i && is_nil-top ys i)))
        (λ x. list_all-append _ xs ys ∙ sym (list_all-append _ (option_to_list (top R xs)) (option_to_list (top R ys)) ∙ (λ i. bounds-top xs x i && bounds-top ys x i)))
        ∙ sym (λ i. greatest R (option_to_list (greatest-top xs i) ++ option_to_list (greatest-top ys i)))

    pub greatest-swap : (xs ys : List K) → greatest R (xs ++ ys) ≡ greatest R (ys ++ xs)
    greatest-swap xs ys =
        same_greatest _ _
        (is_nil-append xs ys ∙ and_comm (is_nil xs) (is_nil ys) ∙ sym (is_nil-append ys xs))
        (λ x. list_all-append _ xs ys ∙ and_comm (list_all (λ y. at_most y x) xs) (list_all (λ y. at_most y x) ys) ∙ sym (list_all-append _ ys xs))

    pub greatest-twice : (xs : List K) → greatest R (xs ++ xs) ≡ greatest R xs
    greatest-twice xs = same_greatest _ _ (is_nil-append xs xs ∙ and_same _) (λ x. list_all-append _ xs xs ∙ and_same _)

    -- of two that may be there, and of one
    pub greatest-two : (s t : Option K) → greatest R (option_to_list s ++ option_to_list t) ≡ greater R s t
    greatest-two None None = greatest-top []
    greatest-two None (Some y) = greatest-top (y ∷ [])
    greatest-two (Some x) None = greatest-top (x ∷ [])
    greatest-two (Some x) (Some y) = greatest-top (x ∷ y ∷ [])

    pub greatest-one : (s : Option K) → greatest R (option_to_list s) ≡ s
    greatest-one None = greatest-top []
    greatest-one (Some x) = greatest-top (x ∷ [])

pub greatest-none : {K : Type 0} (R : K → K → Ordering) → greatest R [] ≡ None
unfolding greatest
greatest-none R = refl
