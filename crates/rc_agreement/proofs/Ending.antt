-- Each open gap ends ahead, and less is left behind it.
use Rattle.std.proofs.Common.{◌≡◌, ◌⊎◌, ⊎_elim, inl, inr, ◌+◌, ◌<◌, ◌≤◌, ℕ, List, [], ◌∷◌, refl, sym, ap, ◌∙◌, subst, arith}
use Rattle.std.specs.declared.cmp.Ordering.{Ordering}
use Rattle.std.specs.declared.cmp.Ordering.TheVariants.{Less, Equal, Greater}
use Rattle.std.specs.Ordering.{ordering_reverse}
use Rattle.std.specs.Cmp.{tied_itself}
use Rattle.rc_position.specs.declared.positions.Pos.{Pos}
use Rattle.rc_position.specs.Position.{IsBefore, pos_cmp}
use Rattle.rc_position.specs.laws.Orders.{pos_cmp_same, pos_cmp_total}
use Rattle.rc_core.specs.declared.entries.Entry.{Entry}
use Rattle.rc_core.specs.AtPlace.{HasEntryAt}
use Rattle.rc_core.specs.Parts.{IsReach, SomeHasEntryAt}
use Rattle.rc_core.specs.Version.{Version, end_position}

-- ---- how much is left from a place on

-- an entry that stands behind the place counts twice, and one at it once
abbrev left_by : Ordering → ℕ
left_by Less = 0
left_by Equal = 1
left_by Greater = 2

abbrev left_in : Pos → List Entry → ℕ
left_in x [] = 0
left_in x (e ∷ es) = left_by (pos_cmp e.position x) + left_in x es

abbrev left_of : Pos → List Version → ℕ
left_of x [] = 0
left_of x (v ∷ vs) = left_in x v.entries + left_of x vs

-- before the end there is one part more
abbrev one_before : Ordering → ℕ
one_before Less = 1
one_before Equal = 0
one_before Greater = 0

-- how much of versions is left from a place on
abbrev pub left_from : Pos → List Version → ℕ
left_from x versions = one_before (pos_cmp x end_position) + left_of x versions

most : (r : Ordering) → left_by r ≤ 2
most Less = omega arith
most Equal = omega arith
most Greater = omega arith

most-one : (r : Ordering) → one_before r ≤ 1
most-one Less = omega arith
most-one Equal = omega arith
most-one Greater = omega arith

turn-to : (x y : Pos) (r : Ordering) → pos_cmp x y ≡ r → pos_cmp y x ≡ ordering_reverse r
turn-to x y r e = pos_cmp_total.antisymm y x ∙ ap ordering_reverse e

no-more : (p x y : Pos) → IsBefore x y → left_by (pos_cmp p y) ≤ left_by (pos_cmp p x)
no-more p x y l = elim (pos_cmp p x) as (λ r. pos_cmp p x ≡ r → left_by (pos_cmp p y) ≤ left_by r) [
  | Less ↦ λ e. let now : left_by (pos_cmp p y) ≡ 0 = ap left_by (pos_cmp_total.trans p x y e l) in omega (arith, now)
  | Equal ↦ λ e. let now : left_by (pos_cmp p y) ≡ 0 = ap left_by (subst (λ q. pos_cmp q y ≡ Less) (sym (pos_cmp_same p x e)) l) in omega (arith, now)
  | Greater ↦ λ e. most (pos_cmp p y)
] refl

fewer-at : (p x y : Pos) → IsBefore x y → (p ≡ x) ⊎ (p ≡ y) → left_by (pos_cmp p y) < left_by (pos_cmp p x)
fewer-at p x y l h = ⊎_elim
    (λ e. let was : left_by (pos_cmp p x) ≡ 1 = ap left_by (subst (λ q. pos_cmp p q ≡ Equal) e (tied_itself pos_cmp_total p)) in
    let now : left_by (pos_cmp p y) ≡ 0 = ap left_by (subst (λ q. pos_cmp q y ≡ Less) (sym e) l) in omega (arith, was, now))
    (λ e. let now : left_by (pos_cmp p y) ≡ 1 = ap left_by (subst (λ q. pos_cmp p q ≡ Equal) e (tied_itself pos_cmp_total p)) in
    let was : left_by (pos_cmp p x) ≡ 2 = ap left_by (subst (λ q. pos_cmp q x ≡ Greater) (sym e) (turn-to x y Less l)) in omega (arith, was, now))
    h

no-more-in : (x y : Pos) (es : List Entry) → IsBefore x y → left_in y es ≤ left_in x es
no-more-in x y [] l = omega arith
no-more-in x y (e ∷ es) l = let one = no-more e.position x y l in let rest = no-more-in x y es l in omega (arith, one, rest)

fewer-in : (x y : Pos) (es : List Entry) → IsBefore x y → HasEntryAt x es ⊎ HasEntryAt y es → left_in y es < left_in x es
fewer-in x y [] l h = ⊎_elim (λ n. absurd n) (λ n. absurd n) h
fewer-in x y (e ∷ es) l h =
    let rest = no-more-in x y es l in
    let one = no-more e.position x y l in
    ⊎_elim
    (λ g. ⊎_elim (λ at. let less = fewer-at e.position x y l (inl at) in omega (arith, less, rest)) (λ k. let less = fewer-in x y es l (inl k) in omega (arith, less, one)) g)
    (λ g. ⊎_elim (λ at. let less = fewer-at e.position x y l (inr at) in omega (arith, less, rest)) (λ k. let less = fewer-in x y es l (inr k) in omega (arith, less, one)) g)
    h

no-more-of : (x y : Pos) (vs : List Version) → IsBefore x y → left_of y vs ≤ left_of x vs
no-more-of x y [] l = omega arith
no-more-of x y (v ∷ vs) l = let one = no-more-in x y v.entries l in let rest = no-more-of x y vs l in omega (arith, one, rest)

fewer-of : (x y : Pos) (vs : List Version) → IsBefore x y → SomeHasEntryAt x vs ⊎ SomeHasEntryAt y vs → left_of y vs < left_of x vs
fewer-of x y [] l h = ⊎_elim (λ n. absurd n) (λ n. absurd n) h
fewer-of x y (v ∷ vs) l h =
    let rest = no-more-of x y vs l in
    let one = no-more-in x y v.entries l in
    ⊎_elim
    (λ g. ⊎_elim (λ at. let less = fewer-in x y v.entries l (inl at) in omega (arith, less, rest)) (λ k. let less = fewer-of x y vs l (inl k) in omega (arith, less, one)) g)
    (λ g. ⊎_elim (λ at. let less = fewer-in x y v.entries l (inr at) in omega (arith, less, rest)) (λ k. let less = fewer-of x y vs l (inr k) in omega (arith, less, one)) g)
    h

-- less is left behind an open gap
pub reach-less : (versions : List Version) (x to : Pos) → IsBefore x end_position → IsReach versions x end_position to → left_from to versions < left_from x versions
reach-less versions x to inside r =
    let was : one_before (pos_cmp x end_position) ≡ 1 = ap one_before inside in
    ⊎_elim
    (λ e. let none : one_before (pos_cmp to end_position) ≡ 0 = ap one_before (subst (λ z. pos_cmp to z ≡ Equal) e (tied_itself pos_cmp_total to)) in
    let rest = no-more-of x to versions r.ahead in omega (arith, none, rest, was))
    (λ s. let less = fewer-of x to versions r.ahead (inr s) in let one = most-one (pos_cmp to end_position) in omega (arith, less, one, was))
    r.stops
