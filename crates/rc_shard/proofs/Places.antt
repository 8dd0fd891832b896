-- The place of the reader with an id.
use Rattle.std.proofs.Common.{◌≡◌, ◌==◌, ◌+◌, ◌<◌, ◌≤◌, ℕ, zero, suc, Bool, true, false, cond, not, List, [], ◌∷◌, length, get_or, set, Option, Some, None, is_some, refl, sym, ap, ◌∙◌, arith, nat_lt}
use Rattle.std.specs.List.{position, position_or_len}
use Rattle.std.proofs.lemmas.Bool.Decides.{nat_tests}
use Rattle.std.proofs.lemmas.List.{length-set}
use Rattle.std.proofs.lemmas.List.Folds.{position_or_len-set}
use Rattle.std.proofs.lemmas.List.Quantifiers.{position-Some}

none-is : (b : Bool) (n : ℕ) → cond b (Some n) None ≡ None → b ≡ false
none-is true n e = absurd (cc)
none-is false n e = refl

module _ {X : Type 0} where
  -- the first with an id stands at a place
  abbrev pub IsPlace : ℕ → List (ℕ × X) → ℕ → Type 0
  IsPlace id [] at = ⊥
  IsPlace id (o ∷ os) zero = (o.0 == id) ≡ true
  IsPlace id (o ∷ os) (suc at) = ((o.0 == id) ≡ false) × IsPlace id os at

  -- none has it
  abbrev pub IsNowhere : ℕ → List (ℕ × X) → Type 0
  IsNowhere id [] = Unit {0}
  IsNowhere id (o ∷ os) = ((o.0 == id) ≡ false) × IsNowhere id os

  place-from : (id : ℕ) (os : List (ℕ × X)) (at : ℕ) (d : ℕ × X) → at < length os → ((get_or os at d).0 == id) ≡ true → ((k : ℕ) → k < at → ((get_or os k d).0 == id) ≡ false) → IsPlace id os at
  place-from id [] at d h here before = absurd (omega (arith, h))
  place-from id (o ∷ os) zero d h here before = here
  place-from id (o ∷ os) (suc at) d h here before = (before 0 (omega arith), place-from id os at d (omega (arith, h)) here (λ k l. before (suc k) (omega (arith, l))))

  pub place-of : (id : ℕ) (os : List (ℕ × X)) (at : ℕ) → position (λ o. o.0 == id) os ≡ Some at → IsPlace id os at
  place-of id [] at e = absurd (cc)
  place-of id (o ∷ os) at e = let p = position-Some (λ (x : ℕ × X). x.0 == id) (o ∷ os) at o e in place-from id (o ∷ os) at o p.0 p.1 p.2

  -- there is no other at it
  pub same-there : (id : ℕ) (os : List (ℕ × X)) (at : ℕ) (d e : ℕ × X) → IsPlace id os at → get_or os at d ≡ d → get_or os at e ≡ e → d ≡ e
  same-there id [] at d e p a b = absurd p
  same-there id (o ∷ os) zero d e p a b = sym a ∙ b
  same-there id (o ∷ os) (suc at) d e p a b = same-there id os at d e p.1 a b

  -- there is one
  pub one-of : (id : ℕ) (os : List (ℕ × X)) (at : ℕ) → IsPlace id os at → ℕ × X
  one-of id [] at h = absurd h
  one-of id (o ∷ os) at h = o

  -- whether the id has a place is whether it is open
  pub open-some : (id : ℕ) (os : List (ℕ × X)) (r : Option ℕ) → r ≡ position (λ o. o.0 == id) os → true ≡ is_some r → (at : ℕ) × IsPlace id os at
  open-some id os None e some = absurd (cc)
  open-some id os (Some at) e some = (at, place-of id os at (sym e))

  pub open-none : (id : ℕ) (os : List (ℕ × X)) (r : Option ℕ) → r ≡ position (λ o. o.0 == id) os → false ≡ is_some r → position (λ o. o.0 == id) os ≡ None
  open-none id os None e none = sym e
  open-none id os (Some at) e none = absurd (cc)

  pub in-range : (id : ℕ) (os : List (ℕ × X)) (at : ℕ) → IsPlace id os at → at < length os
  in-range id [] at h = absurd h
  in-range id (o ∷ os) zero h = omega arith
  in-range id (o ∷ os) (suc at) h = let l = in-range id os at h.1 in omega (arith, l)

  nowhere-from : (id : ℕ) (os : List (ℕ × X)) → length os ≤ position_or_len (λ (o : ℕ × X). o.0 == id) os → IsNowhere id os
  nowhere-from id [] h = tt
  nowhere-from id (o ∷ os) h =
      elim (o.0 == id) as (λ b. suc (length os) ≤ cond (not b) (1 + position_or_len (λ (x : ℕ × X). x.0 == id) os) 0 → (b ≡ false) × IsNowhere id os) [
        | true ↦ λ k. absurd (omega (arith, k))
        | false ↦ λ k. (refl, nowhere-from id os (omega (arith, k)))
      ] h

  pub nowhere-of : (id : ℕ) (os : List (ℕ × X)) → position (λ o. o.0 == id) os ≡ None → IsNowhere id os
  nowhere-of id os e =
      let p = none-is (nat_lt (position_or_len (λ (o : ℕ × X). o.0 == id) os) (length os)) (position_or_len (λ (o : ℕ × X). o.0 == id) os) e in
      nowhere-from id os (grind (arith, nat_tests, p))

  -- a place stays where another one of the same id stands at it
  pub position-set : (id : ℕ) (os : List (ℕ × X)) (at : ℕ) (x d : ℕ × X) → x.0 ≡ (get_or os at d).0 → position (λ o. o.0 == id) (set os at x) ≡ position (λ o. o.0 == id) os
  position-set id os at x d same =
      let e = position_or_len-set (λ (o : ℕ × X). o.0 == id) os at x d (ap (λ n. n == id) same) in
      let l = length-set os at x in
      λ i. cond (nat_lt (e i) (l i)) (Some (e i)) None

  -- one that stands at it
  pub own-place : (id : ℕ) (os : List (ℕ × X)) (at : ℕ) (d : ℕ × X) → IsPlace id os at → get_or os at (get_or os at d) ≡ get_or os at d
  own-place id [] at d p = absurd p
  own-place id (o ∷ os) zero d p = refl
  own-place id (o ∷ os) (suc at) d p = own-place id os at d p.1

  pub set-place : (id : ℕ) (os : List (ℕ × X)) (at : ℕ) (x : ℕ × X) → IsPlace id os at → get_or (set os at x) at x ≡ x
  set-place id [] at x p = absurd p
  set-place id (o ∷ os) zero x p = refl
  set-place id (o ∷ os) (suc at) x p = set-place id os at x p.1
