-- References are told apart, and two of them change places.
use Rattle.std.proofs.Common.{◌≡◌, ◌≢◌, ◌⊎◌, inl, inr, Bool, true, false, ◌&&◌, cond, refl, sym, ap, ◌∙◌}
use Rattle.std.specs.Prelude.{nat_eq}
use Rattle.std.proofs.lemmas.Bool.{eqb-true, eq-eqb}
use Rattle.lsa_store.specs.declared.place.Ref.{Ref}
use Rattle.lsa_store.specs.laws.Places.{ref-equal, apart_refs}
use Rattle.lsa_region.specs.Ends.{same_ref}
use Rattle.lsa_region.specs.calls.Ends.{swapped_ref}

pub refs_decided : (q r : Ref) → (q ≡ r) ⊎ (q ≢ r)
refs_decided q r = elim (apart_refs q r) [
  | inl e ↦ inl e
  | inr (inl d) ↦ inr (λ e. d (ap (λ (x : Ref). x.segment) e))
  | inr (inr d) ↦ inr (λ e. d.1 (ap (λ (x : Ref). x.offset) e))
]

pub both : (a b : Bool) → a && b ≡ true → (a ≡ true) × (b ≡ true)
both true true e = (refl, refl)
both true false e = cc
both false b e = cc

pub not_true : (b : Bool) → (b ≡ true → ⊥) → b ≡ false
not_true true h = absurd (h refl)
not_true false h = refl

pub ref-itself : (r : Ref) → same_ref r r ≡ true
ref-itself r = ap (λ b. b && nat_eq r.offset r.offset) (eq-eqb r.segment r.segment refl) ∙ eq-eqb r.offset r.offset refl

pub ref-told : (r q : Ref) → same_ref r q ≡ true → r ≡ q
ref-told r q e = let w = both (nat_eq r.segment q.segment) (nat_eq r.offset q.offset) e in ref-equal r q (eqb-true r.segment q.segment w.0) (eqb-true r.offset q.offset w.1)

pub ref-false : (r q : Ref) → r ≢ q → same_ref r q ≡ false
ref-false r q ne = not_true (same_ref r q) (λ e. ne (ref-told r q e))

-- ---- two of them change places

pub swap-here : (r q : Ref) → swapped_ref r q r ≡ q
swap-here r q = ap (λ t. cond t q (cond (same_ref r q) r r)) (ref-itself r)

pub swap-there : (r q : Ref) → q ≢ r → swapped_ref r q q ≡ r
swap-there r q ne = ap (λ t. cond t q (cond (same_ref q q) r q)) (ref-false q r ne) ∙ ap (λ t. cond t r q) (ref-itself q)

pub swap-else : (r q x : Ref) → x ≢ r → x ≢ q → swapped_ref r q x ≡ x
swap-else r q x no_r no_q = ap (λ t. cond t q (cond (same_ref x q) r x)) (ref-false x r no_r) ∙ ap (λ t. cond t r x) (ref-false x q no_q)

pub swap-twice : (r q x : Ref) → q ≢ r → swapped_ref r q (swapped_ref r q x) ≡ x
swap-twice r q x ne = elim (refs_decided x r) [
  | inl e ↦ ap (λ y. swapped_ref r q (swapped_ref r q y)) e ∙ ap (swapped_ref r q) (swap-here r q) ∙ swap-there r q ne ∙ sym e
  | inr no_r ↦ elim (refs_decided x q) [
    | inl e ↦ ap (λ y. swapped_ref r q (swapped_ref r q y)) e ∙ ap (swapped_ref r q) (swap-there r q ne) ∙ swap-here r q ∙ sym e
    | inr no_q ↦ ap (swapped_ref r q) (swap-else r q x no_r no_q) ∙ swap-else r q x no_r no_q
  ]
]
