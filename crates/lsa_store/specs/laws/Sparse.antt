-- What the answer of `sparse` says of the segment.
use Rattle.std.proofs.lemmas.List.Sums.{sum_by-set}
use Rattle.std.proofs.lemmas.Bool.Decides.{leb_tells}
use Rattle.std.proofs.Common.{◌≡◌, ℕ, ◌*◌, ◌/◌, ◌≤◌, Bool, true, false, List, Option, Some, None, cond, refl, subst, ap, ◌∙◌, arith, inl, inr, ◌&&◌}
use Rattle.std.specs.Prelude.{nat_le}
use Rattle.std.specs.Option.{option_and_then}
use Rattle.std.proofs.lemmas.Bool.{leb-true}
use Rattle.std.proofs.lemmas.List.Quantifiers.{position-Some}
use Rattle.lsa_pool.specs.declared.Usage.{Usage}
use Rattle.lsa_pool.specs.declared.State.TheVariants.{Closed}
use Rattle.lsa_pool.specs.Room.{nothing, usage_of, is_sparsest, sparsest_of, sparse_count, is_sparse, is_state_closed}
use Rattle.lsa_pool.specs.laws.Usages.{sparsest-closed}
use Rattle.lsa_store.specs.Stock.{sparse_of}

pick : (b : Bool) (m n : ℕ) → (cond b (Some m) None ≡ Some n) → (b ≡ true) × (m ≡ n)
pick true m n e = (refl, cc)
pick false m n e = cc

pub sparse-is : (size n : ℕ) (us : List Usage) → sparse_of size us ≡ Some n → ((usage_of us n).state ≡ Closed) × ((usage_of us n).live ≤ 3 * size / 4)
sparse-is size n us e = elim (sparsest_of us) as (λ (o : Option ℕ). sparsest_of us ≡ o → option_and_then (λ m. cond (nat_le (usage_of us m).live (3 * size / 4)) (Some m) None) o ≡ Some n → ((usage_of us n).state ≡ Closed) × ((usage_of us n).live ≤ 3 * size / 4)) [
  | None ↦ λ is none. cc
  | Some m ↦ λ is some.
      let w = pick (nat_le (usage_of us m).live (3 * size / 4)) m n some in
      let at = position-Some (is_sparsest us) us m nothing is in
      let closed : (usage_of us m).state ≡ Closed = sparsest-closed us (usage_of us m) at.1 in
      subst (λ k. ((usage_of us k).state ≡ Closed) × ((usage_of us k).live ≤ 3 * size / 4)) w.1 (closed, leb-true (usage_of us m).live (3 * size / 4) w.0)
] refl e

-- where no segment is sparse it answers none
pub sparse-none : (size : ℕ) (us : List Usage) → sparse_count size us ≡ 0 → sparse_of size us ≡ None
sparse-none size us none = elim (sparsest_of us) as (λ (o : Option ℕ). sparsest_of us ≡ o → option_and_then (λ m. cond (nat_le (usage_of us m).live (3 * size / 4)) (Some m) None) o ≡ None) [
  | None ↦ λ is. refl
  | Some m ↦ λ is. elim (leb_tells (usage_of us m).live (3 * size / 4)) [
    | inl w ↦
        let at = position-Some (is_sparsest us) us m nothing is in
        let closed : (usage_of us m).state ≡ Closed = sparsest-closed us (usage_of us m) at.1 in
        let both : is_sparse size (usage_of us m) ≡ true = ap (λ s. is_state_closed s && nat_le (usage_of us m).live (3 * size / 4)) closed ∙ w.0 in
        let one : ◌≡◌ {A = ℕ} (cond (is_sparse size (usage_of us m)) 1 0) 1 = ap (λ b. cond b 1 0) both in
        absurd (omega (arith, none, one, sum_by-set (λ u. cond (is_sparse size u) 1 0) us m nothing nothing at.0))
    | inr w ↦ ap (λ b. cond b (Some m) None) w.0
  ]
] refl
