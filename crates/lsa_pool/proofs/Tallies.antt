-- The sums over the usages after one of them changed.
use Rattle.std.proofs.Common.{◌≡◌, ℕ, zero, suc, ◌+◌, ◌-◌, ◌*◌, ◌^◌, ◌<◌, ◌≤◌, List, [], ◌∷◌, length, replicate, refl, arith}
use Rattle.std.proofs.Math.ListN.{set}
use Rattle.std.proofs.lemmas.List.{length-set}
use Rattle.std.proofs.lemmas.List.Sums.{sum_by-set, sum_by-cons, count_by-le-length}
use Rattle.lsa_pool.specs.declared.Usage.{Usage}
use Rattle.lsa_pool.specs.Room.{nothing, usage_of, live_sum, is_sparse, sparse_count}
use Rattle.lsa_pool.specs.Account.{IsTallied}
use Rattle.lsa_pool.specs.calls.Account.{is_counted}
use Rattle.lsa_pool.specs.laws.Usages.{set_elim}
use Rattle.lsa_pool.proofs.Books.{live_sum-set}

pub sparse_count-set : (size : ℕ) (us : List Usage) (n : ℕ) (u : Usage) → n < length us → sparse_count size (set us n u) + is_counted size (usage_of us n) ≡ sparse_count size us + is_counted size u
sparse_count-set size us n u lt = sum_by-set (is_counted size) us n u nothing lt

live_most : (us : List Usage) → ((n : ℕ) → (usage_of us n).live ≤ 2 ^ 27) → live_sum us ≤ length us * 2 ^ 27
live_most [] small = omega arith
live_most (u ∷ us) small = omega (arith, sum_by-cons (λ (v : Usage). v.live) u us, live_most us (λ n. small (suc n)), small 0)

module _ (size live sparse : ℕ) (us : List Usage) (tallied : IsTallied size us live sparse) (n : ℕ) (u : Usage) (lt : n < length us) where
  -- what was live is in the sum, and room for as much as a segment may have is left
  pub live-within : ((usage_of us n).live ≤ live) × (live ≤ 2 ^ 40)
  live-within = (omega (arith, tallied.total, live_sum-set us n nothing lt), omega (arith, tallied.total, tallied.few, live_most us tallied.each))

  pub sparse-within : (is_counted size (usage_of us n) ≤ sparse) × (sparse ≤ 4096)
  sparse-within = (omega (arith, tallied.counted, sparse_count-set size us n nothing lt), omega (arith, tallied.counted, tallied.few, count_by-le-length (is_sparse size) us))

  pub tallied-set : u.live ≤ 2 ^ 27 → IsTallied size (set us n u) (live - (usage_of us n).live + u.live) (sparse - is_counted size (usage_of us n) + is_counted size u)
  tallied-set small = record {
    few = omega (arith, length-set us n u, tallied.few);
    small = tallied.small;
    each = λ m. set_elim nothing (λ _ v. v.live ≤ 2 ^ 27) us n u m lt small (λ _. tallied.each m);
    total = omega (arith, tallied.total, live_sum-set us n u lt, live-within.0);
    counted = omega (arith, tallied.counted, sparse_count-set size us n u lt, sparse-within.0);
  }

replicate_at : (n m : ℕ) → usage_of (replicate n nothing) m ≡ nothing
replicate_at zero m = refl
replicate_at (suc n) zero = refl
replicate_at (suc n) (suc m) = replicate_at n m
