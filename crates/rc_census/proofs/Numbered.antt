-- The versions of a chain, counted by their numbers.
use Rattle.std.proofs.Common.{◌≡◌, ◌≤◌, ◌<◌, ◌+◌, ℕ, zero, suc, List, [], ◌∷◌, ◌++◌, Option, Some, None, IsSome, length, refl, sym, ap, ◌∙◌, take, append_assoc, sum_by, arith}
use Rattle.std.specs.Prelude.{IsSomeAnd}
use Rattle.std.proofs.lemmas.List.{length-append, take_at, take_all}
use Rattle.std.proofs.lemmas.List.Sums.{sum_by-take-le, sum_by_push}
use Rattle.rc_core.specs.Version.{Version}
use Rattle.rc_memory.specs.Memory.{KeptChain, Memory, HasVersion, IsVersionAt, chain_at}

-- what is there
pub some_of : {X : Type 0} (o : Option X) → IsSome o → (x : X) × (o ≡ Some x)
some_of None some = cc some
some_of (Some x) some = (x, refl)

module _ {X : Type 0} where
  -- it has one
  pub number-there : (xs : List X) (n : ℕ) → n < length xs → (x : X) × IsVersionAt xs n x
  number-there [] n low = absurd (omega (arith, low))
  number-there (x ∷ xs) zero low = (x, record { older = []; newer = xs; split = refl; number = refl })
  number-there (x ∷ xs) (suc n) low = let rest = number-there xs n (omega (arith, low)) in
      (rest.0, record { older = x ∷ rest.1.older; newer = rest.1.newer; split = ap (λ ys. x ∷ ys) rest.1.split; number = ap suc rest.1.number })

  -- a sum up to the next number
  pub sum-next : (f : X → ℕ) (xs : List X) (n : ℕ) (x : X) → IsVersionAt xs n x → sum_by f (take (n + 1) xs) ≡ sum_by f (take n xs) + f x
  sum-next f xs n x at =
      let long : length (at.older ++ (x ∷ [])) ≡ n + 1 = omega (arith, length-append at.older (x ∷ []), at.number) in
      ap (λ ys. sum_by f (take (n + 1) ys)) (at.split ∙ sym (append_assoc at.older (x ∷ []) at.newer)) ∙ ap (sum_by f) (take_at (at.older ++ (x ∷ [])) at.newer (n + 1) long) ∙ sum_by_push f at.older x
      ∙ ap (λ s. s + f x) (sym (ap (λ ys. sum_by f (take n ys)) at.split ∙ ap (sum_by f) (take_at at.older (x ∷ at.newer) n at.number)))

  -- it is no more than the whole
  pub sum-room : (f : X → ℕ) (xs : List X) (n : ℕ) (x : X) → IsVersionAt xs n x → sum_by f (take n xs) + f x ≤ sum_by f xs
  sum-room f xs n x at = omega (arith, sum-next f xs n x at, sum_by-take-le f xs (n + 1))

  -- behind the last number it is the whole
  pub sum-whole : (f : X → ℕ) (xs : List X) (n : ℕ) → length xs ≤ n → sum_by f (take n xs) ≡ sum_by f xs
  sum-whole f xs n long = ap (sum_by f) (take_all n xs long)

-- a version is there with its chain
pub version-of : (m : Memory) (id n : ℕ) → HasVersion m id n → (k : KeptChain) × (v : Version) × (chain_at m id ≡ Some k) × IsVersionAt k.chain.versions n v
version-of m id n has = of (chain_at m id) has
  where
    of : (o : Option KeptChain) → IsSomeAnd o (λ k. n < length k.chain.versions) → (k : KeptChain) × (v : Version) × (o ≡ Some k) × IsVersionAt k.chain.versions n v
    of None has = absurd has
    of (Some k) has = let v = number-there k.chain.versions n has in (k, v.0, refl, v.1)
