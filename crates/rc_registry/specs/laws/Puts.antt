-- What is read after `put`, and which numbers are in the list.
use Rattle.std.proofs.Common.{◌≡◌, ◌≢◌, ℕ, zero, suc, ◌<◌, ◌≤◌, List, [], ◌∷◌, ◌++◌, length, Option, Some, None, IsSome, refl, ap, arith}
use Rattle.std.proofs.Math.ListN.{set}
use Rattle.rc_registry.specs.Registry.{Use, use_at, put_at_number}

-- a chain that is there has a number within the list
pub there : (uses : List (Option Use)) (id : ℕ) → IsSome (use_at uses id) → id < length uses
there [] id some = absurd (cc)
there (u ∷ us) zero some = omega arith
there (u ∷ us) (suc id) some = omega (arith, there us id some)

-- the chain of a number that is there
pub chain_of : (c : Option Use) → IsSome c → (u : Use) × (c ≡ Some u)
chain_of None some = absurd (cc)
chain_of (Some u) some = (u, refl)

-- within the list, `put` changes the element
pub put-within : (uses : List (Option Use)) (id : ℕ) (c : Option Use) → id < length uses → set uses id c ≡ put_at_number id c uses
put-within [] id c lt = absurd (omega arith)
put-within (v ∷ vs) zero c lt = refl
put-within (v ∷ vs) (suc id) c lt = ap (λ ws. v ∷ ws) (put-within vs id c (omega arith))

-- right behind the list, it appends
pub put-behind : (uses : List (Option Use)) (id : ℕ) (c : Option Use) → id ≡ length uses → uses ++ c ∷ [] ≡ put_at_number id c uses
put-behind [] zero c e = refl
put-behind [] (suc id) c e = absurd (omega arith)
put-behind (v ∷ vs) zero c e = absurd (omega arith)
put-behind (v ∷ vs) (suc id) c e = ap (λ ws. v ∷ ws) (put-behind vs id c (omega arith))

-- the number reads what was put there
pub at-put : (uses : List (Option Use)) (id : ℕ) (c : Option Use) → use_at (put_at_number id c uses) id ≡ c
at-put [] zero c = refl
at-put [] (suc id) c = at-put [] id c
at-put (v ∷ vs) zero c = refl
at-put (v ∷ vs) (suc id) c = at-put vs id c

-- any other number reads what it read
pub beside-put : (uses : List (Option Use)) (id : ℕ) (c : Option Use) (n : ℕ) → n ≢ id → use_at (put_at_number id c uses) n ≡ use_at uses n
beside-put [] zero c zero ne = absurd (ne refl)
beside-put [] zero c (suc n) ne = refl
beside-put [] (suc id) c zero ne = refl
beside-put [] (suc id) c (suc n) ne = beside-put [] id c n (λ e. ne (ap suc e))
beside-put (v ∷ vs) zero c zero ne = absurd (ne refl)
beside-put (v ∷ vs) zero c (suc n) ne = refl
beside-put (v ∷ vs) (suc id) c zero ne = refl
beside-put (v ∷ vs) (suc id) c (suc n) ne = beside-put vs id c n (λ e. ne (ap suc e))

-- the list is no shorter, and reaches the number
pub long-put : (uses : List (Option Use)) (id : ℕ) (c : Option Use) → (length uses ≤ length (put_at_number id c uses)) × (id < length (put_at_number id c uses))
long-put [] zero c = (omega arith, omega arith)
long-put [] (suc id) c = (omega arith, omega (arith, (long-put [] id c).1))
long-put (v ∷ vs) zero c = (omega arith, omega arith)
long-put (v ∷ vs) (suc id) c = (omega (arith, (long-put vs id c).0), omega (arith, (long-put vs id c).1))
