-- The search for the sparsest segment: what inner functions promise each other.
use Rattle.std.specs.Prelude.{◌≡◌, ◌≢◌, ℕ, ◌<◌, ◌≤◌, List, Option, Some, None}
use Rattle.lsa_pool.specs.declared.Usage.{Usage}
use Rattle.lsa_pool.specs.declared.State.TheVariants.{Closed}
use Rattle.lsa_pool.specs.Room.{usage_of}

-- n is the first of the closed segments below the bound with least live
pub record IsFirstLeast (us : List Usage) (bound n : ℕ) : Type 0 where
  pub below : n < bound
  pub closed : (usage_of us n).state ≡ Closed
  pub least : (k : ℕ) → k < bound → (usage_of us k).state ≡ Closed → (usage_of us n).live ≤ (usage_of us k).live
  pub first : (k : ℕ) → k < n → (usage_of us k).state ≡ Closed → (usage_of us n).live < (usage_of us k).live

-- the best of the segments below the bound: none where none of them is closed
abbrev pub IsBest : List Usage → ℕ → Option ℕ → Type 0
IsBest us bound None = (k : ℕ) → k < bound → (usage_of us k).state ≢ Closed
IsBest us bound (Some n) = IsFirstLeast us bound n
