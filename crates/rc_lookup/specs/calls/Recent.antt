-- How an object goes to the back of the recency list.
--     IsTurnedIn       it was not in the list, or went to its back
--     IsTurnedAlone    so it is, and nothing else changed
use Rattle.std.specs.Prelude.{◌≡◌, ◌⊎◌, List, [], ◌∷◌, ◌++◌, Contains}
use Rattle.lsa_region.specs.Region.{SameObjects}
use Rattle.rc_memory.specs.Changes.{Nowhere, StandStill}
use Rattle.rc_memory.specs.Memory.{Member, Memory, listed_as}

-- an object was not in the list, or went to its back
abbrev pub IsTurnedIn : Member → List Member → List Member → Type 0
IsTurnedIn w old new = ((Contains old w → ⊥) × (new ≡ old)) ⊎ (Contains old w × ((front back : List Member) → old ≡ front ++ (w ∷ back) → new ≡ (front ++ back) ++ (w ∷ [])))

-- so it is; nothing else changed
pub record IsTurnedAlone (w : Member) (old new : Memory) : Type 0 where
  pub recency : IsTurnedIn w old.recency new.recency
  pub same : new ≡ listed_as new.recency new.region old
  pub objects : SameObjects old.region new.region
  pub still : StandStill Nowhere old new
