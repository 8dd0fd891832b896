-- A room with two versions, whatever its entries are.
use Rattle.std.specs.Prelude.{List, [], ◌∷◌, Contains}
use Rattle.lsa_store.specs.declared.place.Ref.{Ref}
use Rattle.lsa_region.specs.declared.end.Root.{Root}
use Rattle.lsa_region.specs.Region.{View}
use Rattle.lsa_list.specs.declared.recency.List.{List as Slots}
use Rattle.lsa_rooms.specs.Room.{StandsInRegion}

-- two versions stand there, the newer one on top, and each entry is listed
abbrev pub IsTopped : Root → Slots → View → Ref → Type 0
IsTopped chain slots v top = (older : Ref) × (entries : List Ref) × (listed : List Ref) × StandsInRegion chain slots v (top ∷ (older ∷ [])) top entries listed × ((r : Ref) → Contains entries r → Contains listed r)

-- the same, whatever the versions are
abbrev pub IsRoom : Root → Slots → View → Type 0
IsRoom chain slots v = (top : Ref) × IsTopped chain slots v top

-- and this is the first entry
abbrev pub IsFirst : Root → Slots → View → Ref → Ref → Type 0
IsFirst chain slots v top first = (older : Ref) × (rest : List Ref) × (listed : List Ref) × StandsInRegion chain slots v (top ∷ (older ∷ [])) top (first ∷ rest) listed × ((r : Ref) → Contains (first ∷ rest) r → Contains listed r)

-- these versions stand in the chain, whatever else
abbrev pub IsChained : Root → Slots → View → List Ref → Type 0
IsChained chain slots v versions = (top : Ref) × (entries : List Ref) × (listed : List Ref) × StandsInRegion chain slots v versions top entries listed
