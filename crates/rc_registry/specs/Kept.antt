-- What a registry keeps of its fields.
use Rattle.std.specs.Prelude.{◌≡◌, ◌<◌, ◌≤◌, ◌++◌, ℕ, List, Option, Some, None, length, slice_index}
use Rattle.rc_registry.specs.Registry.{Use, use_at, IsNumberIn, AreOnce}

-- the numbers that may be used again and those that were not yet told are no chain's, each once; for each number there is room among both; and each chain's root slot has an owner
pub record IsKeptRegistry (uses : List (Option Use)) (vacant dropped owners : List ℕ) (vacant_room dropped_room : ℕ) : Type 0 where
  pub gone : (id : ℕ) → IsNumberIn (vacant ++ dropped) id → (id < length uses) × (use_at uses id ≡ None)
  pub once : AreOnce (vacant ++ dropped)
  pub vacant_fit : length uses ≤ vacant_room
  pub dropped_fit : length uses ≤ dropped_room
  pub owned : (id : ℕ) (u : Use) → use_at uses id ≡ Some u → (u.root.number < length owners) × (slice_index owners u.root.number ≡ id)
