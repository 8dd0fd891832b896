-- What compaction does to a region: nothing where it is tight, else it empties the sparsest segment.
use Rattle.std.specs.Prelude.{◌≡◌, ℕ, zero, suc, ◌+◌, ◌-◌, ◌*◌, ◌/◌, ◌^◌, ◌<◌, ◌≤◌, min, List, Some, count_by}
use Rattle.lsa_pool.specs.declared.Usage.{Usage}
use Rattle.lsa_pool.specs.declared.State.TheVariants.{Closed}
use Rattle.lsa_pool.specs.Room.{usage_of, is_state_closed, spare_of}
use Rattle.lsa_region.specs.Ref.{Ref}
use Rattle.lsa_region.specs.Stock.{sparse_of}
use Rattle.lsa_region.specs.Region.{View, IsWell, IsEmptied, Risen, objects_in}

-- no closed segment, of size bytes, has three quarters of a segment live or less
abbrev pub Tight : ℕ → List Usage → Type 0
Tight size us = (n : ℕ) → (usage_of us n).state ≡ Closed → 3 * size / 4 < (usage_of us n).live

-- how many segments are closed
abbrev pub closed_count : List Usage → ℕ
closed_count us = count_by (λ u. is_state_closed u.state) us

-- the objects of the sparsest segment lie elsewhere, under new names, and it is free
pub record IsCompacted (size : ℕ) (old new : View) (n : ℕ) : Type 0 where
  pub sparse : sparse_of size old.usages ≡ Some n
  pub emptied : (names : List (Ref × Ref)) × IsEmptied old new n names
  pub spare : spare_of size old.usages + size / 8 ≤ spare_of size new.usages
  pub moved : new.moved ≡ min (old.moved + objects_in old n) (2 ^ 64 - 1)
  pub compacted : Risen old.compacted new.compacted
  pub epoch : Risen old.epoch new.epoch
  pub well : IsWell new

-- so many segments were emptied, one after the other, each the sparsest at its time, and each while fewer bytes than needed were spare
abbrev pub Compactions : ℕ → ℕ → ℕ → View → View → Type 0
Compactions size need zero old new = new ≡ old
Compactions size need (suc rounds) old new = (mid : View) × (n : ℕ) × Compactions size need rounds old mid × (spare_of size mid.usages < need) × IsCompacted size mid new n
