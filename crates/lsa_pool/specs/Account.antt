-- How a pool of segments of size bytes keeps its books.
use Rattle.std.specs.Prelude.{◌≡◌, ◌≢◌, ℕ, ◌<◌, ◌≤◌, ◌^◌, List, length, slice_index, Option, Some}
use Rattle.lsa_pool.specs.declared.Usage.{Usage}
use Rattle.lsa_pool.specs.declared.State.TheVariants.{Free, Active}
use Rattle.lsa_pool.specs.Room.{usage_of, free_count, live_sum, sparse_count}

-- what holds of the usages of every pool of segments of size bytes
pub record IsSound (size : ℕ) (us : List Usage) : Type 0 where
  pub used : (n : ℕ) → (usage_of us n).used ≤ size
  pub live : (n : ℕ) → (usage_of us n).live ≤ (usage_of us n).used
  pub empty : (n : ℕ) → (usage_of us n).state ≡ Free → (usage_of us n).used ≡ 0
  pub one_active : (n m : ℕ) → (usage_of us n).state ≡ Active → (usage_of us m).state ≡ Active → n ≡ m

-- the first free_len numbers of the list are those of the free segments, each once, and active is the active segment's
pub record IsKept (size : ℕ) (us : List Usage) (free_list : List ℕ) (free_len : ℕ) (active : Option ℕ) : Type 0 where
  pub few : length us ≤ 4096
  pub small : size ≤ 2 ^ 27
  pub sound : IsSound size us
  pub long : length free_list ≡ length us
  pub counted : free_len ≡ free_count us
  pub inside : (k : ℕ) → k < free_len → slice_index free_list k < length us
  pub listed : (k : ℕ) → k < free_len → (usage_of us (slice_index free_list k)).state ≡ Free
  pub once : (j k : ℕ) → j < k → k < free_len → slice_index free_list j ≢ slice_index free_list k
  pub active_is : (n : ℕ) → active ≡ Some n → (usage_of us n).state ≡ Active
  pub only : (n : ℕ) → (usage_of us n).state ≡ Active → active ≡ Some n

-- so many bytes are live in all, and so many segments are sparse
pub record IsTallied (size : ℕ) (us : List Usage) (live sparse : ℕ) : Type 0 where
  pub few : length us ≤ 4096
  pub small : size ≤ 2 ^ 27
  pub each : (n : ℕ) → (usage_of us n).live ≤ 2 ^ 27
  pub total : live ≡ live_sum us
  pub counted : sparse ≡ sparse_count size us
