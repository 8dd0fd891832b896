-- What a store shows, and what every store keeps.
use Rattle.std.specs.Prelude.{◌≡◌, ℕ, ◌/◌, ◌%◌, ◌^◌, ◌≤◌, List, length, All, IsSome}
use Rattle.lsa_pool.specs.declared.Usage.{Usage}
use Rattle.lsa_pool.specs.Room.{usage_of, active_of}
use Rattle.lsa_pool.specs.Account.{IsSound}
use Rattle.lsa_yard.specs.Cells.{Cell, size_of, extent}
use Rattle.lsa_yard.specs.Spelled.{IsProper}
use Rattle.lsa_store.specs.Objects.{cells_of, live_in}

-- the cells of each segment, and the segments' books
pub record Stored : Type 0 where
  pub cells : List (List Cell)
  pub usages : List Usage

-- a cell has its header and its links, and takes an eighth of a segment at most
pub record IsFitting (size : ℕ) (c : Cell) : Type 0 where
  pub proper : IsProper c
  pub limit : size_of c ≤ size / 8

-- a store of segments of size bytes: the books tell what of each segment is used and live
pub record IsStored (size : ℕ) (s : Stored) : Type 0 where
  pub small : size ≤ 2 ^ 27
  pub even : size % 64 ≡ 0
  pub few : length s.usages ≤ 4096
  pub some : 4 ≤ length s.usages
  pub count : length s.cells ≡ length s.usages
  pub sound : IsSound size s.usages
  pub active : IsSome (active_of s.usages)
  pub filled : (n : ℕ) → extent (cells_of s.cells n) ≡ (usage_of s.usages n).used
  pub live : (n : ℕ) → live_in (cells_of s.cells n) ≡ (usage_of s.usages n).live
  pub fitting : (n : ℕ) → All (IsFitting size) (cells_of s.cells n)
