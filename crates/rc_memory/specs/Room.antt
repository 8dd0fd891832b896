-- How large the objects of chains are: each row that may be joined in them makes an object of at most an eighth of a segment.
use Rattle.std.specs.Prelude.{◌≡◌, ◌≤◌, ◌/◌, ℕ, List, ◌∷◌, Some, Contains, IfSome, sum_by}
use Rattle.rc_cell.specs.declared.rows.Row.{Row}
use Rattle.rc_cell.specs.Winner.{joined_row}
use Rattle.rc_position.specs.declared.positions.Pos.{Pos}
use Rattle.rc_rowcode.specs.Objects.{dummy_size, static_size}
use Rattle.rc_registry.specs.Entry.{Entry}
use Rattle.rc_registry.specs.Version.{Version}
use Rattle.rc_partition.specs.Versions.{bytes_at, version_bytes}
use Rattle.rc_partition.specs.Partitions.{version_objects}
use Rattle.rc_memory.specs.Memory.{KeptChain, Memory, chain_at}

-- some version has this row there: an entry at a position, or its static row
abbrev pub HasRowAt : List Version → Pos → Row → Type 0
HasRowAt versions x row = (v : Version) × (e : Entry) × Contains versions v × Contains v.entries e × (e.position ≡ x) × (e.row ≡ Some row)

-- some version has this static row
abbrev pub HasStaticRow : List Version → Row → Type 0
HasStaticRow versions row = (v : Version) × Contains versions v × (v.statics ≡ Some row)

-- at each place the rows of any of these versions, joined, make an object of at most an eighth of a segment, and so does each entry's position as a dummy
pub record FitTogether (S : ℕ) (versions : List Version) : Type 0 where
  pub rows : (x : Pos) (one : Row) (rows : List Row) → ((row : Row) → Contains (one ∷ rows) row → HasRowAt versions x row) → bytes_at x (Some (joined_row (one ∷ rows))) ≤ S / 8
  pub statics : (one : Row) (rows : List Row) → ((row : Row) → Contains (one ∷ rows) row → HasStaticRow versions row) → static_size (joined_row (one ∷ rows)) ≤ S / 8
  pub positions : (v : Version) (e : Entry) → Contains versions v → Contains v.entries e → dummy_size e.position ≤ S / 8

-- those of each chain do
abbrev pub ChainsFit : ℕ → Memory → Type 0
ChainsFit S m = (id : ℕ) → IfSome (chain_at m id) (λ k. FitTogether S k.chain.versions)

-- how many bytes a chain takes: 256 of one version with one row inserted
abbrev pub chain_bytes : KeptChain → ℕ
chain_bytes k = sum_by version_bytes k.chain.versions

-- how many objects a chain takes: 3 of one version with one row inserted
abbrev pub chain_objects : KeptChain → ℕ
chain_objects k = sum_by version_objects k.chain.versions
