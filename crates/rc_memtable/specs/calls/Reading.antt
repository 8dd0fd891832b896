-- What is asked for where a chain is read part by part, and what is said of what was read.
--     IsSeenBy      what a snapshot of a memtable's chain sees
--     SayChanges    versions of a memtable's chain that stand for changes
--     told          what rows and range tombstones say at a position
--     IsPartTaken   a part was put behind what was read up to a place
--     IsReadUpTo    what was read up to a place says what is seen before it
use Rattle.std.specs.Prelude.{◌≡◌, ◌≢◌, ◌<◌, ℕ, List, ◌++◌, Option, Some, None, length}
use Rattle.rc_cell.specs.declared.rows.Row.{Row}
use Rattle.rc_cell.specs.declared.writes.Tomb.{Tomb}
use Rattle.rc_cell.specs.Orders.{tomb_cmp}
use Rattle.rc_cell.specs.Greatest.{greater}
use Rattle.rc_cell.specs.Winner.{empty_row, joined_row}
use Rattle.rc_position.specs.declared.comps.Comp.{Comp}
use Rattle.rc_position.specs.declared.positions.Pos.{Pos}
use Rattle.rc_position.specs.declared.positions.Weight.TheVariants.{After}
use Rattle.rc_position.specs.Position.{IsBefore}
use Rattle.rc_schema.specs.SchemaValue.{SchemaValue}
use Rattle.rc_ranges.specs.declared.pieces.Piece.{Piece}
use Rattle.rc_ranges.specs.Cover.{cover as range_tomb}
use Rattle.rc_mutation.specs.declared.mutations.Mutation.{Mutation}
use Rattle.rc_mutation.specs.Source.{rows_in}
use Rattle.rc_core.specs.declared.entries.ChainKind.TheVariants.{Memtable}
use Rattle.rc_core.specs.declared.parts.Part.{Part}
use Rattle.rc_core.specs.declared.parts.Part.TheVariants as part
use Rattle.rc_core.specs.Version.{IsVersion, On, Version}
use Rattle.rc_core.specs.Chain.{IsEvenAt, content, states_at}
use Rattle.rc_core.specs.Chains.{AllInherit, upto}
use Rattle.rc_core.specs.Continuity.{EachOf}
use Rattle.rc_core.specs.StandsFor.{StandsFor, piece_of, row_in_part}
use Rattle.rc_core.specs.Steps.{pin_at}
use Rattle.rc_memory.specs.Memory.{KeptChain, Memory, chain_at}
use Rattle.rc_memtable.specs.Fits.{IsVersionUnder}

-- a snapshot of a memtable's chain sees these versions
pub record IsSeenBy (m : Memory) (id pin : ℕ) (versions : List Version) : Type 0 where
  pub kept : KeptChain
  pub number : ℕ
  pub there : chain_at m id ≡ Some kept
  pub kind : kept.chain.kind ≡ Memtable
  pub pinned : pin_at kept.chain.pins pin ≡ Some number
  pub seen : upto kept.chain.versions number ≡ versions

-- versions of a memtable's chain stand for changes, and all that they hold is of the schema
pub record SayChanges (schema : SchemaValue) (versions : List Version) (changes : List Mutation) : Type 0 where
  pub stands : StandsFor changes versions
  pub inherit : EachOf AllInherit versions
  pub even : (x : Pos) → IsEvenAt Memtable versions x
  pub fits : EachOf (IsVersionUnder schema) versions
  pub sound : EachOf IsVersion versions
  pub some : 0 < length versions

-- what rows and range tombstones say at a position
abbrev pub said_so_far : List (List Comp × Row) → List Piece → Pos → Row × Option Tomb
said_so_far rows ranges y = (joined_row (rows_in y rows), range_tomb ranges y)

-- a part can be put behind what was read up to a place: a row of which something was written, or a gap, that ends behind the place
abbrev pub EndsAhead : Part → Pos → Type 0
EndsAhead (part.Row key row tomb) x = (row ≢ empty_row) × IsBefore x (record { prefix = key; weight = After })
EndsAhead (part.Gap to tomb) x = IsBefore x to
EndsAhead (part.Missing to) x = ⊥
EndsAhead part.End x = ⊥

-- a part was put behind what was read up to a place: its row, and its tombstone over its stretch
pub record IsPartTaken (p : Part) (x : Pos) (rows : List (List Comp × Row)) (ranges : List Piece) (more_rows : List (List Comp × Row)) (more_ranges : List Piece) : Type 0 where
  pub row : (y : Pos) → joined_row (rows_in y more_rows) ≡ joined_row (rows_in y (rows ++ row_in_part p))
  pub tomb : (y : Pos) → range_tomb more_ranges y ≡ greater tomb_cmp (range_tomb ranges y) (range_tomb (piece_of p x) y)

-- what was read up to a place says at each position before it what is seen there, and nothing from it on
pub record IsReadUpTo (versions : List Version) (x : Pos) (rows : List (List Comp × Row)) (ranges : List Piece) : Type 0 where
  pub before : (y : Pos) → IsBefore y x → said_so_far rows ranges y ≡ content (states_at (On y) versions)
  pub ahead : (y : Pos) → (IsBefore y x → ⊥) → said_so_far rows ranges y ≡ (empty_row, None)
