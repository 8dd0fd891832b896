-- A partition: a memtable's chain whose rows have codes, so that any of them may be joined.
use Rattle.std.specs.Prelude.{◌≡◌, ◌-◌, ℕ, true, false, List, None, length, IfSome, IsSomeAnd}
use Rattle.std.specs.List.{AllByRecursion}
use Rattle.rc_cell.specs.declared.rows.Row.{Row}
use Rattle.rc_position.specs.declared.comps.Comp.{Comp}
use Rattle.rc_position.specs.Position.{row_pos}
use Rattle.rc_rowcode.specs.Spelling.{IsCodedRow, KeyFits}
use Rattle.rc_core.specs.declared.entries.ChainKind.TheVariants.{Memtable}
use Rattle.rc_core.specs.declared.entries.Entry.{Entry}
use Rattle.rc_core.specs.Chains.{Shown}
use Rattle.rc_core.specs.Steps.{row_joined}
use Rattle.rc_core.specs.Version.{Version}
use Rattle.rc_memory.specs.Memory.{Memory, chain_at, on_chain, on_shown, on_version_of}
use Rattle.rc_chain.specs.Lives.{with_version_over}

-- an entry at a key within the limits, whose row, where it has one, has a code
abbrev pub IsCodedEntry : Entry → Type 0
IsCodedEntry e = KeyFits e.position.prefix × IfSome e.row IsCodedRow

-- a version of such entries, without a static row
abbrev pub IsCodedVersion : Version → Type 0
IsCodedVersion v = (v.statics ≡ None) × AllByRecursion IsCodedEntry v.entries

-- a chain of a memtable, found by its key, whose versions are such
pub record IsCodedMemtable (c : Shown) : Type 0 where
  pub kind : c.kind ≡ Memtable
  pub attached : c.attached ≡ true
  pub settled : c.updating ≡ false
  pub coded : AllByRecursion IsCodedVersion c.versions

-- the chain of this number is such a one
abbrev pub IsPartition : Memory → ℕ → Type 0
IsPartition m id = IsSomeAnd (chain_at m id) (λ k. IsCodedMemtable k.chain)

-- the chain with a row joined to its newest version, at a key
abbrev pub with_row_joined : List Comp → Row → Shown → Shown
with_row_joined key row c = on_version_of (length c.versions - 1) (row_joined (row_pos key) row) c

-- a row was joined to the newest version of a chain, at a key; all other chains are as they were
abbrev pub IsRowJoined : ℕ → List Comp → Row → Memory → Memory → Type 0
IsRowJoined id key row old new = new.chains ≡ on_chain id (on_shown (with_row_joined key row)) old.chains

-- a version that says nothing was put over those of a chain; all other chains are as they were
abbrev pub IsCovered : ℕ → Memory → Memory → Type 0
IsCovered id old new = new.chains ≡ on_chain id (on_shown (with_version_over 0)) old.chains
