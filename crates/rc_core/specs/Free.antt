-- The objects of a detached chain that nobody pins go one at a time.
use Rattle.std.specs.Prelude.{◌≡◌, ℕ, false, None}
use Rattle.rc_position.specs.declared.positions.Pos.{Pos}
use Rattle.rc_core.specs.declared.entries.ChainKind.{ChainKind}
use Rattle.rc_core.specs.declared.entries.ChainKind.TheVariants.{Memtable, Cache}
use Rattle.rc_core.specs.declared.entries.Flag.TheVariants.{Inherit}
use Rattle.rc_core.specs.declared.entries.Mark.{Mark}
use Rattle.rc_core.specs.Version.{Version}
use Rattle.rc_core.specs.Change.{lost_mark, mark, take_out}
use Rattle.rc_core.specs.Continuity.{with_entries}
use Rattle.rc_core.specs.Chains.{Chain, IsPinned}

-- a chain that nobody finds by its key, and nobody reads
pub record IsAbandoned (c : Chain) : Type 0 where
  pub detached : c.attached ≡ false
  pub settled : c.updating ≡ None
  pub unpinned : (j : ℕ) → IsPinned c.pins j → ⊥

-- what is said where an object was freed: in a cache chain that it may be missing, and in a memtable's nothing
abbrev pub freed_mark : ChainKind → Mark
freed_mark Cache = lost_mark
freed_mark Memtable = mark Inherit None

-- a row entry or an inner dummy freed
abbrev pub free_entry : ChainKind → Pos → Version → Version
free_entry kind x v = with_entries (take_out (freed_mark kind) x v.entries) v

-- the static row freed
abbrev pub free_statics : ChainKind → Version → Version
free_statics kind v = record { pt = v.pt; statics = None; static_flag = (freed_mark kind).flag; entries = v.entries; phase = v.phase }
