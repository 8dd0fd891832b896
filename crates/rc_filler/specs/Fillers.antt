-- What a filler sees of the snapshot of a cache chain that it names.
--     FillerKnows, FillerKnowsStatics    what the snapshot knows at a position, and its static row
--     losses                             how often something was lost
--     IsFillerReady                      its calls may be made
use Rattle.std.specs.Prelude.{◌≡◌, ◌≤◌, ◌+◌, ◌*◌, ◌/◌, ℕ, List, IsTrue}
use Rattle.rc_cell.specs.declared.rows.Row.{Row}
use Rattle.rc_position.specs.declared.positions.Pos.{Pos}
use Rattle.rc_core.specs.Chain.{content, has_flag}
use Rattle.rc_core.specs.Continuity.{static_states}
use Rattle.rc_core.specs.declared.entries.ChainKind.{ChainKind}
use Rattle.rc_core.specs.Version.{Version}
use Rattle.rc_memory.specs.Memory.{Memory, chain_at}
use Rattle.rc_stream.specs.Snapshot.{There}
use Rattle.rc_cursor.specs.Snapshots.{IsKnownAs, kind_in, versions_in}
use Rattle.rc_filler.specs.declared.fillers.CacheFiller.{CacheFiller}
use Rattle.rc_filler.specs.Stands.{HasCacheSnapshot}

-- the versions that the snapshot of a filler sees, the oldest first
abbrev pub versions_filled : Memory → CacheFiller → List Version
versions_filled m f = versions_in (chain_at m f.chain) f.pin

-- the kind of its chain
abbrev pub kind_filled : Memory → CacheFiller → ChainKind
kind_filled m f = kind_in (chain_at m f.chain)

-- the snapshot knows a position, and this is there
abbrev pub FillerKnows : Memory → CacheFiller → Pos → There → Type 0
FillerKnows m f = IsKnownAs (kind_filled m f) (versions_filled m f)

-- the snapshot knows the static row, which is this one
abbrev pub FillerKnowsStatics : Memory → CacheFiller → Row → Type 0
FillerKnowsStatics m f row = IsTrue (has_flag (kind_filled m f) (static_states (versions_filled m f))) × ((content (static_states (versions_filled m f))).0 ≡ row)

-- how often something was lost: an object was evicted, or a fill was skipped
abbrev pub losses : Memory → ℕ
losses m = m.counts.evicted + m.counts.skipped

-- the snapshot of a cache chain is there, and segments are so large that room can be made for any row: 10,232 bytes or more
pub record IsFillerReady (S : ℕ) (f : CacheFiller) (m : Memory) : Type 0 where
  pub snapshot : HasCacheSnapshot m f.chain f.pin
  pub roomy : 8952 ≤ 7 * S / 8
