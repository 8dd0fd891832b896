-- What a filler that fills nothing sees of the snapshot that it names.
--     KnowsNamed, KnowsStaticsNamed    what the snapshot knows at a position, and of the static row
--     StandsNamed                      for which writes it stands
--     IsReadableNamed                  the snapshot is there, and can be read
use Rattle.std.specs.Prelude.{◌≡◌, IsTrue, List}
use Rattle.rc_cell.specs.declared.rows.Row.{Row}
use Rattle.rc_cell.specs.Orders.{tomb_cmp}
use Rattle.rc_cell.specs.Winner.{greatest}
use Rattle.rc_position.specs.declared.positions.Pos.{Pos}
use Rattle.rc_core.specs.Chain.{content, has_flag}
use Rattle.rc_core.specs.Continuity.{static_states, version_tombs}
use Rattle.rc_core.specs.declared.entries.ChainKind.{ChainKind}
use Rattle.rc_core.specs.Version.{Version}
use Rattle.rc_cursor.specs.Memory.{HasPin, Memory, chain_at}
use Rattle.rc_mutation.specs.declared.mutations.Mutation.{Mutation}
use Rattle.rc_mutation.specs.Source.{source_at_head, source_at_static}
use Rattle.rc_stream.specs.Snapshot.{SayThere, There}
use Rattle.rc_cursor.specs.Snapshots.{AreReadable, IsKnownAs, kind_in, versions_in}
use Rattle.rc_snapshots.specs.declared.fillers.NoFiller.{NoFiller}

-- the versions that the snapshot of a filler sees, the oldest first
abbrev pub versions_named : Memory → NoFiller → List Version
versions_named m f = versions_in (chain_at m f.chain) f.pin

-- the kind of its chain
abbrev pub chain_kind_named : Memory → NoFiller → ChainKind
chain_kind_named m f = kind_in (chain_at m f.chain)

-- the snapshot knows a position, and this is there
abbrev pub KnowsNamed : Memory → NoFiller → Pos → There → Type 0
KnowsNamed m f = IsKnownAs (chain_kind_named m f) (versions_named m f)

-- this is its static row, which is known
abbrev pub KnowsStaticsNamed : Memory → NoFiller → Row → Type 0
KnowsStaticsNamed m f row = IsTrue (has_flag (chain_kind_named m f) (static_states (versions_named m f))) × ((content (static_states (versions_named m f))).0 ≡ row)

-- the partition tombstone of versions is that of writes, and what is known in them is what these say, the static row too
pub record AreKnownOf (kind : ChainKind) (versions : List Version) (writes : List Mutation) : Type 0 where
  pub head : greatest tomb_cmp (version_tombs versions) ≡ source_at_head writes
  pub there : (x : Pos) (v : There) → IsKnownAs kind versions x v → SayThere writes x v
  pub static_row : IsTrue (has_flag kind (static_states versions)) → source_at_static writes ≡ (content (static_states versions)).0

-- the snapshot stands for writes: its partition tombstone, and what it knows, is what they say
abbrev pub StandsNamed : Memory → NoFiller → List Mutation → Type 0
StandsNamed m f = AreKnownOf (chain_kind_named m f) (versions_named m f)

-- the snapshot that a filler names is there, and can be read by its parts
abbrev pub IsReadableNamed : Memory → NoFiller → Type 0
IsReadableNamed m f = HasPin m f.chain f.pin × AreReadable (chain_kind_named m f) (versions_named m f)
