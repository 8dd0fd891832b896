-- Whether versions agree with writes at one position, as inner functions compare it.
--     IsPlaceSaid    what is known at a position is what writes say there
use Rattle.std.specs.Prelude.{List}
use Rattle.rc_position.specs.declared.positions.Pos.{Pos}
use Rattle.rc_mutation.specs.declared.mutations.Mutation.{Mutation}
use Rattle.rc_core.specs.declared.entries.ChainKind.{ChainKind}
use Rattle.rc_core.specs.Version.{Version}
use Rattle.rc_stream.specs.Snapshot.{SayThere, There}
use Rattle.rc_cursor.specs.Snapshots.{IsKnownAs}

-- what is known at a position is what writes say there
abbrev pub IsPlaceSaid : ChainKind → List Version → List Mutation → Pos → Type 0
IsPlaceSaid kind versions writes x = (v : There) → IsKnownAs kind versions x v → SayThere writes x v
