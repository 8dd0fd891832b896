-- Where a gap ends by the entries of one version, for inner functions here and above.
use Rattle.std.specs.Prelude.{◌≡◌, ◌⊎◌, List}
use Rattle.rc_position.specs.declared.positions.Pos.{Pos}
use Rattle.rc_position.specs.Position.{IsBefore}
use Rattle.rc_core.specs.declared.entries.Entry.{Entry}
use Rattle.rc_core.specs.AtPlace.{HasEntryAt}
use Rattle.rc_core.specs.Parts.{IsClear}

-- where the open gap behind x ends by the entries of one version: at the next of them, or at `to`, where it ends at the latest
pub record IsNearer (x to found : Pos) (entries : List Entry) : Type 0 where
  pub ahead : IsBefore x found
  pub within : (found ≡ to) ⊎ IsBefore found to
  pub clear : IsClear x found entries
  pub stops : (found ≡ to) ⊎ HasEntryAt found entries
