-- What is read of one version after another.
use Rattle.std.specs.Prelude.{◌≡◌, List, map, Option, Some, None}
use Rattle.std.specs.Option.{MatchOption}
use Rattle.rc_cell.specs.declared.rows.Row.{Row}
use Rattle.lsa_store.specs.declared.place.Ref.{Ref}
use Rattle.lsa_region.specs.Region.{View}
use Rattle.rc_core.specs.declared.entries.Mark.{Mark}
use Rattle.rc_core.specs.Change.{mark}
use Rattle.rc_core.specs.Slow.{spot_at}
use Rattle.rc_core.specs.SpotState.{SpotState}
use Rattle.rc_core.specs.Version.{Finding, Version, finding_in, finding_of, state_of}
use Rattle.rc_object.specs.Objects.{HoldsRow}
use Rattle.rc_partition.specs.Partitions.{StandingVersion}
use Rattle.rc_reading.specs.declared.said.Asked.{Asked}
use Rattle.rc_reading.specs.declared.said.Asked.TheVariants as asked
use Rattle.rc_reading.specs.Reading.{read_versions}

-- what a version says of the place that is asked for
abbrev pub finding_at : Asked → Version → Finding
finding_at asked.Static c = finding_of (mark c.static_flag None) c.statics
finding_at (asked.Clustered x side) c = finding_in (spot_at side x.now) c.entries

-- what each of the versions says of it, as a state
abbrev pub states_read : Asked → List StandingVersion → List SpotState
states_read place read = map (λ c. state_of (finding_at place c)) (read_versions read)

-- the object holds this row; none is named where there is none
abbrev pub IsRowRead : View → Option Ref → Option Row → Type 0
IsRowRead v holder row = MatchOption holder (row ≡ None) (λ r. (held : Row) × (row ≡ Some held) × HoldsRow v r held)

-- this mark, and the row that this object holds, are what was found
abbrev pub IsFindingRead : View → Mark × Option Ref → Finding → Type 0
IsFindingRead v read finding = (read.0 ≡ finding.mark) × IsRowRead v read.1 finding.row
