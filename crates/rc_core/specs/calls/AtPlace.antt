-- A version under update at the update's place, as inner functions find it.
use Rattle.std.specs.Prelude.{◌≡◌, None}
use Rattle.std.specs.declared.cmp.Ordering.{Ordering}
use Rattle.std.specs.declared.cmp.Ordering.TheVariants.{Less, Equal, Greater}
use Rattle.rc_position.specs.declared.positions.Pos.{Pos}
use Rattle.rc_position.specs.Position.{pos_cmp}
use Rattle.rc_core.specs.declared.entries.Entry.{Entry}
use Rattle.rc_core.specs.Version.{end_position}
use Rattle.rc_core.specs.Plain.{no_mark}

-- an entry says nothing at its own position
abbrev pub SaysNothingAt : Entry → Type 0
SaysNothingAt e = (e.at ≡ no_mark) × (e.row ≡ None)

-- by where an entry stands against the place: at it and behind it nothing is said, and behind it stands the end dummy alone
abbrev pub FitsBy : Ordering → Entry → Type 0
FitsBy Less e = Unit {0}
FitsBy Equal e = SaysNothingAt e
FitsBy Greater e = SaysNothingAt e × (e.gap ≡ no_mark) × (e.position ≡ end_position)

-- an entry as it may stand in a version at a place that is clustered
abbrev pub FitsPlace : Pos → Entry → Type 0
FitsPlace p e = FitsBy (pos_cmp e.position p) e
