-- Where a place stands once a part was given.
use Rattle.rc_position.specs.declared.positions.Pos.{Pos}
use Rattle.rc_position.specs.declared.positions.Weight.TheVariants.{After}
use Rattle.rc_core.specs.declared.parts.Part.{Part}
use Rattle.rc_core.specs.declared.parts.Part.TheVariants as part

-- the place past a part that begins at x: behind the key of x after a row, at the end of a gap, else x
abbrev pub place_past : Part → Pos → Pos
place_past (part.Row key row tomb) x = record { prefix = x.prefix; weight = After }
place_past (part.Gap to tomb) x = to
place_past (part.Missing to) x = x
place_past part.End x = x
