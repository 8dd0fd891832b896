-- A change where another stream has a tombstone in force.
use Rattle.std.specs.Prelude.{Option, [], ◌∷◌}
use Rattle.rc_cell.specs.declared.writes.Tomb.{Tomb}
use Rattle.rc_cell.specs.Greatest.{greater}
use Rattle.rc_cell.specs.Orders.{tomb_cmp}
use Rattle.rc_mutation.specs.declared.fragments.Frag.{Frag}
use Rattle.rc_mutation.specs.declared.fragments.Frag.TheVariants as frag
use Rattle.rc_cell.specs.Winner.{joined_row}

-- two fragments at one place as one
abbrev pub together : Frag → Frag → Frag
together (frag.Row key row) (frag.Row key' row') = frag.Row key (joined_row (row ∷ row' ∷ []))
together (frag.Change from next) (frag.Change from' next') = frag.Change from (greater tomb_cmp next next')
together f g = f

-- a fragment that only one of both has at its place, where the other has this tombstone in force
abbrev pub beside : Option Tomb → Frag → Frag
beside other (frag.Start pt) = frag.Start pt
beside other (frag.Static row) = frag.Static row
beside other (frag.Row key row) = frag.Row key row
beside other (frag.Change from next) = frag.Change from (greater tomb_cmp next other)
beside other frag.End = frag.End
