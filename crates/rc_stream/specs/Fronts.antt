-- What comes before the rows and changes of a list that were not passed yet.
use Rattle.std.specs.Prelude.{List, [], ◌∷◌, Option, Some, None}
use Rattle.rc_cell.specs.declared.writes.Tomb.{Tomb}
use Rattle.rc_mutation.specs.declared.fragments.Frag.{Frag}
use Rattle.rc_mutation.specs.declared.fragments.Frag.TheVariants as frag
use Rattle.rc_stream.specs.declared.lists.Front.{Front}
use Rattle.rc_stream.specs.declared.lists.Front.TheVariants.{Passed, Due}

-- the range tombstone in force before what is left
abbrev pub front_tomb : Front → Option Tomb
front_tomb (Passed tomb) = tomb
front_tomb (Due x tomb) = None

-- the change that is to be given first, if one is
abbrev pub front_change : Front → List Frag
front_change (Passed tomb) = []
front_change (Due x tomb) = frag.Change x (Some tomb) ∷ []
