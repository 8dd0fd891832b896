-- The next entry on a side of a place between entries.
use Rattle.std.specs.Prelude.{List, Option}
use Rattle.lsa_region.specs.Ref.{Ref}
use Rattle.lsa_shape.specs.declared.flank.Flank.{Flank}
use Rattle.lsa_shape.specs.declared.flank.Flank.TheVariants.{Low, High}
use Rattle.lsa_tree.specs.Search.{first_entry, last_entry}

-- the last of those before the place, or the first of those behind it
abbrev pub neighbour_on : Flank → List Ref → List Ref → Option Ref
neighbour_on Low front back = last_entry front
neighbour_on High front back = first_entry back
