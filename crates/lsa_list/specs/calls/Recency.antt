-- Which object a link names.
use Rattle.std.specs.Prelude.{Option, Some, None}
use Rattle.lsa_region.specs.Ref.{Ref}
use Rattle.lsa_region.specs.declared.end.End.{End}
use Rattle.lsa_region.specs.declared.end.End.TheVariants.{Obj, Slot}

-- the object of which a link is named; None where a root slot is, or nothing
abbrev pub object_of : Option End → Option Ref
object_of None = None
object_of (Some (Obj r field)) = Some r
object_of (Some (Slot root)) = None
