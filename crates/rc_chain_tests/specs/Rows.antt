-- Row entries and static rows in the tests.
use Rattle.std.specs.Prelude.{◌≡◌, Some}
use Rattle.rc_cell.specs.declared.rows.Row.{Row}
use Rattle.rc_core.specs.declared.entries.Entry.{Entry}
use Rattle.lsa_store.specs.declared.place.Ref.{Ref}
use Rattle.lsa_region.specs.Region.{View}
use Rattle.rc_object.specs.Objects.{HoldsEntry, HoldsStatic}

-- the object is an entry with a row
abbrev pub IsRowEntry : View → Ref → Type 0
IsRowEntry v r = (x : Entry) × (row : Row) × HoldsEntry v r x × (x.row ≡ Some row)

-- the object is a static row
abbrev pub IsStatic : View → Ref → Type 0
IsStatic v r = (row : Row) × HoldsStatic v r row
