-- What the object at a place holds.
use Rattle.std.specs.Prelude.{◌≡◌, Option, Some, None, Contains, IsSomeAnd}
use Rattle.lsa_region.specs.Region.{View}
use Rattle.lsa_store.specs.declared.place.Ref.{Ref}
use Rattle.rc_cell.specs.declared.rows.Row.{Row}
use Rattle.rc_position.specs.declared.positions.Pos.{Pos}
use Rattle.rc_core.specs.declared.entries.Entry.{Entry}
use Rattle.rc_core.specs.Version.{Version}
use Rattle.rc_object.specs.Objects.{HoldsEntry, HoldsStatic}
use Rattle.rc_memory.specs.Memory.{Member, Memory, IsVersionAt, chain_at}

-- the object holds what a version has at a place: its entry there, or its static row
abbrev pub HoldsPlaced : View → Ref → Option Pos → Version → Type 0
HoldsPlaced view r None v = (row : Row) × (v.statics ≡ Some row) × HoldsStatic view r row
HoldsPlaced view r (Some x) v = (y : Entry) × Contains v.entries y × (y.position ≡ x) × HoldsEntry view r y

-- a place is of a version of a chain, and the object holds what that has there
abbrev pub IsHeldAt : Memory → Ref → Member → Type 0
IsHeldAt m r w = IsSomeAnd (chain_at m w.chain) (λ k. (v : Version) × IsVersionAt k.chain.versions w.version v × HoldsPlaced m.region r w.position v)
