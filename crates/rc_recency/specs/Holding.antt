-- A version of a chain as region, list, table and counts hold it, and what they hold after a change.
--     IsHeldVersion   they hold a memory, in which an object is the version of a number of a chain
--     HoldsAfter      they hold some memory then, of which this is true
--     IsTakenOff      they hold the memory with a list that has a place no more
--     IsRelisted      nothing but links of the recency list changed
use Rattle.std.specs.Prelude.{◌≡◌, ◌⊎◌, ℕ, List, length, Some, Contains}
use Rattle.rc_cell.specs.declared.rows.Row.{Row}
use Rattle.rc_position.specs.declared.positions.Pos.{Pos}
use Rattle.rc_position.specs.Position.{IsBefore}
use Rattle.rc_rowcode.specs.Objects.{static_size}
use Rattle.rc_rowcode.specs.Spelling.{row_code}
use Rattle.lsa_store.specs.declared.place.Ref.{Ref}
use Rattle.lsa_region.specs.declared.end.End.{End}
use Rattle.lsa_region.specs.Region.{View, link_of, SameObjects}
use Rattle.lsa_list.specs.declared.recency.List.{List as Slots}
use Rattle.lsa_list.specs.Recency.{IsElsewhere}
use Rattle.rc_core.specs.declared.entries.ChainKind.{ChainKind}
use Rattle.rc_core.specs.declared.entries.ChainKind.TheVariants.{Memtable}
use Rattle.rc_core.specs.declared.entries.Entry.{Entry}
use Rattle.rc_core.specs.Change.{joined_onto}
use Rattle.rc_core.specs.Version.{On, Version, end_position, finding_in}
use Rattle.rc_object.specs.Objects.{HasRoomFor, HoldsEntry, HoldsStatic, entry_length}
use Rattle.rc_version.specs.Versions.{joined_bytes}
use Rattle.rc_registry.specs.Registry.{Registry}
use Rattle.rc_memory.specs.declared.counts.Counts.{Counts}
use Rattle.rc_memory.specs.Memory.{KeptChain, Member, Memory, IsVersionAt, IsVersionObject, chain_at, listed_as}
use Rattle.rc_memory.specs.Kept.{HoldMemory}
use Rattle.rc_memory.specs.Changes.{IsWithout}

-- region, list, table and counts hold this memory, in which the object is the version of a number of a chain
pub record IsHeldVersion (slots : Slots) (v : View) (registry : Registry) (counts : Counts) (m : Memory) (id j : ℕ) (k : KeptChain) (c : Version) (n : Ref) : Type 0 where
  pub held : HoldMemory slots v registry counts m
  pub chain : chain_at m id ≡ Some k
  pub number : IsVersionAt k.chain.versions j c
  pub object : IsVersionObject m id j n

-- they hold some memory, of which this is true
abbrev pub HoldsAfter : Slots → View → Registry → Counts → (Memory → Type 0) → Type 0
HoldsAfter slots v registry counts P = (n : Memory) × HoldMemory slots v registry counts n × P n

-- they hold the memory with another recency list, the one before without a place
pub record IsTakenOff (slots : Slots) (v : View) (registry : Registry) (counts : Counts) (m : Memory) (w : Member) : Type 0 where
  pub list : List Member
  pub held : HoldMemory slots v registry counts (listed_as list v m)
  pub without : IsWithout w m.recency list
  pub off : Contains list w → ⊥

-- each link but those of the recency list names what it did, and all else is as it was
pub record IsRelisted (slots : Slots) (old new : View) : Type 0 where
  pub links : (e : End) → IsElsewhere slots old e → link_of new e ≡ link_of old e
  pub objects : SameObjects old new

-- the place of what is made anew is in the recency list of no memtable
abbrev pub IsOffMemtable : ChainKind → Member → Memory → Type 0
IsOffMemtable kind w m = kind ≡ Memtable → Contains m.recency w → ⊥

-- there is room for the entry of a version at a position with a row joined
abbrev pub HasRoomToJoin : ℕ → View → ℕ → Pos → Row → Version → Type 0
HasRoomToJoin S v space x row c = HasRoomFor S v (joined_bytes x row c) space (entry_length x (Some (joined_onto (finding_in (On x) c.entries).row row)))

-- there is room for a static row of a version with a row joined
abbrev pub HasRoomForStatics : ℕ → View → ℕ → Row → Version → Type 0
HasRoomForStatics S v space row c = HasRoomFor S v (static_size (joined_onto c.statics row)) space (length (row_code (joined_onto c.statics row)))

-- there is room to join to a version the row of an object of another one: that of an entry before the end, or a static row
abbrev pub HasRoomLike : ℕ → View → ℕ → Ref → Version → Type 0
HasRoomLike S v space e c =
    ((y : Entry) × (row : Row) × HoldsEntry v e y × (y.row ≡ Some row) × IsBefore y.position end_position × HasRoomToJoin S v space y.position row c)
    ⊎ ((row : Row) × HoldsStatic v e row × HasRoomForStatics S v space row c)
