-- Where a partition lies in a table file, what a table can say of it, and when bytes contradict the table as it was checked.
use Rattle.std.specs.Prelude.{◌≡◌, ◌⊎◌, ℕ, ◌+◌, ◌-◌, ◌<◌, ◌≤◌, ◌^◌, min, List, [], ◌∷◌, ◌++◌, length, drop, Option, Some, None, ⊤}
use Rattle.std.specs.List.{flat_map, AllByRecursion}
use Rattle.rc_outside.specs.Files.{Files}
use Rattle.rc_schema.specs.SchemaValue.{SchemaValue}
use Rattle.rc_mutation.specs.Source.{IsMutation}
use Rattle.rc_tfile.specs.declared.info.PartRef.{PartRef}
use Rattle.rc_tfile.specs.Items.{item_code, EntryItem, IsItem}
use Rattle.rc_tfile.specs.TableText.{part_items}
use Rattle.rc_mutation.specs.declared.mutations.Mutation.{Mutation}
use Rattle.rc_writes.specs.Allowed.{ChangeFits}

-- so much is owed where the files are told
abbrev pub WhereTold : Option Files → Type 0 → Type 0
WhereTold None P = ⊤
WhereTold (Some files) P = P

-- how many bytes are read of what the directory says of the first of these partitions: no more than 78, which hold what comes before its blocks
abbrev pub glimpse_length : List PartRef → ℕ
glimpse_length [] = 0
glimpse_length (r ∷ rs) = min r.dir_len 78

-- bytes of the directory begin with a partition of this key whose part begins at an offset
abbrev pub IsEntryAt : List ℕ → List ℕ → ℕ → Type 0
IsEntryAt bytes key off = (blocks : ℕ) × (more : List ℕ) × (off < 2 ^ 64) × (bytes ≡ item_code (EntryItem key off blocks) ++ more)

-- the partition before these ends at an offset: where the first of them begins, as the bytes say, or right before the stop
abbrev pub EndsAt : ℕ → List ℕ → List PartRef → ℕ → Type 0
EndsAt dir bytes [] to = dir ≡ to + 1
EndsAt dir bytes (r ∷ rs) to = IsEntryAt bytes r.key to

-- the items of a partition may lie from one offset up to another: these are in order, and before the directory that begins at an offset
abbrev pub MayLie : ℕ → ℕ → ℕ → Type 0
MayLie dir from to = (from ≤ to) × (to < dir)

-- a mutation that a table of the schema can hold
abbrev pub SaysOf : SchemaValue → Mutation → Type 0
SaysOf schema m = IsMutation m × ChangeFits schema m

-- bytes are the items of a key's part: they say what a table of the schema can hold, each within the limits
pub record ArePartItems (schema : SchemaValue) (key : List ℕ) (m : Mutation) (bytes : List ℕ) : Type 0 where
  pub says : SaysOf schema m
  pub items : AllByRecursion IsItem (part_items (record { key = key; change = m }))
  pub spelled : bytes ≡ flat_map item_code (part_items (record { key = key; change = m }))

-- bytes of the directory, as many as are read, contradict the table as checked: they do not say where the items of a partition lie
pub record SaysNoSpan (dir : ℕ) (here : PartRef) (later : List PartRef) : Type 0 where
  pub piece : List ℕ
  pub size : length piece ≡ here.dir_len + glimpse_length later
  pub none : (from to : ℕ) → IsEntryAt piece here.key from → EndsAt dir (drop here.dir_len piece) later to → MayLie dir from to → ⊥

-- bytes of the directory, as many as are read, say of no other offsets than these that the items of a partition lie from one up to the other
pub record SaysSpan (dir : ℕ) (here : PartRef) (later : List PartRef) (from to : ℕ) : Type 0 where
  pub piece : List ℕ
  pub size : length piece ≡ here.dir_len + glimpse_length later
  pub begins : (x : ℕ) → IsEntryAt piece here.key x → x ≡ from
  pub ends : (x : ℕ) → EndsAt dir (drop here.dir_len piece) later x → x ≡ to
  pub order : MayLie dir from to

-- bytes of a file contradict the table as checked: from this offset on, where the directory says that the items of a key's part lie, they are
-- not such items, of the schema
pub record SaysNoPart (schema : SchemaValue) (dir : ℕ) (here : PartRef) (later : List PartRef) (from : ℕ) : Type 0 where
  pub to : ℕ
  pub said : SaysSpan dir here later from to
  pub bytes : List ℕ
  pub count : length bytes ≡ to - from
  pub none : (m : Mutation) → ArePartItems schema here.key m bytes → ⊥

-- a file is file n, and from an offset on bytes that were read contradict the table as checked: what its directory says of a partition, or the items of
-- the partition
abbrev pub Contradicts : SchemaValue → ℕ → ℕ → PartRef → List PartRef → ℕ → ℕ → Type 0
Contradicts schema n dir here later file offset = (file ≡ n) × (((offset ≡ here.dir_off) × SaysNoSpan dir here later) ⊎ SaysNoPart schema dir here later offset)
