-- What is known of a table without reading it: its number, and for each partition where the directory lists it.
use Rattle.std.specs.Prelude.{ℕ, ◌+◌, List, [], ◌∷◌, length}
use Rattle.std.specs.List.{flat_map}
use Rattle.rc_schema.specs.SchemaValue.{SchemaValue}
use Rattle.rc_mutation.specs.declared.mutations.Partition.{Partition}
use Rattle.rc_tfile.specs.declared.info.PartRef.{PartRef}
use Rattle.rc_tfile.specs.declared.info.TableInfo.{TableInfo}
use Rattle.rc_items.specs.Items.{item_code}
use Rattle.rc_items.specs.Before.{offset}
use Rattle.rc_items.specs.Blocks.{DirectoryEntry, entry_items, entries}
use Rattle.rc_items.specs.TableText.{items_to_stop}

-- where the directory lists partitions, the first at an offset: one behind another, each with as many bytes as its items take
abbrev pub refs_from : ℕ → List DirectoryEntry → List PartRef
refs_from off [] = []
refs_from off (e ∷ es) = let size = length (flat_map item_code (entry_items e)) in record { key = e.key; dir_off = off; dir_len = size } ∷ refs_from (off + size) es

-- what is known of the table of these partitions that has this number: the directory begins behind the stop
abbrev pub info_of : ℕ → SchemaValue → List Partition → TableInfo
info_of n schema parts = let before = items_to_stop schema parts in record { number = n; parts = refs_from (offset before) (entries before) }
