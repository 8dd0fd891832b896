-- The blocks of a partition, and the directory: what the partitions determine of the rest of the file.
use Rattle.std.specs.Prelude.{ℕ, ◌+◌, nat_le, List, [], ◌∷◌, ◌++◌, length, drop, map as list_map, if◌then◌else◌}
use Rattle.std.specs.List.{flat_map}
use Rattle.std.specs.Option.{unwrap_or}
use Rattle.rc_position.specs.declared.positions.Pos.{Pos}
use Rattle.rc_position.specs.Position.{row_pos}
use Rattle.rc_items.specs.declared.blocks.Block.{Block}
use Rattle.rc_items.specs.Items.{Item, RowItem, ChangeItem, EndItem, StopItem, EntryItem, BlockItem, TailItem, item_code}
use Rattle.rc_items.specs.Before.{ItemsBefore, offset, last_part, tomb_in_force}

-- the longest block of more than one fragment, in bytes
abbrev pub block_limit : ℕ
block_limit = 4096

-- a block of one fragment, which stands behind these items at a position
abbrev pub new_block : ItemsBefore → Item → Pos → Block
new_block before x first = record { off = offset before; len = length (item_code x); tomb = tomb_in_force before; first = first }

-- a fragment joins the last block, unless there is none or it would make the block longer than the limit; then its own block begins
abbrev pub with_fragment : List Block → Block → List Block
with_fragment [] new = new ∷ []
with_fragment (b ∷ []) new = if nat_le (b.len + new.len) block_limit then record b { len = b.len + new.len } ∷ [] else b ∷ new ∷ []
with_fragment (b ∷ c ∷ bs) new = b ∷ with_fragment (c ∷ bs) new

-- the blocks of the partition so far: its rows and changes grouped in order
abbrev pub blocks : ItemsBefore → List Block
blocks (RowItem key row ∷ before) = with_fragment (blocks before) (new_block before (RowItem key row) (row_pos key))
blocks (ChangeItem x tomb ∷ before) = with_fragment (blocks before) (new_block before (ChangeItem x tomb) x)
blocks before = []

-- what the directory lists of a partition: its key, the offset of its part, and its blocks
pub record DirectoryEntry : Type 0 where
  pub key : List ℕ
  pub off : ℕ
  pub blocks : List Block

-- the entries of the partitions that have ended, in the order of the file
abbrev pub entries : ItemsBefore → List DirectoryEntry
entries [] = []
entries (EndItem ∷ before) = let part = unwrap_or (last_part before) ([], 0) in entries before ++ record { key = part.0; off = part.1; blocks = blocks before } ∷ []
entries (x ∷ before) = entries before

-- a partition in the directory, followed by its blocks
abbrev pub entry_items : DirectoryEntry → List Item
entry_items e = EntryItem e.key e.off (length e.blocks) ∷ list_map BlockItem e.blocks

-- what must come behind the stop: the directory of all partitions, and the tail
abbrev pub ending : ItemsBefore → List Item
ending before = flat_map entry_items (entries before) ++ TailItem (offset before) (length (entries before)) ∷ []

-- the items that must still come, behind the stop
abbrev pub items_due : ItemsBefore → List Item
items_due (StopItem ∷ before) = ending (StopItem ∷ before)
items_due (EntryItem key off blocks ∷ before) = drop 1 (items_due before)
items_due (BlockItem b ∷ before) = drop 1 (items_due before)
items_due (TailItem off parts ∷ before) = drop 1 (items_due before)
items_due before = []
