-- The items of which a table file is a list, and the one spelling of each.
use Rattle.std.specs.Prelude.{ℕ, ◌<◌, ◌^◌, List, [], ◌∷◌, ◌++◌, length, codes, Option, IfSome, IsTrue, ⊤}
use Rattle.std.specs.Int.{w64, to_le_bytes}
use Rattle.rc_cell.specs.declared.rows.Row.{Row}
use Rattle.rc_cell.specs.declared.writes.Tomb.{Tomb}
use Rattle.rc_position.specs.declared.comps.Comp.{Comp}
use Rattle.rc_position.specs.declared.positions.Pos.{Pos}
use Rattle.rc_position.specs.Position.{IsPartKey}
use Rattle.rc_schema.specs.SchemaValue.{SchemaValue, is_schema}
use Rattle.rc_schema.specs.SchemaText.{schema_text}
use Rattle.rc_rowcode.specs.Spelling.{length_code, time_code, optional_code, tomb_code, key_code, pos_code, row_code, IsTomb, IsKey, IsPos, IsCodedRow}
use Rattle.rc_items.specs.declared.blocks.Block.{Block}

-- one item: the head with the schema; of each partition its part (key, tombstone, static row), its fragments, and its end; the stop
-- behind the last partition; the directory's items, of a partition (key, offset of its part, number of its blocks) and of a block; the tail
-- (offset of the first directory item, number of partitions)
pub data Item : Type 0 where
  HeadItem : SchemaValue → Item
  PartItem : List ℕ → Option Tomb → Row → Item
  RowItem : List Comp → Row → Item
  ChangeItem : Pos → Option Tomb → Item
  EndItem : Item
  StopItem : Item
  EntryItem : List ℕ → ℕ → ℕ → Item
  BlockItem : Block → Item
  TailItem : ℕ → ℕ → Item

-- an offset in 8 bytes, little-endian
unfoldable pub offset_code : ℕ → List ℕ
offset_code n = to_le_bytes w64 n

-- bytes behind their number in one byte
abbrev pub bytes_code : List ℕ → List ℕ
bytes_code bytes = length bytes ∷ bytes

-- the spelling of an item
abbrev pub item_code : Item → List ℕ
item_code (HeadItem schema) = codes "RCT1" ++ (length_code (length (schema_text schema)) ++ schema_text schema)
item_code (PartItem key pt statics) = 1 ∷ (bytes_code key ++ (optional_code tomb_code pt ++ row_code statics))
item_code (RowItem key row) = 2 ∷ (key_code key ++ row_code row)
item_code (ChangeItem x tomb) = 3 ∷ (pos_code x ++ optional_code tomb_code tomb)
item_code EndItem = 4 ∷ []
item_code StopItem = 5 ∷ []
item_code (EntryItem key off blocks) = 6 ∷ (bytes_code key ++ (offset_code off ++ time_code blocks))
item_code (BlockItem b) = 7 ∷ (offset_code b.off ++ (time_code b.len ++ (optional_code tomb_code b.tomb ++ pos_code b.first)))
item_code (TailItem off parts) = offset_code off ++ (time_code parts ++ codes "RCTE")

-- the items that spellings stand for: each value is within its limits, each number within its width (the values that the directory's items have
-- besides come from the partitions)
abbrev pub IsItem : Item → Type 0
IsItem (HeadItem schema) = IsTrue (is_schema schema) × (length (schema_text schema) < 2 ^ 16)
IsItem (PartItem key pt statics) = IsPartKey key × (IfSome pt IsTomb × IsCodedRow statics)
IsItem (RowItem key row) = IsKey key × IsCodedRow row
IsItem (ChangeItem x tomb) = IsPos x × IfSome tomb IsTomb
IsItem (EntryItem key off blocks) = (off < 2 ^ 64) × (blocks < 2 ^ 32)
IsItem (BlockItem b) = (b.off < 2 ^ 64) × (b.len < 2 ^ 32)
IsItem (TailItem off parts) = (off < 2 ^ 64) × (parts < 2 ^ 32)
IsItem x = ⊤
