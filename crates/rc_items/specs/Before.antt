-- What stands before an item: the items from the nearest one back to the head, and what they determine.
use Rattle.std.specs.Prelude.{ℕ, List, [], ◌∷◌, ◌++◌, length, Option, Some, None}
use Rattle.rc_cell.specs.declared.writes.Tomb.{Tomb}
use Rattle.rc_position.specs.declared.positions.Pos.{Pos}
use Rattle.rc_position.specs.Position.{row_pos}
use Rattle.rc_items.specs.Items.{Item, HeadItem, PartItem, RowItem, ChangeItem, EndItem, item_code}

-- items, the nearest first
abbrev pub ItemsBefore : Type 0
ItemsBefore = List Item

-- the bytes of the items, in the order of the file
abbrev pub text : ItemsBefore → List ℕ
text [] = []
text (x ∷ before) = text before ++ item_code x

-- where the next item begins
abbrev pub offset : ItemsBefore → ℕ
offset before = length (text before)

-- items, and others that come behind them in this order
abbrev pub followed_by : ItemsBefore → List Item → ItemsBefore
followed_by before [] = before
followed_by before (x ∷ xs) = followed_by (x ∷ before) xs

-- what may come next: the head; a part or the stop; a fragment or the end of a partition; the directory and the tail
pub data ItemPlace : Type 0 where
  Start : ItemPlace
  Between : ItemPlace
  Inside : ItemPlace
  Behind : ItemPlace

-- where the items lead, by the nearest one
abbrev pub item_place : ItemsBefore → ItemPlace
item_place [] = Start
item_place (HeadItem schema ∷ before) = Between
item_place (PartItem key pt statics ∷ before) = Inside
item_place (RowItem key row ∷ before) = Inside
item_place (ChangeItem x tomb ∷ before) = Inside
item_place (EndItem ∷ before) = Between
item_place (x ∷ before) = Behind

-- the nearest partition: its key, and where its part begins
abbrev pub last_part : ItemsBefore → Option (List ℕ × ℕ)
last_part [] = None
last_part (PartItem key pt statics ∷ before) = Some (key, offset before)
last_part (x ∷ before) = last_part before

-- where the nearest fragment of the same partition stands
abbrev pub last_pos : ItemsBefore → Option Pos
last_pos (RowItem key row ∷ before) = Some (row_pos key)
last_pos (ChangeItem x tomb ∷ before) = Some x
last_pos before = None

-- the tombstone in force: that of the nearest change of the partition, none where it has none yet
abbrev pub tomb_in_force : ItemsBefore → Option Tomb
tomb_in_force (ChangeItem x tomb ∷ before) = tomb
tomb_in_force (RowItem key row ∷ before) = tomb_in_force before
tomb_in_force before = None
