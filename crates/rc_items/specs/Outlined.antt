-- What an outline keeps of the items so far.
use Rattle.std.specs.Prelude.{◌≡◌, [], Bool, true, false, IsSome, Option}
use Rattle.std.specs.Option.{option_map, unwrap_or}
use Rattle.rc_cell.specs.declared.writes.Tomb.{Tomb}
use Rattle.rc_position.specs.declared.positions.Pos.{Pos}
use Rattle.rc_position.specs.Position.{row_pos}
use Rattle.rc_items.specs.declared.outline.Outline.{Outline}
use Rattle.rc_items.specs.Items.{Item, HeadItem, PartItem, RowItem, ChangeItem, EndItem, StopItem, EntryItem, BlockItem, TailItem}
use Rattle.rc_items.specs.Before.{ItemsBefore, ItemPlace, Between, Inside, offset, item_place, last_part, last_pos, tomb_in_force}
use Rattle.rc_items.specs.Blocks.{blocks, entries}

-- inside a partition, or between two
abbrev pub outline_place : Bool → ItemPlace
outline_place true = Inside
outline_place false = Between

-- the outline's parts are what the items determine
pub record IsOutline (before : ItemsBefore) (o : Outline) : Type 0 where
  pub off : o.off ≡ offset before
  pub key : o.key ≡ option_map (λ part. part.0) (last_part before)
  pub «inside» : item_place before ≡ outline_place o.inside
  pub opened : o.inside ≡ true → IsSome o.key
  pub part : o.part ≡ (unwrap_or (last_part before) ([], 0)).1
  pub last : o.last ≡ last_pos before
  pub tomb : o.tomb ≡ tomb_in_force before
  pub blocks : o.blocks ≡ blocks before
  pub listed : o.listed.items ≡ entries before

-- behind the stop, only these are asked for
pub record IsListed (before : ItemsBefore) (o : Outline) : Type 0 where
  pub off : o.off ≡ offset before
  pub listed : o.listed.items ≡ entries before

-- an item is a fragment at a position, from which on a tombstone is in force
abbrev pub IsFragment : ItemsBefore → Item → Pos → Option Tomb → Type 0
IsFragment before (RowItem key row) x tomb = (x ≡ row_pos key) × (tomb ≡ tomb_in_force before)
IsFragment before (ChangeItem y new) x tomb = (x ≡ y) × (tomb ≡ new)
IsFragment before (HeadItem schema) x tomb = ⊥
IsFragment before (PartItem key pt statics) x tomb = ⊥
IsFragment before EndItem x tomb = ⊥
IsFragment before StopItem x tomb = ⊥
IsFragment before (EntryItem key off blocks) x tomb = ⊥
IsFragment before (BlockItem b) x tomb = ⊥
IsFragment before (TailItem off parts) x tomb = ⊥
