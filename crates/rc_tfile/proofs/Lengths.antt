-- How long items are.
use Rattle.std.proofs.Common.{◌≡◌, ℕ, ◌≤◌, List, ◌++◌, length, Option, Some, None, refl, arith, ℤ, length-append}
use Rattle.std.specs.Prelude.{codes}
use Rattle.rc_cell.specs.declared.rows.Row.{Row}
use Rattle.rc_cell.specs.declared.writes.Tomb.{Tomb}
use Rattle.rc_position.specs.declared.comps.Comp.{Comp}
use Rattle.rc_position.specs.declared.positions.Pos.{Pos}
use Rattle.rc_schema.specs.SchemaValue.{SchemaValue}
use Rattle.rc_rowcode.specs.Spelling.{stamp_code, time_code, tomb_code, optional_code, key_code, pos_code, cells_code, row_code, KeyFits, IsCodedRow}
use Rattle.rc_rowcode.specs.laws.Sizes.{length-stamp, length-time, key_small, cells_small}
use Rattle.rc_rowcode.specs.laws.Limits.{key_limits, row_limits}
use Rattle.rc_items.specs.declared.blocks.Block.{Block}
use Rattle.rc_items.specs.Items.{Item, HeadItem, PartItem, RowItem, ChangeItem, EndItem, StopItem, EntryItem, BlockItem, TailItem, item_code, offset_code, IsItem, bytes_code}
use Rattle.rc_items.specs.Before.{ItemsBefore, Behind, item_place}
use Rattle.rc_items.specs.TableText.{ItemFits}
use Rattle.rc_tfile.proofs.Ahead.{head_within}
use Rattle.rc_items.specs.laws.Unfit.{not_due}

length-offset : (n : ℕ) → length (offset_code n) ≡ 8
unfolding offset_code
length-offset n = refl

length-tomb : (t : Tomb) → length (tomb_code t) ≡ 12
length-tomb t = omega (arith, length-append (stamp_code t.ts) (time_code t.dt), length-stamp t.ts, length-time t.dt)

tomb_within : (o : Option Tomb) → length (optional_code tomb_code o) ≤ 13
tomb_within None = omega arith
tomb_within (Some t) = omega (arith, length-tomb t)

stamp_within : (o : Option ℤ) → length (optional_code stamp_code o) ≤ 9
stamp_within None = omega arith
stamp_within (Some z) = omega (arith, length-stamp z)

key_within : (k : List Comp) → KeyFits k → length (key_code k) ≤ 265
key_within k fits = omega (arith, key_small k fits)

row_within : (r : Row) → IsCodedRow r → length (row_code r) ≤ 8599
row_within r is =
    omega (arith, length-append (optional_code stamp_code r.marker) (optional_code tomb_code r.tomb ++ cells_code r.cells), length-append (optional_code tomb_code r.tomb) (cells_code r.cells), stamp_within r.marker, tomb_within r.tomb, cells_small r.cells is.ascending (row_limits r is))

part_within : (key : List ℕ) (pt : Option Tomb) (statics : Row) → IsItem (PartItem key pt statics) → length (item_code (PartItem key pt statics)) ≤ 65541
part_within key pt statics is =
    omega (arith, length-append (bytes_code key) (optional_code tomb_code pt ++ row_code statics), length-append (optional_code tomb_code pt) (row_code statics), is.0.1, tomb_within pt, row_within statics is.1.1)

row_item_within : (key : List Comp) (row : Row) → IsItem (RowItem key row) → length (item_code (RowItem key row)) ≤ 65541
row_item_within key row is = omega (arith, length-append (key_code key) (row_code row), key_within key (key_limits key is.0), row_within row is.1)

change_within : (x : Pos) (tomb : Option Tomb) → IsItem (ChangeItem x tomb) → length (item_code (ChangeItem x tomb)) ≤ 65541
change_within x tomb is = omega (arith, length-append (pos_code x) (optional_code tomb_code tomb), key_within x.prefix (key_limits x.prefix is.0), tomb_within tomb)

-- an item up to the stop is no longer than what is read at once
pub fits_within : (schema : SchemaValue) (before : ItemsBefore) (x : Item) → (item_place before ≡ Behind → ⊥) → ItemFits schema before x → length (item_code x) ≤ 65541
fits_within schema before (HeadItem z) h f = head_within z f.0
fits_within schema before (PartItem key pt statics) h f = part_within key pt statics f.0
fits_within schema before (RowItem key row) h f = row_item_within key row f.0
fits_within schema before (ChangeItem x tomb) h f = change_within x tomb f.0
fits_within schema before EndItem h f = omega arith
fits_within schema before StopItem h f = omega arith
fits_within schema before (EntryItem key off blocks) h f = absurd (not_due before (EntryItem key off blocks) h f.1)
fits_within schema before (BlockItem b) h f = absurd (not_due before (BlockItem b) h f.1)
fits_within schema before (TailItem off parts) h f = absurd (not_due before (TailItem off parts) h f.1)

-- nor are the directory's items and the tail
pub entry_within : (key : List ℕ) (off blocks : ℕ) → length key ≤ 64 → length (item_code (EntryItem key off blocks)) ≤ 65541
entry_within key off blocks h = omega (arith, h, length-append (bytes_code key) (offset_code off ++ time_code blocks), length-append (offset_code off) (time_code blocks), length-offset off, length-time blocks)

pub block_within : (b : Block) → KeyFits b.first.prefix → length (item_code (BlockItem b)) ≤ 65541
block_within b h =
    omega (
      arith,
      length-append (offset_code b.off) (time_code b.len ++ (optional_code tomb_code b.tomb ++ pos_code b.first)),
      length-append (time_code b.len) (optional_code tomb_code b.tomb ++ pos_code b.first),
      length-append (optional_code tomb_code b.tomb) (pos_code b.first),
      length-offset b.off,
      length-time b.len,
      tomb_within b.tomb,
      key_within b.first.prefix h,
    )

pub tail_within : (off parts : ℕ) → length (item_code (TailItem off parts)) ≤ 65541
tail_within off parts = omega (arith, length-append (offset_code off) (time_code parts ++ codes "RCTE"), length-append (time_code parts) (codes "RCTE"), length-offset off, length-time parts)

-- each item has a byte
pub some_bytes : (x : Item) → 1 ≤ length (item_code x)
some_bytes (HeadItem z) = omega arith
some_bytes (PartItem key pt statics) = omega arith
some_bytes (RowItem key row) = omega arith
some_bytes (ChangeItem x tomb) = omega arith
some_bytes EndItem = omega arith
some_bytes StopItem = omega arith
some_bytes (EntryItem key off blocks) = omega arith
some_bytes (BlockItem b) = omega arith
some_bytes (TailItem off parts) = omega (arith, length-append (offset_code off) (time_code parts ++ codes "RCTE"), length-offset off)
