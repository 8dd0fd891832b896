-- Of the items that fit behind the same ones, the bytes decide which one they begin with.
use Rattle.std.proofs.Common.{◌≡◌, ℕ, ◌≤◌, List, [], ◌∷◌, ◌++◌, length, take, drop, Option, Some, refl, sym, ap, ◌∙◌, arith, append_assoc}
use Rattle.std.specs.Prelude.{codes}
use Rattle.std.proofs.lemmas.List.{take_at, length-append}
use Rattle.rc_cell.specs.declared.rows.Row.{Row}
use Rattle.rc_cell.specs.declared.writes.Tomb.{Tomb}
use Rattle.rc_position.specs.declared.comps.Comp.{Comp}
use Rattle.rc_position.specs.declared.positions.Pos.{Pos}
use Rattle.rc_position.specs.Position.{IsPartKey}
use Rattle.rc_schema.specs.SchemaValue.{SchemaValue}
use Rattle.rc_schema.specs.SchemaText.{schema_text, schema_of}
use Rattle.rc_schema.specs.laws.SchemaTexts.{text_reads_back}
use Rattle.rc_rowcode.specs.Spelling.{length_code, time_code, optional_code, tomb_code, key_code, pos_code, row_code, IsKey, IsPos, IsCodedRow}
use Rattle.rc_rowcode.specs.laws.Fields.{length_codec}
use Rattle.rc_rowcode.specs.laws.Read.{one_spelling}
use Rattle.rc_tfile.specs.Items.{Item, HeadItem, PartItem, RowItem, ChangeItem, EndItem, StopItem, EntryItem, BlockItem, TailItem, item_code, offset_code, IsItem, bytes_code}
use Rattle.rc_tfile.specs.Before.{ItemsBefore, ItemPlace, Start, Between, Inside, Behind, item_place}
use Rattle.rc_tfile.specs.Blocks.{items_due}
use Rattle.rc_tfile.specs.TableText.{MayStand, ItemFits}
use Rattle.rc_tfile.specs.laws.Starting.{IsOptional, rest_of, both_free, key_free, full_key_free, pos_free, row_free, optional_free}

-- each item has a byte
pub some_bytes : (x : Item) → 1 ≤ length (item_code x)
some_bytes (HeadItem z) = omega arith
some_bytes (PartItem key pt statics) = omega arith
some_bytes (RowItem key row) = omega arith
some_bytes (ChangeItem x tomb) = omega arith
some_bytes EndItem = omega arith
some_bytes StopItem = omega arith
some_bytes (EntryItem key off blocks) = omega arith
some_bytes (BlockItem b) = omega arith
some_bytes (TailItem off parts) = omega (arith, length-append (offset_code off) (time_code parts ++ codes "RCTE"), length-append (time_code parts) (codes "RCTE"))

-- where an item may stand
abbrev home : Item → ItemPlace
home (HeadItem schema) = Start
home (PartItem key pt statics) = Between
home (RowItem key row) = Inside
home (ChangeItem x tomb) = Inside
home EndItem = Inside
home StopItem = Between
home (EntryItem key off blocks) = Behind
home (BlockItem b) = Behind
home (TailItem off parts) = Behind

due_behind : (before : ItemsBefore) (x : Item) → ((more : List Item) × (items_due before ≡ x ∷ more)) → item_place before ≡ Behind
due_behind [] x d = absurd (let q : [] ≡ x ∷ d.0 = d.1 in cc)
due_behind (HeadItem schema ∷ before) x d = absurd (let q : [] ≡ x ∷ d.0 = d.1 in cc)
due_behind (PartItem key pt statics ∷ before) x d = absurd (let q : [] ≡ x ∷ d.0 = d.1 in cc)
due_behind (RowItem key row ∷ before) x d = absurd (let q : [] ≡ x ∷ d.0 = d.1 in cc)
due_behind (ChangeItem y tomb ∷ before) x d = absurd (let q : [] ≡ x ∷ d.0 = d.1 in cc)
due_behind (EndItem ∷ before) x d = absurd (let q : [] ≡ x ∷ d.0 = d.1 in cc)
due_behind (StopItem ∷ before) x d = refl
due_behind (EntryItem key off blocks ∷ before) x d = refl
due_behind (BlockItem b ∷ before) x d = refl
due_behind (TailItem off parts ∷ before) x d = refl

at_home : (schema : SchemaValue) (before : ItemsBefore) (x : Item) → MayStand schema before x → item_place before ≡ home x
at_home schema before (HeadItem other) f = ap item_place f.0
at_home schema before (PartItem key pt statics) f = f.0
at_home schema before (RowItem key row) f = f.0
at_home schema before (ChangeItem x tomb) f = f.0
at_home schema before EndItem f = f.0
at_home schema before StopItem f = f
at_home schema before (EntryItem key off blocks) f = due_behind before (EntryItem key off blocks) f
at_home schema before (BlockItem b) f = due_behind before (BlockItem b) f
at_home schema before (TailItem off parts) f = due_behind before (TailItem off parts) f

-- what holds of the items that may stand at a place
module _ (P : Item → Type 0) where
  at_start : ((schema : SchemaValue) → P (HeadItem schema)) → (x : Item) → Start ≡ home x → P x
  at_start h (HeadItem schema) e = h schema
  at_start h (PartItem key pt statics) e = absurd cc
  at_start h (RowItem key row) e = absurd cc
  at_start h (ChangeItem x tomb) e = absurd cc
  at_start h EndItem e = absurd cc
  at_start h StopItem e = absurd cc
  at_start h (EntryItem key off blocks) e = absurd cc
  at_start h (BlockItem b) e = absurd cc
  at_start h (TailItem off parts) e = absurd cc

  at_between : ((key : List ℕ) (pt : Option Tomb) (statics : Row) → P (PartItem key pt statics)) → P StopItem → (x : Item) → Between ≡ home x → P x
  at_between h k (HeadItem schema) e = absurd cc
  at_between h k (PartItem key pt statics) e = h key pt statics
  at_between h k (RowItem key row) e = absurd cc
  at_between h k (ChangeItem x tomb) e = absurd cc
  at_between h k EndItem e = absurd cc
  at_between h k StopItem e = k
  at_between h k (EntryItem key off blocks) e = absurd cc
  at_between h k (BlockItem b) e = absurd cc
  at_between h k (TailItem off parts) e = absurd cc

  at_inside : ((key : List Comp) (row : Row) → P (RowItem key row)) → ((x : Pos) (tomb : Option Tomb) → P (ChangeItem x tomb)) → P EndItem → (x : Item) → Inside ≡ home x → P x
  at_inside h k m (HeadItem schema) e = absurd cc
  at_inside h k m (PartItem key pt statics) e = absurd cc
  at_inside h k m (RowItem key row) e = h key row
  at_inside h k m (ChangeItem x tomb) e = k x tomb
  at_inside h k m EndItem e = m
  at_inside h k m StopItem e = absurd cc
  at_inside h k m (EntryItem key off blocks) e = absurd cc
  at_inside h k m (BlockItem b) e = absurd cc
  at_inside h k m (TailItem off parts) e = absurd cc

-- items whose spellings begin the same bytes are one
abbrev Same : Item → Item → Type 0
Same x y = (m n : List ℕ) → IsItem x → IsItem y → item_code x ++ m ≡ item_code y ++ n → x ≡ y

part_one : (key : List ℕ) (pt : Option Tomb) (statics : Row) (y : Item) → Between ≡ home y → Same (PartItem key pt statics) y
part_one key pt statics = at_between (Same (PartItem key pt statics))
    (λ k p s m n f g e.
    let same = both_free bytes_code IsPartKey _ _ key_free (both_free (optional_code tomb_code) IsOptional row_code IsCodedRow optional_free row_free) (key, (pt, statics)) (k, (p, s)) m n f g (ap rest_of e) in
    λ i. PartItem ((same.0 i).0) ((same.0 i).1.0) ((same.0 i).1.1))
    (λ m n f g e. absurd cc)

stop_one : (y : Item) → Between ≡ home y → Same StopItem y
stop_one = at_between (Same StopItem) (λ k p s m n f g e. absurd cc) (λ m n f g e. refl)

row_one : (key : List Comp) (row : Row) (y : Item) → Inside ≡ home y → Same (RowItem key row) y
row_one key row = at_inside (Same (RowItem key row))
    (λ k r m n f g e. let same = both_free key_code IsKey row_code IsCodedRow full_key_free row_free (key, row) (k, r) m n f g (ap rest_of e) in λ i. RowItem ((same.0 i).0) ((same.0 i).1))
    (λ x t m n f g e. absurd cc)
    (λ m n f g e. absurd cc)

change_one : (x : Pos) (tomb : Option Tomb) (y : Item) → Inside ≡ home y → Same (ChangeItem x tomb) y
change_one x tomb = at_inside (Same (ChangeItem x tomb))
    (λ k r m n f g e. absurd cc)
    (λ z t m n f g e. let same = both_free pos_code IsPos (optional_code tomb_code) IsOptional pos_free optional_free (x, tomb) (z, t) m n f g (ap rest_of e) in λ i. ChangeItem ((same.0 i).0) ((same.0 i).1))
    (λ m n f g e. absurd cc)

end_one : (y : Item) → Inside ≡ home y → Same EndItem y
end_one = at_inside (Same EndItem) (λ k r m n f g e. absurd cc) (λ x t m n f g e. absurd cc) (λ m n f g e. refl)

module _ (schema : SchemaValue) (before : ItemsBefore) where
  due_there : (x : Item) → Behind ≡ home x → MayStand schema before x → (more : List Item) × (items_due before ≡ x ∷ more)
  due_there (HeadItem other) e h = absurd cc
  due_there (PartItem key pt statics) e h = absurd cc
  due_there (RowItem key row) e h = absurd cc
  due_there (ChangeItem x tomb) e h = absurd cc
  due_there EndItem e h = absurd cc
  due_there StopItem e h = absurd cc
  due_there (EntryItem key off blocks) e h = h
  due_there (BlockItem b) e h = h
  due_there (TailItem off parts) e h = h

  -- what is due is one item
  due_one : (x y : Item) → ((more : List Item) × (items_due before ≡ x ∷ more)) → ((more : List Item) × (items_due before ≡ y ∷ more)) → x ≡ y
  due_one x y d c = let q : x ∷ d.0 ≡ y ∷ c.0 = sym d.1 ∙ c.1 in cc

  same_home : (x y : Item) → ItemFits schema before x → ItemFits schema before y → home x ≡ home y
  same_home x y f g = sym (at_home schema before x f.1) ∙ at_home schema before y g.1

  -- the bytes decide which item that fits they begin with
  pub one_item : (x y : Item) (m n : List ℕ) → ItemFits schema before x → ItemFits schema before y → item_code x ++ m ≡ item_code y ++ n → x ≡ y
  one_item (HeadItem z) y m n f g e = at_start (λ y. MayStand schema before y → HeadItem z ≡ y) (λ o h. ap HeadItem (f.1.1 ∙ sym h.1)) y (same_home (HeadItem z) y f g) g.1
  one_item (PartItem key pt statics) y m n f g e = part_one key pt statics y (same_home (PartItem key pt statics) y f g) m n f.0 g.0 e
  one_item (RowItem key row) y m n f g e = row_one key row y (same_home (RowItem key row) y f g) m n f.0 g.0 e
  one_item (ChangeItem x tomb) y m n f g e = change_one x tomb y (same_home (ChangeItem x tomb) y f g) m n f.0 g.0 e
  one_item EndItem y m n f g e = end_one y (same_home EndItem y f g) m n f.0 g.0 e
  one_item StopItem y m n f g e = stop_one y (same_home StopItem y f g) m n f.0 g.0 e
  one_item (EntryItem key off blocks) y m n f g e = due_one (EntryItem key off blocks) y f.1 (due_there y (same_home (EntryItem key off blocks) y f g) g.1)
  one_item (BlockItem b) y m n f g e = due_one (BlockItem b) y f.1 (due_there y (same_home (BlockItem b) y f g) g.1)
  one_item (TailItem off parts) y m n f g e = due_one (TailItem off parts) y f.1 (due_there y (same_home (TailItem off parts) y f g) g.1)

-- a head's bytes decide its schema
pub one_head : (z o : SchemaValue) (m k : List ℕ) → IsItem (HeadItem z) → IsItem (HeadItem o) → item_code (HeadItem z) ++ m ≡ item_code (HeadItem o) ++ k → z ≡ o
one_head z o m k hz ho e =
    let rest : length_code (length (schema_text z)) ++ (schema_text z ++ m) ≡ length_code (length (schema_text o)) ++ (schema_text o ++ k) =
    sym (append_assoc (length_code (length (schema_text z))) (schema_text z) m) ∙ ap (drop 4) e ∙ append_assoc (length_code (length (schema_text o))) (schema_text o) k in
    let same = one_spelling length_codec (length (schema_text z)) (length (schema_text o)) (schema_text z ++ m) (schema_text o ++ k) hz.1 ho.1 rest in
    let text : schema_text z ≡ schema_text o = sym (take_at (schema_text z) m (length (schema_text z)) refl) ∙ (λ i. take (same.0 i) (same.1 i)) ∙ take_at (schema_text o) k (length (schema_text o)) refl in
    let back : Some z ≡ Some o = sym (text_reads_back z hz.0) ∙ ap schema_of text ∙ text_reads_back o ho.0 in
    cc
