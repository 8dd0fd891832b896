-- Which bytes are a table, and where the first damage of other bytes is.
--     MayStand, ItemFits     when an item fits where it stands, given what stands before it
--     whole_table, IsTable     the items of partitions; the bytes that are their spellings, each of which fits
--     FirstDamage        the first item that does not fit or is not whole begins at an offset
--     IsOtherSchema      a well-formed head of another schema
--     PartsFit           the partitions that a table can hold
use Rattle.std.specs.Prelude.{◌≡◌, ◌≢◌, ℕ, List, [], ◌∷◌, ◌++◌, map as list_map, All, IsTrue, None, IfSome, ⊤}
use Rattle.std.specs.List.{flat_map}
use Rattle.std.specs.FinMap.{is_sorted}
use Rattle.std.specs.declared.cmp.Ordering.TheVariants.{Less}
use Rattle.rc_cell.specs.Winner.{empty_row}
use Rattle.rc_position.specs.Position.{bytes_cmp, row_pos}
use Rattle.rc_schema.specs.SchemaValue.{SchemaValue}
use Rattle.rc_mutation.specs.declared.fragments.Frag.{Frag}
use Rattle.rc_mutation.specs.declared.fragments.Frag.TheVariants as frag
use Rattle.rc_mutation.specs.declared.mutations.Partition.{Partition}
use Rattle.rc_mutation.specs.Canonical.{ComesNext}
use Rattle.rc_mutation.specs.Fragments.{fragments}
use Rattle.rc_writes.specs.Allowed.{IsStaticOf, IsRowOf, IsRangeBound, ChangeFits}
use Rattle.rc_items.specs.Items.{Item, HeadItem, PartItem, RowItem, ChangeItem, EndItem, StopItem, TailItem, item_code, IsItem}
use Rattle.rc_items.specs.Before.{ItemsBefore, text, offset, followed_by, Between, Inside, item_place, last_part, last_pos, tomb_in_force}
use Rattle.rc_items.specs.Blocks.{ending, items_due}

-- an item may stand behind others: keys and positions strictly ascend, and behind the stop it is the next of those that must come
abbrev pub MayStand : SchemaValue → ItemsBefore → Item → Type 0
MayStand schema before (HeadItem other) = (before ≡ []) × (other ≡ schema)
MayStand schema before (PartItem key pt statics) = (item_place before ≡ Between) × IfSome (last_part before) (λ last. bytes_cmp last.0 key ≡ Less) × IsStaticOf schema statics
MayStand schema before (RowItem key row) = (item_place before ≡ Inside) × ComesNext (last_pos before) (row_pos key) × IsRowOf schema key row × (row ≢ empty_row)
MayStand schema before (ChangeItem x tomb) = (item_place before ≡ Inside) × ComesNext (last_pos before) x × IsRangeBound schema x × (tomb ≢ tomb_in_force before)
MayStand schema before EndItem = (item_place before ≡ Inside) × (tomb_in_force before ≡ None)
MayStand schema before StopItem = item_place before ≡ Between
MayStand schema before x = (more : List Item) × (items_due before ≡ x ∷ more)

-- an item fits where it stands
abbrev pub ItemFits : SchemaValue → ItemsBefore → Item → Type 0
ItemFits schema before x = IsItem x × MayStand schema before x

-- each item fits where it stands
abbrev pub AllFit : SchemaValue → ItemsBefore → Type 0
AllFit schema [] = ⊤
AllFit schema (x ∷ before) = AllFit schema before × ItemFits schema before x

-- a fragment's item: the start and the static row stand in the part
abbrev pub frag_items : Frag → List Item
frag_items (frag.Row key row) = RowItem key row ∷ []
frag_items (frag.Change x tomb) = ChangeItem x tomb ∷ []
frag_items frag.End = EndItem ∷ []
frag_items f = []

-- a partition's items: its part, and its canonical fragments
abbrev pub part_items : Partition → List Item
part_items p = PartItem p.key p.change.pt p.change.statics ∷ flat_map frag_items (fragments p.change)

-- the items of a schema and partitions up to the stop
abbrev pub items_to_stop : SchemaValue → List Partition → ItemsBefore
items_to_stop schema parts = followed_by [] (HeadItem schema ∷ (flat_map part_items parts ++ StopItem ∷ []))

-- all items of a table
abbrev pub whole_table : SchemaValue → List Partition → ItemsBefore
whole_table schema parts = followed_by (items_to_stop schema parts) (ending (items_to_stop schema parts))

-- the bytes are the spellings of the table's items, each of which fits
pub record IsTable (bytes : List ℕ) (schema : SchemaValue) (parts : List Partition) : Type 0 where
  pub spelled : bytes ≡ text (whole_table schema parts)
  pub fit : AllFit schema (whole_table schema parts)

-- the bytes begin with a well-formed head of another schema
pub record IsOtherSchema (bytes : List ℕ) (schema : SchemaValue) : Type 0 where
  pub other : SchemaValue
  pub more : List ℕ
  pub head : bytes ≡ item_code (HeadItem other) ++ more
  pub fits : IsItem (HeadItem other)
  pub differs : other ≢ schema

-- the bytes begin with items that fit, and at the offset behind them no item fits that is there whole; behind the tail bytes follow
pub record FirstDamage (bytes : List ℕ) (schema : SchemaValue) (off : ℕ) : Type 0 where
  pub before : ItemsBefore
  pub behind : List ℕ
  pub spelled : bytes ≡ text before ++ behind
  pub fit : AllFit schema before
  pub here : off ≡ offset before
  pub unfit : (x : Item) (more : List ℕ) → ItemFits schema before x → behind ≡ item_code x ++ more → ⊥
  pub not_whole : (dir parts : ℕ) (earlier : ItemsBefore) → before ≡ TailItem dir parts ∷ earlier → behind ≢ []
  pub same_schema : IsOtherSchema bytes schema → ⊥

-- partitions that a table of the schema can hold: keys strictly ascend, and what each says fits the schema
pub record PartsFit (schema : SchemaValue) (parts : List Partition) : Type 0 where
  pub ascend : IsTrue (is_sorted bytes_cmp (list_map (λ p. (p.key, p.change)) parts))
  pub each : All (λ p. ChangeFits schema p.change) parts
