-- Which items may stand where, and that the bytes decide which item it is.
use Rattle.std.proofs.Common.{◌≡◌, ℕ, Bool, arith, List, [], ◌∷◌, ◌++◌, Option, None, true, false, refl, sym, ap, ◌∙◌, subst}
use Rattle.std.specs.Prelude.{IsTrue}
use Rattle.rc_cell.specs.declared.rows.Row.{Row}
use Rattle.rc_cell.specs.declared.writes.Tomb.{Tomb}
use Rattle.rc_position.specs.declared.comps.Comp.{Comp}
use Rattle.rc_position.specs.declared.positions.Pos.{Pos}
use Rattle.rc_position.specs.Position.{IsPartKey}
use Rattle.rc_schema.specs.SchemaValue.{SchemaValue}
use Rattle.rc_rowcode.specs.Spelling.{optional_code, tomb_code, key_code, pos_code, row_code, IsKey, IsPos, IsCodedRow}
use Rattle.rc_items.specs.Items.{Item, HeadItem, PartItem, RowItem, ChangeItem, EndItem, StopItem, EntryItem, BlockItem, TailItem, item_code, IsItem, bytes_code}
use Rattle.rc_items.specs.Before.{ItemsBefore, Start, Between, Inside, Behind, item_place, tomb_in_force}
use Rattle.rc_items.specs.Blocks.{items_due}
use Rattle.rc_items.specs.TableText.{ItemFits}
use Rattle.rc_items.specs.laws.Starting.{PrefixFree, IsOptional, rest_of, both_free, key_free, full_key_free, pos_free, row_free, optional_free}

-- nothing is due before the stop
due_none : (before : ItemsBefore) → (item_place before ≡ Behind → ⊥) → items_due before ≡ []
due_none [] h = refl
due_none (HeadItem schema ∷ before) h = refl
due_none (PartItem key pt statics ∷ before) h = refl
due_none (RowItem key row ∷ before) h = refl
due_none (ChangeItem x tomb ∷ before) h = refl
due_none (EndItem ∷ before) h = refl
due_none (StopItem ∷ before) h = absurd (h refl)
due_none (EntryItem key off blocks ∷ before) h = absurd (h refl)
due_none (BlockItem b ∷ before) h = absurd (h refl)
due_none (TailItem off parts ∷ before) h = absurd (h refl)

pub not_due : (before : ItemsBefore) (x : Item) → (item_place before ≡ Behind → ⊥) → ((more : List Item) × (items_due before ≡ x ∷ more)) → ⊥
not_due before x h d = (let q : [] ≡ x ∷ d.0 = sym (due_none before h) ∙ d.1 in absurd cc)

pub between_no_start : Start ≡ Between → ⊥
between_no_start e = absurd cc

pub between_no_inside : Inside ≡ Between → ⊥
between_no_inside e = absurd cc

pub between_no_behind : Between ≡ Behind → ⊥
between_no_behind e = absurd cc

pub inside_no_start : Start ≡ Inside → ⊥
inside_no_start e = absurd cc

pub inside_no_behind : Inside ≡ Behind → ⊥
inside_no_behind e = absurd cc

-- the bytes begin with no item that fits behind these items
abbrev pub Nothing : SchemaValue → ItemsBefore → List ℕ → Type 0
Nothing schema before bytes = (x : Item) (more : List ℕ) → ItemFits schema before x → bytes ≡ item_code x ++ more → ⊥

-- with no part that fits
abbrev pub NoPart : SchemaValue → ItemsBefore → List ℕ → Type 0
NoPart schema before bytes = (key : List ℕ) (pt : Option Tomb) (statics : Row) (more : List ℕ) → ItemFits schema before (PartItem key pt statics) → bytes ≡ item_code (PartItem key pt statics) ++ more → ⊥

-- with no row that fits
abbrev pub NoRow : SchemaValue → ItemsBefore → List ℕ → Type 0
NoRow schema before bytes = (key : List Comp) (row : Row) (more : List ℕ) → ItemFits schema before (RowItem key row) → bytes ≡ item_code (RowItem key row) ++ more → ⊥

-- with no change that fits
abbrev pub NoChange : SchemaValue → ItemsBefore → List ℕ → Type 0
NoChange schema before bytes = (x : Pos) (tomb : Option Tomb) (more : List ℕ) → ItemFits schema before (ChangeItem x tomb) → bytes ≡ item_code (ChangeItem x tomb) ++ more → ⊥

pub nothing_between : (schema : SchemaValue) (before : ItemsBefore) (bytes : List ℕ) → item_place before ≡ Between → NoPart schema before bytes → ((rest : List ℕ) → bytes ≡ 5 ∷ rest → ⊥) → Nothing schema before bytes
nothing_between schema before bytes p h k (HeadItem other) more f e = between_no_start (sym (ap item_place f.1.0) ∙ p)
nothing_between schema before bytes p h k (PartItem key pt statics) more f e = h key pt statics more f e
nothing_between schema before bytes p h k (RowItem key row) more f e = between_no_inside (sym f.1.0 ∙ p)
nothing_between schema before bytes p h k (ChangeItem x tomb) more f e = between_no_inside (sym f.1.0 ∙ p)
nothing_between schema before bytes p h k EndItem more f e = between_no_inside (sym f.1.0 ∙ p)
nothing_between schema before bytes p h k StopItem more f e = k more e
nothing_between schema before bytes p h k (EntryItem key off blocks) more f e = not_due before (EntryItem key off blocks) (λ b. between_no_behind (sym p ∙ b)) f.1
nothing_between schema before bytes p h k (BlockItem b) more f e = not_due before (BlockItem b) (λ b. between_no_behind (sym p ∙ b)) f.1
nothing_between schema before bytes p h k (TailItem off parts) more f e = not_due before (TailItem off parts) (λ b. between_no_behind (sym p ∙ b)) f.1

pub nothing_inside : (schema : SchemaValue) (before : ItemsBefore) (bytes : List ℕ) → item_place before ≡ Inside → NoRow schema before bytes → NoChange schema before bytes → ((rest : List ℕ) → ItemFits schema before EndItem → bytes ≡ 4 ∷ rest → ⊥) → Nothing schema before bytes
nothing_inside schema before bytes p h k m (HeadItem other) more f e = inside_no_start (sym (ap item_place f.1.0) ∙ p)
nothing_inside schema before bytes p h k m (PartItem key pt statics) more f e = between_no_inside (sym p ∙ f.1.0)
nothing_inside schema before bytes p h k m (RowItem key row) more f e = h key row more f e
nothing_inside schema before bytes p h k m (ChangeItem x tomb) more f e = k x tomb more f e
nothing_inside schema before bytes p h k m EndItem more f e = m more f e
nothing_inside schema before bytes p h k m StopItem more f e = between_no_inside (sym p ∙ f.1)
nothing_inside schema before bytes p h k m (EntryItem key off blocks) more f e = not_due before (EntryItem key off blocks) (λ b. inside_no_behind (sym p ∙ b)) f.1
nothing_inside schema before bytes p h k m (BlockItem b) more f e = not_due before (BlockItem b) (λ b. inside_no_behind (sym p ∙ b)) f.1
nothing_inside schema before bytes p h k m (TailItem off parts) more f e = not_due before (TailItem off parts) (λ b. inside_no_behind (sym p ∙ b)) f.1

-- ---- what was read is the item, if there is one

part_free : PrefixFree (λ (p : List ℕ × (Option Tomb × Row)). bytes_code p.0 ++ (optional_code tomb_code p.1.0 ++ row_code p.1.1)) (λ p. IsPartKey p.0 × (IsOptional p.1.0 × IsCodedRow p.1.1))
part_free = both_free bytes_code IsPartKey (λ (h : Option Tomb × Row). optional_code tomb_code h.0 ++ row_code h.1) (λ h. IsOptional h.0 × IsCodedRow h.1) key_free (both_free (optional_code tomb_code) IsOptional row_code IsCodedRow optional_free row_free)

keyed_free : PrefixFree (λ (e : List Comp × Row). key_code e.0 ++ row_code e.1) (λ e. IsKey e.0 × IsCodedRow e.1)
keyed_free = both_free key_code IsKey row_code IsCodedRow full_key_free row_free

change_free : PrefixFree (λ (c : Pos × Option Tomb). pos_code c.0 ++ optional_code tomb_code c.1) (λ c. IsPos c.0 × IsOptional c.1)
change_free = both_free pos_code IsPos (optional_code tomb_code) IsOptional pos_free optional_free

-- what was read does not fit, so no part, row or change does
pub part_unfit : (schema : SchemaValue) (before : ItemsBefore) (bytes rest : List ℕ) (key : List ℕ) (pt : Option Tomb) (statics : Row) → IsItem (PartItem key pt statics) → bytes ≡ item_code (PartItem key pt statics) ++ rest
    → (ItemFits schema before (PartItem key pt statics) → ⊥) → NoPart schema before bytes
part_unfit schema before bytes rest key pt statics is p h = λ key' pt' statics' more f e.
    let same = (part_free (key', (pt', statics')) (key, (pt, statics)) more rest f.0 is (ap rest_of (sym e ∙ p))).0 in
    h (subst (λ (x : List ℕ × (Option Tomb × Row)). ItemFits schema before (PartItem x.0 x.1.0 x.1.1)) same f)

pub row_unfit : (schema : SchemaValue) (before : ItemsBefore) (bytes rest : List ℕ) (key : List Comp) (row : Row) → IsItem (RowItem key row) → bytes ≡ item_code (RowItem key row) ++ rest
    → (ItemFits schema before (RowItem key row) → ⊥) → NoRow schema before bytes
row_unfit schema before bytes rest key row is p h = λ key' row' more f e.
    let same = (keyed_free (key', row') (key, row) more rest f.0 is (ap rest_of (sym e ∙ p))).0 in
    h (subst (λ (x : List Comp × Row). ItemFits schema before (RowItem x.0 x.1)) same f)

pub change_unfit : (schema : SchemaValue) (before : ItemsBefore) (bytes rest : List ℕ) (y : Pos) (tomb : Option Tomb) → IsItem (ChangeItem y tomb) → bytes ≡ item_code (ChangeItem y tomb) ++ rest
    → (ItemFits schema before (ChangeItem y tomb) → ⊥) → NoChange schema before bytes
change_unfit schema before bytes rest y tomb is p h = λ y' tomb' more f e.
    let same = (change_free (y', tomb') (y, tomb) more rest f.0 is (ap rest_of (sym e ∙ p))).0 in
    h (subst (λ (x : Pos × Option Tomb). ItemFits schema before (ChangeItem x.0 x.1)) same f)

-- bytes that begin with one sort begin with no other
pub no_row_behind : (schema : SchemaValue) (before : ItemsBefore) (bytes : List ℕ) → ((rest : List ℕ) → bytes ≡ 2 ∷ rest → ⊥) → NoRow schema before bytes
no_row_behind schema before bytes h = λ key row more f e. h ((key_code key ++ row_code row) ++ more) e

pub no_change_behind : (schema : SchemaValue) (before : ItemsBefore) (bytes : List ℕ) → ((rest : List ℕ) → bytes ≡ 3 ∷ rest → ⊥) → NoChange schema before bytes
no_change_behind schema before bytes h = λ x tomb more f e. h ((pos_code x ++ optional_code tomb_code tomb) ++ more) e

pub refuted : (b : Bool) → b ≡ false → IsTrue b → ⊥
refuted true h p = absurd cc
refuted false h p = absurd cc

-- the byte that stands first; none counts as 0
abbrev first_byte : List ℕ → ℕ
first_byte [] = 0
first_byte (x ∷ xs) = x

-- bytes that begin with one byte begin with no other
pub other_byte : (a b : ℕ) (bytes : List ℕ) → (a ≡ b → ⊥) → (rest : List ℕ) × (bytes ≡ a ∷ rest) → (r : List ℕ) → bytes ≡ b ∷ r → ⊥
other_byte a b bytes differ h r e = differ (ap first_byte (sym h.1 ∙ e))

-- bytes that begin with a row, or with a change, that does not fit begin with nothing that does
pub only_row : (schema : SchemaValue) (before : ItemsBefore) (bytes : List ℕ) → item_place before ≡ Inside → (rest : List ℕ) × (bytes ≡ 2 ∷ rest) → NoRow schema before bytes → Nothing schema before bytes
only_row schema before bytes p h k =
    nothing_inside schema before bytes p k (no_change_behind schema before bytes (other_byte 2 3 bytes (λ e. absurd (omega (arith, e))) h)) (λ r f e. other_byte 2 4 bytes (λ e. absurd (omega (arith, e))) h r e)

pub only_change : (schema : SchemaValue) (before : ItemsBefore) (bytes : List ℕ) → item_place before ≡ Inside → (rest : List ℕ) × (bytes ≡ 3 ∷ rest) → NoChange schema before bytes → Nothing schema before bytes
only_change schema before bytes p h k =
    nothing_inside schema before bytes p (no_row_behind schema before bytes (other_byte 3 2 bytes (λ e. absurd (omega (arith, e))) h)) k (λ r f e. other_byte 3 4 bytes (λ e. absurd (omega (arith, e))) h r e)

pub only_end : (schema : SchemaValue) (before : ItemsBefore) (bytes : List ℕ) → item_place before ≡ Inside → (rest : List ℕ) × (bytes ≡ 4 ∷ rest) → (tomb_in_force before ≡ None → ⊥) → Nothing schema before bytes
only_end schema before bytes p h k =
    nothing_inside schema before bytes p (no_row_behind schema before bytes (other_byte 4 2 bytes (λ e. absurd (omega (arith, e))) h)) (no_change_behind schema before bytes (other_byte 4 3 bytes (λ e. absurd (omega (arith, e))) h)) (λ r f e. k f.1.1)

pub no_item_inside : (schema : SchemaValue) (before : ItemsBefore) (bytes : List ℕ) → item_place before ≡ Inside → ((rest : List ℕ) → bytes ≡ 2 ∷ rest → ⊥) → ((rest : List ℕ) → bytes ≡ 3 ∷ rest → ⊥) → ((rest : List ℕ) → bytes ≡ 4 ∷ rest → ⊥) → Nothing schema before bytes
no_item_inside schema before bytes p h k m =
    nothing_inside schema before bytes p (no_row_behind schema before bytes h) (no_change_behind schema before bytes k) (λ r f e. m r e)
