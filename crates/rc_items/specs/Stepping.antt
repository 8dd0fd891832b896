-- What the item at the front of bytes is, of a table that is checked.
use Rattle.std.specs.Prelude.{◌≡◌, ℕ, List, ◌∷◌, ◌++◌, length}
use Rattle.rc_schema.specs.SchemaValue.{SchemaValue}
use Rattle.rc_items.specs.declared.outline.Outline.{Outline}
use Rattle.rc_items.specs.declared.stepping.Next.{Next}
use Rattle.rc_items.specs.declared.stepping.Next.TheVariants as next
use Rattle.rc_items.specs.Items.{Item, StopItem, item_code}
use Rattle.rc_items.specs.Before.{ItemsBefore}
use Rattle.rc_items.specs.TableText.{ItemFits}
use Rattle.rc_items.specs.Outlined.{IsOutline, IsListed}

-- what the next item was, of those that stand behind others
abbrev pub IsNextItem : SchemaValue → ItemsBefore → List ℕ → Outline → Next → Type 0
IsNextItem schema before bytes o (next.Fits size) = (x : Item) × (more : List ℕ) × ItemFits schema before x × (bytes ≡ item_code x ++ more) × (size ≡ length (item_code x)) × IsOutline (x ∷ before) o
IsNextItem schema before bytes o next.Stops = (more : List ℕ) × ItemFits schema before StopItem × (bytes ≡ item_code StopItem ++ more) × IsListed (StopItem ∷ before) o
IsNextItem schema before bytes o next.Unfit = (x : Item) (more : List ℕ) → ItemFits schema before x → bytes ≡ item_code x ++ more → ⊥
