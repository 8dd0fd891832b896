-- Each item of a table is one, if each piece that was written of it is.
use Rattle.std.proofs.Common.{◌≡◌, ◌<◌, ◌≤◌, ◌^◌, ◌-◌, List, [], ◌∷◌, ◌++◌, length, get_or, take, drop, sym, subst, arith}
use Rattle.std.proofs.lemmas.List.{take_rest}
use Rattle.std.specs.List.{flat_map, AllByRecursion}
use Rattle.rc_schema.specs.SchemaValue.{SchemaValue}
use Rattle.rc_mutation.specs.declared.mutations.Partition.{Partition}
use Rattle.rc_items.specs.declared.outline.Outline.{Outline}
use Rattle.rc_items.specs.Items.{Item, HeadItem, StopItem, TailItem, IsItem}
use Rattle.rc_items.specs.Before.{ItemsBefore, offset, followed_by}
use Rattle.rc_items.specs.Blocks.{DirectoryEntry, entries, entry_items, ending}
use Rattle.rc_items.specs.Outlined.{IsListed}
use Rattle.rc_items.specs.TableText.{part_items, whole_table}
use Rattle.rc_tfile.specs.laws.Follows.{all_append}
use Rattle.rc_tfile.specs.laws.Drafts.{parts_of, body_is}

-- they are items
abbrev pub AreItems : List Item → Type 0
AreItems xs = AllByRecursion IsItem xs

-- what holds of each of some items and of each behind them holds of each
pub all_followed : (P : Item → Type 0) (before : ItemsBefore) (xs : List Item) → AllByRecursion P before → AllByRecursion P xs → AllByRecursion P (followed_by before xs)
all_followed P before [] h g = h
all_followed P before (x ∷ xs) h g = all_followed P (x ∷ before) xs (g.0, h) g.1

pub more_items : {X : Type 0} (f : X → List Item) (now : List Item) (done : List Item) (x : X) → now ≡ done ++ f x → AreItems done → AreItems (f x) → AreItems now
more_items f now done x e h g = subst AreItems (sym e) (all_append IsItem done (f x) h g)

pub ending_items : (before : ItemsBefore) (o : Outline) → IsListed before o → AreItems (flat_map entry_items o.listed.items) → IsItem (TailItem o.off (length o.listed.items)) → AreItems (ending before)
ending_items before o is dir tail =
    all_append IsItem (flat_map entry_items (entries before)) (TailItem (offset before) (length (entries before)) ∷ [])
    (subst (λ (es : List DirectoryEntry). AreItems (flat_map entry_items es)) is.listed dir)
    ((subst (λ n. n < 2 ^ 64) is.off tail.0, subst (λ (es : List DirectoryEntry). length es < 2 ^ 32) is.listed tail.1), tt)

pub table_items : (schema : SchemaValue) (parts : List Partition) → IsItem (HeadItem schema) → AreItems (flat_map part_items parts) → AreItems (ending (StopItem ∷ parts_of schema parts)) → AreItems (whole_table schema parts)
table_items schema parts head middle end =
    let front : AreItems (StopItem ∷ parts_of schema parts) = (tt, all_followed IsItem (HeadItem schema ∷ []) (flat_map part_items parts) (head, tt) middle) in
    subst (λ (b : ItemsBefore). AreItems (followed_by b (ending b))) (sym (body_is schema parts)) (all_followed IsItem (StopItem ∷ parts_of schema parts) (ending (StopItem ∷ parts_of schema parts)) front end)

-- a list is its first and those behind it
pub split : {X : Type 0} (xs : List X) (x : X) → 1 ≤ length xs → x ≡ get_or xs 0 x → xs ≡ x ∷ take (length xs - 1) (drop 1 xs)
split [] x n e = absurd (omega (arith, n))
split (y ∷ xs) x n e = let r : take (length (y ∷ xs) - 1) (drop 1 (y ∷ xs)) ≡ xs = take_rest (y ∷ xs) 1 in λ i. sym e i ∷ sym r i
