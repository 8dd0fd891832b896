-- What is being built, after one piece and another.
use Rattle.std.proofs.Common.{◌≡◌, List, ℕ, [], ◌∷◌, ◌++◌, ◌∙◌, length, Option, Some, None, refl, sym, ap, append-nil, append_assoc}
use Rattle.std.specs.Prelude.{IsSome}
use Rattle.rc_outside.specs.Files.{Draft, Files, grown_draft, new_draft, with_draft}
use Rattle.std.specs.List.{flat_map}
use Rattle.std.proofs.lemmas.Grind.{flat_map-append}
use Rattle.rc_items.specs.declared.outline.Outline.{Outline}
use Rattle.rc_items.specs.Items.{HeadItem, StopItem, TailItem, item_code}
use Rattle.rc_schema.specs.SchemaValue.{SchemaValue}
use Rattle.rc_mutation.specs.declared.mutations.Partition.{Partition}
use Rattle.rc_items.specs.Before.{ItemsBefore, text, offset, followed_by}
use Rattle.rc_items.specs.TableText.{part_items, items_to_stop, whole_table}
use Rattle.rc_tfile.specs.Info.{refs_from}
use Rattle.rc_tfile.specs.laws.Follows.{followed_by-append, text-followed_by}
use Rattle.rc_items.specs.Blocks.{entries, entry_items, ending}
use Rattle.rc_items.specs.Outlined.{IsListed}
use Rattle.rc_tfile.specs.Stored.{with_file}

back : (xs : List ℕ) → xs ≡ xs ++ []
back xs = sym (append-nil xs)

pub grown_nil : (b : Option (Option Draft)) → b ≡ grown_draft b []
grown_nil None = refl
grown_nil (Some None) = refl
grown_nil (Some (Some d)) = λ i. Some (Some (d.0, back d.1 i))

pub grown_more : (b : Option (Option Draft)) (xs ys : List ℕ) → grown_draft (grown_draft b xs) ys ≡ grown_draft b (xs ++ ys)
grown_more None xs ys = refl
grown_more (Some None) xs ys = refl
grown_more (Some (Some d)) xs ys = λ i. Some (Some (d.0, append_assoc d.1 xs ys i))

pub grown_some : (b : Option (Option Draft)) (xs : List ℕ) → IsSome b → IsSome (grown_draft b xs)
grown_some None xs h = h
grown_some (Some d) xs h = refl

pub finished : (files : Option Files) (n : ℕ) (bytes : List ℕ) → with_draft files (grown_draft (new_draft files n) bytes) ≡ with_file files n bytes
finished None n bytes = refl
finished (Some told) n bytes = refl

-- the stop, the directory and the tail were built one behind another
pub ending_built : (b0 b1 b2 b3 : Option (Option Draft)) (before : ItemsBefore) (o : Outline) → IsListed before o → b1 ≡ grown_draft b0 (5 ∷ []) → b2 ≡ grown_draft b1 (flat_map item_code (flat_map entry_items o.listed.items))
    → b3 ≡ grown_draft b2 (item_code (TailItem o.off (length o.listed.items))) → b3 ≡ grown_draft b0 (flat_map item_code (StopItem ∷ ending before))
ending_built b0 b1 b2 b3 before o is p q r =
    let dir = flat_map item_code (flat_map entry_items o.listed.items) in
    let tail = item_code (TailItem o.off (length o.listed.items)) in
    let whole : flat_map item_code (ending before) ≡ dir ++ tail =
    flat_map-append item_code (flat_map entry_items (entries before)) (TailItem (offset before) (length (entries before)) ∷ [])
    ∙ (λ i. flat_map item_code (flat_map entry_items (sym is.listed i)) ++ append-nil (item_code (TailItem (sym is.off i) (length (sym is.listed i)))) i) in
    r ∙ ap (λ b. grown_draft b tail) (q ∙ ap (λ b. grown_draft b dir) p) ∙ ap (λ b. grown_draft b tail) (grown_more b0 (5 ∷ []) dir) ∙ grown_more b0 (5 ∷ dir) tail ∙ ap (λ t. grown_draft b0 (5 ∷ t)) (sym whole)

-- the items up to the stop end with it
abbrev pub parts_of : SchemaValue → List Partition → ItemsBefore
parts_of schema parts = followed_by (HeadItem schema ∷ []) (flat_map part_items parts)

pub body_is : (schema : SchemaValue) (parts : List Partition) → items_to_stop schema parts ≡ StopItem ∷ parts_of schema parts
body_is schema parts = followed_by-append (HeadItem schema ∷ []) (flat_map part_items parts) (StopItem ∷ [])

table_text : (schema : SchemaValue) (parts : List Partition)
    → text (whole_table schema parts) ≡ (item_code (HeadItem schema) ++ flat_map item_code (flat_map part_items parts)) ++ flat_map item_code (StopItem ∷ ending (StopItem ∷ parts_of schema parts))
table_text schema parts =
    let before = parts_of schema parts in
    let behind = flat_map item_code (ending (StopItem ∷ before)) in
    ap (λ b. text (followed_by b (ending b))) (body_is schema parts)
    ∙ text-followed_by (StopItem ∷ before) (ending (StopItem ∷ before))
    ∙ append_assoc (text before) (5 ∷ []) behind
    ∙ ap (λ t. t ++ 5 ∷ behind) (text-followed_by (HeadItem schema ∷ []) (flat_map part_items parts))

-- the head, the partitions and what stands behind them were built one behind another
pub table_built : (b0 b1 b2 b3 : Option (Option Draft)) (schema : SchemaValue) (parts : List Partition) → b1 ≡ grown_draft b0 (item_code (HeadItem schema)) → b2 ≡ grown_draft b1 (flat_map item_code (flat_map part_items parts))
    → b3 ≡ grown_draft b2 (flat_map item_code (StopItem ∷ ending (StopItem ∷ parts_of schema parts))) → b3 ≡ grown_draft b0 (text (whole_table schema parts))
table_built b0 b1 b2 b3 schema parts p q r =
    let head = item_code (HeadItem schema) in
    let middle = flat_map item_code (flat_map part_items parts) in
    let end = flat_map item_code (StopItem ∷ ending (StopItem ∷ parts_of schema parts)) in
    r ∙ ap (λ b. grown_draft b end) (q ∙ ap (λ b. grown_draft b middle) p ∙ grown_more b0 head middle) ∙ grown_more b0 (head ++ middle) end ∙ ap (grown_draft b0) (sym (table_text schema parts))

-- the references that an outline gives are those of the table
pub refs_are : (schema : SchemaValue) (parts : List Partition) (o : Outline) → IsListed (StopItem ∷ parts_of schema parts) o → refs_from o.off o.listed.items ≡ refs_from (offset (items_to_stop schema parts)) (entries (items_to_stop schema parts))
refs_are schema parts o is = (λ i. refs_from (is.off i) (is.listed i)) ∙ ap (λ b. refs_from (offset b) (entries b)) (sym (body_is schema parts))
