-- The keys of a table's partitions ascend: each part has the next key where it stands.
use Rattle.std.proofs.Common.{◌≡◌, ℕ, Bool, true, false, List, [], ◌∷◌, ◌++◌, Option, Some, T, refl, ap, ◌∙◌, subst, append_assoc, map as list_map}
use Rattle.std.specs.Prelude.{IfSome, IsTrue}
use Rattle.std.specs.List.{flat_map}
use Rattle.std.specs.declared.cmp.Ordering.{Ordering}
use Rattle.std.specs.declared.cmp.Ordering.TheVariants.{Less, Equal, Greater}
use Rattle.std.specs.Ordering.{is_lt}
use Rattle.std.specs.FinMap.{is_sorted}
use Rattle.std.specs.FinMap.Entries.{below_all}
use Rattle.rc_cell.specs.laws.ByColumn.{both, first, second}
use Rattle.rc_position.specs.Position.{bytes_cmp}
use Rattle.rc_position.specs.laws.Orders.{bytes_cmp_total}
use Rattle.rc_schema.specs.SchemaValue.{SchemaValue}
use Rattle.rc_mutation.specs.declared.fragments.Frag.{Frag}
use Rattle.rc_mutation.specs.declared.fragments.Frag.TheVariants as frag
use Rattle.rc_mutation.specs.declared.mutations.Mutation.{Mutation}
use Rattle.rc_mutation.specs.declared.mutations.Partition.{Partition}
use Rattle.rc_mutation.specs.Fragments.{fragments}
use Rattle.rc_tfile.specs.Items.{Item, HeadItem, PartItem, RowItem, ChangeItem, EndItem, StopItem}
use Rattle.rc_tfile.specs.Before.{ItemsBefore, offset, followed_by, last_part}
use Rattle.rc_tfile.specs.Blocks.{ending}
use Rattle.rc_tfile.specs.TableText.{AllFit, items_to_stop, whole_table, part_items, frag_items}
use Rattle.rc_tfile.specs.laws.Follows.{followed_by-append}

-- ---- the order of keys

less : (r : Ordering) → T (is_lt r) → r ≡ Less
less Less h = refl
less Equal h = absurd h
less Greater h = absurd h

is_less : (r : Ordering) → r ≡ Less → T (is_lt r)
is_less Less e = tt
is_less Equal e = absurd (cc)
is_less Greater e = absurd (cc)

is_true : (b : Bool) → T b → IsTrue b
is_true true h = refl
is_true false h = absurd h

-- a partition's key, and what is said of it
abbrev Keyed : Type 0
Keyed = List ℕ × Mutation

below_less : (x y : List ℕ) (es : List Keyed) → bytes_cmp x y ≡ Less → T (below_all bytes_cmp y es) → T (below_all bytes_cmp x es)
below_less x y [] p h = tt
below_less x y (e ∷ es) p h =
    both (is_lt (bytes_cmp x e.0)) (below_all bytes_cmp x es)
    (is_less _ (bytes_cmp_total.trans x y e.0 p (less (bytes_cmp y e.0) (first (is_lt (bytes_cmp y e.0)) (below_all bytes_cmp y es) h))))
    (below_less x y es p (second (is_lt (bytes_cmp y e.0)) (below_all bytes_cmp y es) h))

-- a key below the first of an ascending list is below all of it
below_first : (x : List ℕ) (e : Keyed) (es : List Keyed) → bytes_cmp x e.0 ≡ Less → T (is_sorted bytes_cmp (e ∷ es)) → T (below_all bytes_cmp x (e ∷ es))
below_first x e es p h = both (is_lt (bytes_cmp x e.0)) (below_all bytes_cmp x es) (is_less _ p) (below_less x e.0 es p (first (below_all bytes_cmp e.0 es) (is_sorted bytes_cmp es) h))

-- ---- the items

-- what stands before items that fit fits
pub front_fits : (schema : SchemaValue) (xs : List Item) (b : ItemsBefore) → AllFit schema (followed_by b xs) → AllFit schema b
front_fits schema [] b h = h
front_fits schema (x ∷ xs) b h = (front_fits schema xs (x ∷ b) h).0

-- fragments are no part
part_behind_frags : (fs : List Frag) (b : ItemsBefore) → last_part (followed_by b (flat_map frag_items fs)) ≡ last_part b
part_behind_frags [] b = refl
part_behind_frags (frag.Start pt ∷ fs) b = part_behind_frags fs b
part_behind_frags (frag.Static row ∷ fs) b = part_behind_frags fs b
part_behind_frags (frag.Row key row ∷ fs) b = part_behind_frags fs (RowItem key row ∷ b)
part_behind_frags (frag.Change x tomb ∷ fs) b = part_behind_frags fs (ChangeItem x tomb ∷ b)
part_behind_frags (frag.End ∷ fs) b = part_behind_frags fs (EndItem ∷ b)

-- behind a partition its part is the last
part_behind : (p : Partition) (b : ItemsBefore) → last_part (followed_by b (part_items p)) ≡ Some (p.key, offset b)
part_behind p b = part_behind_frags (fragments p.change) (PartItem p.key p.change.pt p.change.statics ∷ b)

module _ (schema : SchemaValue) where
  is_next : (p : Partition) (xs : List Item) (b : ItemsBefore) → AllFit schema (followed_by b (part_items p ++ xs)) → IfSome (last_part b) (λ last. bytes_cmp last.0 p.key ≡ Less)
  is_next p xs b h = (front_fits schema (flat_map frag_items (fragments p.change) ++ xs) (PartItem p.key p.change.pt p.change.statics ∷ b) h).1.1.1

  abbrev keyed : List Partition → List Keyed
  keyed parts = list_map (λ (p : Partition). (p.key, p.change)) parts

  ascending : (parts : List Partition) (more : List Item) (b : ItemsBefore) → AllFit schema (followed_by b (flat_map part_items parts ++ more)) → T (is_sorted bytes_cmp (keyed parts))
  ascending [] more b h = tt
  ascending (p ∷ []) more b h = tt
  ascending (p ∷ q ∷ ps) more b h =
      let items : (flat_map part_items (p ∷ q ∷ ps)) ++ more ≡ part_items p ++ (flat_map part_items (q ∷ ps) ++ more) = append_assoc (part_items p) (flat_map part_items (q ∷ ps)) more in
      let behind : ItemsBefore = followed_by b (part_items p) in
      let on : AllFit schema (followed_by behind (flat_map part_items (q ∷ ps) ++ more)) =
      subst (AllFit schema) (ap (followed_by b) items ∙ followed_by-append b (part_items p) (flat_map part_items (q ∷ ps) ++ more)) h in
      let up : T (is_sorted bytes_cmp (keyed (q ∷ ps))) = ascending (q ∷ ps) more behind on in
      let next : IfSome (last_part behind) (λ last. bytes_cmp last.0 q.key ≡ Less) =
      is_next q (flat_map part_items ps ++ more) behind (subst (λ (xs : List Item). AllFit schema (followed_by behind xs)) (append_assoc (part_items q) (flat_map part_items ps) more) on) in
      let above : bytes_cmp p.key q.key ≡ Less = subst (λ (o : Option (List ℕ × ℕ)). IfSome o (λ last. bytes_cmp last.0 q.key ≡ Less)) (part_behind p b) next in
      both (below_all bytes_cmp p.key (keyed (q ∷ ps))) (is_sorted bytes_cmp (keyed (q ∷ ps))) (below_first p.key (q.key, q.change) (keyed ps) above up) up

  -- the keys of a table's partitions strictly ascend
  pub keys_of_a_table_ascend : (parts : List Partition) → AllFit schema (whole_table schema parts) → IsTrue (is_sorted bytes_cmp (keyed parts))
  keys_of_a_table_ascend parts h =
      is_true _ (ascending parts (StopItem ∷ []) (HeadItem schema ∷ []) (front_fits schema (ending (items_to_stop schema parts)) (items_to_stop schema parts) h))
