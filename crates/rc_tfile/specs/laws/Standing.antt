-- The items of partitions that fit a schema are those of a table of it: each may stand behind the ones before it.
use Rattle.std.specs.Prelude.{◌≡◌, All, ⊤, true, false, cond, ◌++◌, List, [], ◌∷◌, drop, Option, Some, None, IfSome, map as list_map}
use Rattle.std.proofs.Common.{refl, sym, ap, ◌∙◌, subst, T, ℕ, append_assoc}
use Rattle.std.specs.declared.cmp.Ordering.{Ordering}
use Rattle.std.specs.declared.cmp.Ordering.TheVariants.{Less, Equal, Greater}
use Rattle.std.specs.Ordering.{is_lt}
use Rattle.std.specs.List.{flat_map, AllByRecursion}
use Rattle.std.specs.FinMap.{is_sorted}
use Rattle.std.specs.FinMap.Entries.{below_all}
use Rattle.rc_cell.specs.laws.ByColumn.{test_of, first, second}
use Rattle.rc_cell.specs.declared.rows.Row.{Row}
use Rattle.rc_cell.specs.declared.writes.Tomb.{Tomb}
use Rattle.rc_position.specs.declared.comps.Comp.{Comp}
use Rattle.rc_position.specs.declared.positions.Pos.{Pos}
use Rattle.rc_position.specs.Position.{bytes_cmp, pos_cmp, row_pos, IsBefore}
use Rattle.rc_ranges.specs.declared.pieces.Piece.{Piece}
use Rattle.rc_schema.specs.SchemaValue.{SchemaValue}
use Rattle.rc_mutation.specs.declared.fragments.Frag.{Frag}
use Rattle.rc_mutation.specs.declared.fragments.Frag.TheVariants as frag
use Rattle.rc_mutation.specs.declared.mutations.Mutation.{Mutation}
use Rattle.rc_mutation.specs.declared.mutations.Partition.{Partition}
use Rattle.rc_mutation.specs.Fragments.{fragments, is_written, begins_at, changes_of, placed_change, placed_row, rows_and_changes}
use Rattle.rc_mutation.specs.Source.{IsMutation}
use Rattle.rc_mutation.specs.laws.FragMerge.{merge, merge_into, fragment_of, merge-in_order, rows-placed, changes-placed}
use Rattle.rc_writes.specs.Allowed.{ChangeFits, IsRangeBound, IsRowOf}
use Rattle.rc_mutation.specs.Canonical.{IsBounded, IsCanonicalList}
use Rattle.rc_mutation.specs.laws.CanonicalListed.{listed}
use Rattle.rc_items.specs.Items.{Item, HeadItem, PartItem, RowItem, ChangeItem, EndItem, StopItem, EntryItem, BlockItem, TailItem, IsItem}
use Rattle.rc_items.specs.Before.{ItemsBefore, Between, Inside, text, offset, followed_by, item_place, last_part, last_pos, tomb_in_force}
use Rattle.rc_items.specs.Blocks.{DirectoryEntry, entries, entry_items, ending, items_due}
use Rattle.rc_items.specs.TableText.{MayStand, AllFit, frag_items, part_items, items_to_stop, whole_table, IsTable, PartsFit}
use Rattle.rc_tfile.specs.laws.Drafts.{parts_of, body_is}
use Rattle.rc_tfile.specs.laws.Follows.{all_append, by_recursion}

-- what holds of the fragment of each row, and of each change at a bound of a range, holds of all rows and changes of a mutation
module _ (P : Frag → Type 0) where
  abbrev AtRow : List Comp × Row → Type 0
  AtRow e = P (frag.Row e.0 e.1)

  abbrev AtBound : Pos → Type 0
  AtBound x = (tomb : Option Tomb) → P (frag.Change x tomb)

  abbrev AtBounds : Piece → Type 0
  AtBounds q = AtBound q.from × AtBound q.to

  abbrev AtChange : Pos × Option Tomb → Type 0
  AtChange c = P (frag.Change c.0 c.1)

  changes_so : (ps : List Piece) → AllByRecursion AtBounds ps → AllByRecursion AtChange (changes_of ps)
  changes_so [] h = tt
  changes_so (p ∷ ps) h = (
    h.0.0 (Some p.tomb),
    elim (begins_at p.to ps) as (λ b. AllByRecursion AtChange (cond b [] ((p.to, None) ∷ []) ++ changes_of ps)) [
      | true ↦ changes_so ps h.1
      | false ↦ (h.0.1 None, changes_so ps h.1)
    ],
  )

  only_changes : (bs : List (Pos × Option Tomb)) → AllByRecursion AtChange bs → AllByRecursion P (list_map fragment_of (list_map placed_change bs))
  only_changes [] h = tt
  only_changes (b ∷ bs) h = (h.0, only_changes bs h.1)

  only_rows : (os : List (List Comp × Row)) → AllByRecursion AtRow os → AllByRecursion P (list_map fragment_of (list_map placed_row os))
  only_rows [] h = tt
  only_rows (o ∷ os) h = (h.0, only_rows os h.1)

  merged_into : (a : List Comp × Row) (os : List (List Comp × Row)) → AtRow a → AllByRecursion AtRow os
      → ((bs : List (Pos × Option Tomb)) → AllByRecursion AtChange bs → AllByRecursion P (list_map fragment_of (merge os bs)))
      → (bs : List (Pos × Option Tomb)) → AllByRecursion AtChange bs → AllByRecursion P (list_map fragment_of (merge_into a os (merge os) bs))
  merged_into a os p g ih [] h = (p, only_rows os g)
  merged_into a os p g ih (b ∷ bs) h =
      elim (is_lt (pos_cmp (row_pos a.0) b.0)) as (λ r. AllByRecursion P (list_map fragment_of (cond r (placed_row a ∷ merge os (b ∷ bs)) (placed_change b ∷ merge_into a os (merge os) bs)))) [
        | true ↦ (p, ih (b ∷ bs) h)
        | false ↦ (h.0, merged_into a os p g ih bs h.1)
      ]

  merged_so : (os : List (List Comp × Row)) (bs : List (Pos × Option Tomb)) → AllByRecursion AtRow os → AllByRecursion AtChange bs → AllByRecursion P (list_map fragment_of (merge os bs))
  merged_so [] bs g h = only_changes bs h
  merged_so (a ∷ os) bs g h = merged_into a os g.0 g.1 (λ cs k. merged_so os cs g.1 k) bs h

  -- all rows and changes of a mutation
  pub clustered_so : (m : Mutation) → IsMutation m → All AtRow m.rows → All AtBounds m.ranges → AllByRecursion P (rows_and_changes m)
  clustered_so m is rows bounds =
      subst (λ (fs : List Frag). AllByRecursion P fs) (merge-in_order m.rows (changes_of m.ranges) (rows-placed m.rows is.rows.ascend) (changes-placed m.ranges is.ranges))
      (merged_so m.rows (changes_of m.ranges) (by_recursion AtRow m.rows rows) (changes_so m.ranges (by_recursion AtBounds m.ranges bounds)))

less : (r : Ordering) → T (is_lt r) → r ≡ Less
less Less h = refl
less Equal h = absurd h
less Greater h = absurd h

-- fragments, and the end behind them
abbrev ended : List Frag → List Frag
ended fs = fs ++ frag.End ∷ []

-- the items of a mutation's fragments are those of its rows and changes, and the end
shown : (m : Mutation) → flat_map frag_items (fragments m) ≡ flat_map frag_items (ended (rows_and_changes m))
unfolding fragments
shown m =
    elim (is_written m.statics) as (λ b. flat_map frag_items (ended (cond b (frag.Static m.statics ∷ []) [] ++ rows_and_changes m)) ≡ flat_map frag_items (ended (rows_and_changes m))) [
      | true ↦ refl
      | false ↦ refl
    ]

-- behind the end a part or the stop may come, and the last part is the same
place_ended : (fs : List Frag) (before : ItemsBefore) → item_place (followed_by before (flat_map frag_items (ended fs))) ≡ Between
place_ended [] before = refl
place_ended (frag.Start tomb ∷ fs) before = place_ended fs before
place_ended (frag.Static row ∷ fs) before = place_ended fs before
place_ended (frag.Row key row ∷ fs) before = place_ended fs (RowItem key row ∷ before)
place_ended (frag.Change x tomb ∷ fs) before = place_ended fs (ChangeItem x tomb ∷ before)
place_ended (frag.End ∷ fs) before = place_ended fs (EndItem ∷ before)

part_ended : (fs : List Frag) (before : ItemsBefore) → last_part (followed_by before (flat_map frag_items (ended fs))) ≡ last_part before
part_ended [] before = refl
part_ended (frag.Start tomb ∷ fs) before = part_ended fs before
part_ended (frag.Static row ∷ fs) before = part_ended fs before
part_ended (frag.Row key row ∷ fs) before = part_ended fs (RowItem key row ∷ before)
part_ended (frag.Change x tomb ∷ fs) before = part_ended fs (ChangeItem x tomb ∷ before)
part_ended (frag.End ∷ fs) before = part_ended fs (EndItem ∷ before)

-- behind the items of a partition
abbrev behind : ItemsBefore → Partition → ItemsBefore
behind before p = followed_by before (part_items p)

place_behind : (before : ItemsBefore) (p : Partition) → item_place (behind before p) ≡ Between
place_behind before p =
    let start = PartItem p.key p.change.pt p.change.statics ∷ before in
    ap (λ xs. item_place (followed_by start xs)) (shown p.change) ∙ place_ended (rows_and_changes p.change) start

part_behind : (before : ItemsBefore) (p : Partition) → last_part (behind before p) ≡ Some (p.key, offset before)
part_behind before p =
    let start = PartItem p.key p.change.pt p.change.statics ∷ before in
    ap (λ xs. last_part (followed_by start xs)) (shown p.change) ∙ part_ended (rows_and_changes p.change) start

-- the key of the first of some partitions comes next
abbrev NextKey : ItemsBefore → List Partition → Type 0
NextKey before [] = ⊤
NextKey before (p ∷ ps) = IfSome (last_part before) (λ last. bytes_cmp last.0 p.key ≡ Less)

next_key : (before : ItemsBefore) (p : Partition) (ps : List Partition) → T (below_all bytes_cmp p.key (list_map (λ (q : Partition). (q.key, q.change)) ps)) → NextKey (behind before p) ps
next_key before p [] h = tt
next_key before p (q ∷ ps) h =
    subst (λ (o : Option (List ℕ × ℕ)). IfSome o (λ last. bytes_cmp last.0 q.key ≡ Less)) (sym (part_behind before p))
    (less (bytes_cmp p.key q.key) (first (is_lt (bytes_cmp p.key q.key)) (below_all bytes_cmp p.key (list_map (λ (q : Partition). (q.key, q.change)) ps)) h))

-- ---- the directory

-- an item behind the stop
abbrev IsBehindStop : Item → Type 0
IsBehindStop (HeadItem schema) = ⊥
IsBehindStop (PartItem key pt statics) = ⊥
IsBehindStop (RowItem key row) = ⊥
IsBehindStop (ChangeItem x tomb) = ⊥
IsBehindStop EndItem = ⊥
IsBehindStop StopItem = ⊥
IsBehindStop (EntryItem key off count) = ⊤
IsBehindStop (BlockItem b) = ⊤
IsBehindStop (TailItem off parts) = ⊤

all_of_map : {B : Type 0} (f : B → Item) → ((b : B) → IsBehindStop (f b)) → (bs : List B) → AllByRecursion IsBehindStop (list_map f bs)
all_of_map f h [] = tt
all_of_map f h (b ∷ bs) = (h b, all_of_map f h bs)

entries_behind : (es : List DirectoryEntry) → AllByRecursion IsBehindStop (flat_map entry_items es)
entries_behind [] = tt
entries_behind (e ∷ es) = all_append IsBehindStop (entry_items e) (flat_map entry_items es) (tt, all_of_map BlockItem (λ b. tt) e.blocks) (entries_behind es)

ending_behind : (before : ItemsBefore) → AllByRecursion IsBehindStop (ending before)
ending_behind before = all_append IsBehindStop (flat_map entry_items (entries before)) _ (entries_behind (entries before)) (tt, tt)

module _ (schema : SchemaValue) where
  -- each item may stand where it does
  abbrev AllStand : ItemsBefore → Type 0
  AllStand [] = ⊤
  AllStand (x ∷ before) = AllStand before × MayStand schema before x

  -- each of some items may stand behind others, in their order
  abbrev Stand : ItemsBefore → List Item → Type 0
  Stand before [] = ⊤
  Stand before (x ∷ xs) = MayStand schema before x × Stand (x ∷ before) xs

  stand_all : (before : ItemsBefore) (xs : List Item) → AllStand before → Stand before xs → AllStand (followed_by before xs)
  stand_all before [] h g = h
  stand_all before (x ∷ xs) h g = stand_all (x ∷ before) xs (h, g.0) g.1

  stand_append : (before : ItemsBefore) (xs ys : List Item) → Stand before xs → Stand (followed_by before xs) ys → Stand before (xs ++ ys)
  stand_append before [] ys h g = g
  stand_append before (x ∷ xs) ys h g = (h.0, stand_append (x ∷ before) xs ys h.1 g)

  fit_of : (before : ItemsBefore) → AllByRecursion IsItem before → AllStand before → AllFit schema before
  fit_of [] h g = tt
  fit_of (x ∷ before) h g = (fit_of before h.1 g.0, (h.0, g.1))

  -- ---- the fragments of a partition

  -- a fragment whose row or bound is of the schema
  abbrev IsFragOf : Frag → Type 0
  IsFragOf (frag.Start tomb) = ⊤
  IsFragOf (frag.Static row) = ⊤
  IsFragOf (frag.Row key row) = IsRowOf schema key row
  IsFragOf (frag.Change x tomb) = IsRangeBound schema x
  IsFragOf frag.End = ⊤

  clustered_fit : (m : Mutation) → IsMutation m → ChangeFits schema m → AllByRecursion IsFragOf (rows_and_changes m)
  clustered_fit m is fits = clustered_so IsFragOf m is fits.rows (λ k d lt. (let q = fits.ranges k d lt in (λ tomb. q.0, λ tomb. q.1)))

  -- a canonical list of rows and changes, and the end, may stand behind a place with that tombstone in force and that last position
  frags_stand : (fs : List Frag) (tomb : Option Tomb) (last : Option Pos) (before : ItemsBefore) → item_place before ≡ Inside → tomb_in_force before ≡ tomb → last_pos before ≡ last → IsCanonicalList tomb last fs → AllByRecursion IsFragOf fs
      → Stand before (flat_map frag_items (ended fs))
  frags_stand [] tomb last before p f l c h = ((p, f ∙ c), tt)
  frags_stand (frag.Start pt ∷ fs) tomb last before p f l c h = absurd c
  frags_stand (frag.Static row ∷ fs) tomb last before p f l c h = absurd c
  frags_stand (frag.Row key row ∷ fs) tomb last before p f l c h = (
    (p, subst (λ (o : Option Pos). IfSome o (λ q. IsBefore q (row_pos key))) (sym l) c.0, h.0, c.1),
    frags_stand fs tomb (Some (row_pos key)) (RowItem key row ∷ before) refl f refl c.3 h.1,
  )
  frags_stand (frag.Change x next ∷ fs) tomb last before p f l c h = (
    (p, subst (λ (o : Option Pos). IfSome o (λ q. IsBefore q x)) (sym l) c.0, h.0, λ e. c.2 (e ∙ f)),
    frags_stand fs next (Some x) (ChangeItem x next ∷ before) refl refl refl c.3 h.1,
  )
  frags_stand (frag.End ∷ fs) tomb last before p f l c h = absurd c

  -- ---- the partitions

  part_stands : (p : Partition) (before : ItemsBefore) → item_place before ≡ Between → IfSome (last_part before) (λ last. bytes_cmp last.0 p.key ≡ Less) → IsMutation p.change → ChangeFits schema p.change → Stand before (part_items p)
  part_stands p before b k is fits =
      let start = PartItem p.key p.change.pt p.change.statics ∷ before in
      let bounded : IsBounded p.change.ranges = λ j d lt. (let q = fits.ranges j d lt in (q.0.0, q.1.0)) in (
        (b, k, fits.statics),
        subst (λ (xs : List Item). Stand start xs) (sym (shown p.change))
            (frags_stand (rows_and_changes p.change) None None start refl refl refl (listed p.change is bounded) (clustered_fit p.change is fits)),
      )

  parts_stand : (parts : List Partition) (before : ItemsBefore) → item_place before ≡ Between → NextKey before parts → T (is_sorted bytes_cmp (list_map (λ (p : Partition). (p.key, p.change)) parts))
      → AllByRecursion (λ p. IsMutation p.change) parts → AllByRecursion (λ p. ChangeFits schema p.change) parts → Stand before (flat_map part_items parts ++ StopItem ∷ [])
  parts_stand [] before b k s is fits = (b, tt)
  parts_stand (p ∷ ps) before b k s is fits =
      let later = list_map (λ (q : Partition). (q.key, q.change)) ps in
      subst (λ (xs : List Item). Stand before xs) (sym (append_assoc (part_items p) (flat_map part_items ps) (StopItem ∷ [])))
      (stand_append before (part_items p) (flat_map part_items ps ++ StopItem ∷ []) (part_stands p before b k is.0 fits.0)
      (parts_stand ps (behind before p) (place_behind before p)
      (next_key before p ps (first (below_all bytes_cmp p.key later) (is_sorted bytes_cmp later) s))
      (second (below_all bytes_cmp p.key later) (is_sorted bytes_cmp later) s)
      is.1 fits.1))

  -- what is due may stand, one item behind another
  due_stand : (xs : List Item) (before : ItemsBefore) → items_due before ≡ xs → AllByRecursion IsBehindStop xs → Stand before xs
  due_stand [] before e h = tt
  due_stand (EntryItem key off count ∷ xs) before e h = ((xs, e), due_stand xs (EntryItem key off count ∷ before) (ap (drop 1) e) h.1)
  due_stand (BlockItem b ∷ xs) before e h = ((xs, e), due_stand xs (BlockItem b ∷ before) (ap (drop 1) e) h.1)
  due_stand (TailItem off parts ∷ xs) before e h = ((xs, e), due_stand xs (TailItem off parts ∷ before) (ap (drop 1) e) h.1)
  due_stand (HeadItem other ∷ xs) before e h = absurd h.0
  due_stand (PartItem key pt statics ∷ xs) before e h = absurd h.0
  due_stand (RowItem key row ∷ xs) before e h = absurd h.0
  due_stand (ChangeItem x tomb ∷ xs) before e h = absurd h.0
  due_stand (EndItem ∷ xs) before e h = absurd h.0
  due_stand (StopItem ∷ xs) before e h = absurd h.0

  first_key : (parts : List Partition) → NextKey (HeadItem schema ∷ []) parts
  first_key [] = tt
  first_key (p ∷ ps) = tt

  -- all items of partitions that fit may stand where they do
  table_stands : (parts : List Partition) → PartsFit schema parts → All (λ p. IsMutation p.change) parts → AllStand (whole_table schema parts)
  table_stands parts fits is =
      let front : AllStand (items_to_stop schema parts) =
      stand_all (HeadItem schema ∷ []) (flat_map part_items parts ++ StopItem ∷ []) (tt, (refl, refl))
      (parts_stand parts (HeadItem schema ∷ []) refl (first_key parts) (test_of _ fits.ascend) (by_recursion (λ p. IsMutation p.change) parts is) (by_recursion (λ p. ChangeFits schema p.change) parts fits.each)) in
      let stop = StopItem ∷ parts_of schema parts in
      let last : Stand (items_to_stop schema parts) (ending (items_to_stop schema parts)) = subst (λ (b : ItemsBefore). Stand b (ending b)) (sym (body_is schema parts)) (due_stand (ending stop) stop refl (ending_behind stop)) in
      stand_all (items_to_stop schema parts) (ending (items_to_stop schema parts)) front last

-- partitions that a table of the schema can hold, each item of which is within its limits, are those of a table
pub parts_make_a_table : (schema : SchemaValue) (parts : List Partition) → PartsFit schema parts → All (λ p. IsMutation p.change) parts → AllByRecursion IsItem (whole_table schema parts) → AllFit schema (whole_table schema parts)
parts_make_a_table schema parts fits is items = fit_of schema (whole_table schema parts) items (table_stands schema parts fits is)

pub text_is_a_table : (schema : SchemaValue) (parts : List Partition) → PartsFit schema parts → All (λ p. IsMutation p.change) parts → AllByRecursion IsItem (whole_table schema parts) → IsTable (text (whole_table schema parts)) schema parts
text_is_a_table schema parts fits is items = record { spelled = refl; fit = parts_make_a_table schema parts fits is items }
