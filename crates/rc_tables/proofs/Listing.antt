-- What the items of partitions make of the directory: one entry for each partition, in order.
use Rattle.std.proofs.Common.{◌≡◌, ℕ, suc, ◌+◌, true, false, cond, List, [], ◌∷◌, ◌++◌, length, Option, refl, sym, ap, ◌∙◌, subst, arith, append-nil, append_assoc, length-append, map as list_map}
use Rattle.std.specs.Prelude.{⊤}
use Rattle.std.specs.List.{flat_map, AllByRecursion}
use Rattle.std.specs.Option.{unwrap_or}
use Rattle.std.specs.Ordering.{is_lt}
use Rattle.std.proofs.lemmas.Grind.{flat_map-append}
use Rattle.rc_cell.specs.declared.rows.Row.{Row}
use Rattle.rc_cell.specs.declared.writes.Tomb.{Tomb}
use Rattle.rc_position.specs.declared.comps.Comp.{Comp}
use Rattle.rc_position.specs.declared.positions.Pos.{Pos}
use Rattle.rc_position.specs.Position.{pos_cmp, row_pos}
use Rattle.rc_mutation.specs.declared.fragments.Frag.{Frag}
use Rattle.rc_mutation.specs.declared.fragments.Frag.TheVariants as frag
use Rattle.rc_mutation.specs.declared.mutations.Mutation.{Mutation}
use Rattle.rc_mutation.specs.declared.mutations.Partition.{Partition}
use Rattle.rc_mutation.specs.Source.{IsMutation}
use Rattle.rc_mutation.specs.Fragments.{changes_of, fragments, is_written, placed_change, placed_row, static_fragment, rows_and_changes}
use Rattle.rc_mutation.specs.laws.FragMerge.{merge, merge_into, merge-in_order, fragment_of, rows-placed, changes-placed}
use Rattle.rc_stream.specs.Stream.{is_clustered}
use Rattle.rc_tfile.specs.Items.{PartItem, RowItem, ChangeItem, EndItem, item_code}
use Rattle.rc_tfile.specs.Before.{ItemsBefore, offset, followed_by, last_part}
use Rattle.rc_tfile.specs.Blocks.{DirectoryEntry, entries, entry_items, blocks}
use Rattle.rc_tfile.specs.Info.{refs_from}
use Rattle.rc_tfile.specs.TableText.{frag_items, part_items}
use Rattle.rc_tfile.specs.laws.Follows.{followed_by-append}

-- ---- rows and changes

abbrev Keyed : Type 0
Keyed = List Comp × Row

abbrev Change : Type 0
Change = Pos × Option Tomb

-- each is a row or a change
abbrev pub Inner : List Frag → Type 0
Inner [] = ⊤
Inner (f ∷ fs) = (is_clustered f ≡ true) × Inner fs

inner-changes : (bs : List Change) → Inner (list_map fragment_of (list_map placed_change bs))
inner-changes [] = tt
inner-changes (b ∷ bs) = (refl, inner-changes bs)

inner-rows : (os : List Keyed) → Inner (list_map fragment_of (list_map placed_row os))
inner-rows [] = tt
inner-rows (a ∷ os) = (refl, inner-rows os)

inner-merge_into : (a : Keyed) (os : List Keyed) → ((bs : List Change) → Inner (list_map fragment_of (merge os bs))) → (bs : List Change) → Inner (list_map fragment_of (merge_into a os (merge os) bs))
inner-merge_into a os ih [] = inner-rows (a ∷ os)
inner-merge_into a os ih (b ∷ bs) =
    elim (is_lt (pos_cmp (row_pos a.0) b.0)) as (λ r. Inner (list_map fragment_of (cond r (placed_row a ∷ merge os (b ∷ bs)) (placed_change b ∷ merge_into a os (merge os) bs)))) [
      | true ↦ (refl, ih (b ∷ bs))
      | false ↦ (refl, inner-merge_into a os ih bs)
    ]

inner-merge : (os : List Keyed) (bs : List Change) → Inner (list_map fragment_of (merge os bs))
inner-merge [] bs = inner-changes bs
inner-merge (a ∷ os) bs = inner-merge_into a os (inner-merge os) bs

-- the rows and changes of a mutation are its rows and the changes of its ranges, merged
pub between-merge : (m : Mutation) → IsMutation m → list_map fragment_of (merge m.rows (changes_of m.ranges)) ≡ rows_and_changes m
between-merge m is = merge-in_order m.rows (changes_of m.ranges) (rows-placed m.rows is.rows.ascend) (changes-placed m.ranges is.ranges)

pub between-inner : (m : Mutation) → IsMutation m → Inner (rows_and_changes m)
between-inner m is = subst Inner (between-merge m is) (inner-merge m.rows (changes_of m.ranges))

-- ---- the items of a partition

no_items : (row : Row) → flat_map frag_items (static_fragment row) ≡ []
no_items row = elim (is_written row) as (λ b. flat_map frag_items (cond b (frag.Static row ∷ []) []) ≡ []) [ true ↦ refl | false ↦ refl ]

pub items_of : (m : Mutation) → flat_map frag_items (fragments m) ≡ flat_map frag_items (rows_and_changes m) ++ EndItem ∷ []
unfolding fragments
items_of m =
    let front = frag.Start m.pt ∷ static_fragment m.statics in
    flat_map-append frag_items (front ++ rows_and_changes m) (frag.End ∷ [])
    ∙ ap (λ t. t ++ EndItem ∷ []) (flat_map-append frag_items front (rows_and_changes m) ∙ ap (λ t. t ++ flat_map frag_items (rows_and_changes m)) (no_items m.statics))

-- before the end of a partition
abbrev pub inside : ItemsBefore → Partition → ItemsBefore
inside b p = followed_by (PartItem p.key p.change.pt p.change.statics ∷ b) (flat_map frag_items (rows_and_changes p.change))

pub ended_is : (b : ItemsBefore) (p : Partition) → followed_by b (part_items p) ≡ EndItem ∷ inside b p
ended_is b p =
    let begun = PartItem p.key p.change.pt p.change.statics ∷ b in
    ap (followed_by begun) (items_of p.change) ∙ followed_by-append begun (flat_map frag_items (rows_and_changes p.change)) (EndItem ∷ [])

entries-inner : (fs : List Frag) → Inner fs → (c : ItemsBefore) → entries (followed_by c (flat_map frag_items fs)) ≡ entries c
entries-inner [] h c = refl
entries-inner (frag.Start pt ∷ fs) h c = absurd (let e = h.0 in cc)
entries-inner (frag.Static row ∷ fs) h c = absurd (let e = h.0 in cc)
entries-inner (frag.Row key row ∷ fs) h c = entries-inner fs h.1 (RowItem key row ∷ c)
entries-inner (frag.Change x tomb ∷ fs) h c = entries-inner fs h.1 (ChangeItem x tomb ∷ c)
entries-inner (frag.End ∷ fs) h c = absurd (let e = h.0 in cc)

last_part-inner : (fs : List Frag) → Inner fs → (c : ItemsBefore) → last_part (followed_by c (flat_map frag_items fs)) ≡ last_part c
last_part-inner [] h c = refl
last_part-inner (frag.Start pt ∷ fs) h c = absurd (let e = h.0 in cc)
last_part-inner (frag.Static row ∷ fs) h c = absurd (let e = h.0 in cc)
last_part-inner (frag.Row key row ∷ fs) h c = last_part-inner fs h.1 (RowItem key row ∷ c)
last_part-inner (frag.Change x tomb ∷ fs) h c = last_part-inner fs h.1 (ChangeItem x tomb ∷ c)
last_part-inner (frag.End ∷ fs) h c = absurd (let e = h.0 in cc)

-- what the directory lists of a partition behind these items
abbrev pub entry_of : ItemsBefore → Partition → DirectoryEntry
entry_of b p = record { key = p.key; off = offset b; blocks = blocks (inside b p) }

-- how many bytes of the directory a partition and its blocks take
abbrev pub directory_entry_size : DirectoryEntry → ℕ
directory_entry_size e = length (flat_map item_code (entry_items e))

entry_is : (b : ItemsBefore) (p : Partition) → IsMutation p.change → (let part = unwrap_or (last_part (inside b p)) ([], 0) in let e : DirectoryEntry = record { key = part.0; off = part.1; blocks = blocks (inside b p) } in e) ≡ entry_of b p
entry_is b p is =
    let begun = PartItem p.key p.change.pt p.change.statics ∷ b in
    let part : unwrap_or (last_part (inside b p)) ([], 0) ≡ (p.key, offset b) = ap (λ o. unwrap_or o ([], 0)) (last_part-inner (rows_and_changes p.change) (between-inner p.change is) begun) in
    λ i. record { key = (part i).0; off = (part i).1; blocks = blocks (inside b p) }

one_entry : (b : ItemsBefore) (p : Partition) → IsMutation p.change → entries (followed_by b (part_items p)) ≡ entries b ++ entry_of b p ∷ []
one_entry b p is =
    let begun = PartItem p.key p.change.pt p.change.statics ∷ b in
    ap entries (ended_is b p) ∙ (λ i. entries-inner (rows_and_changes p.change) (between-inner p.change is) begun i ++ entry_is b p is i ∷ [])

-- ---- the entries of partitions

abbrev AreMutations : List Partition → Type 0
AreMutations ps = AllByRecursion (λ p. IsMutation p.change) ps

abbrev pub entries_behind : ItemsBefore → List Partition → List DirectoryEntry
entries_behind b [] = []
entries_behind b (p ∷ ps) = entry_of b p ∷ entries_behind (followed_by b (part_items p)) ps

pub entries_are : (ps : List Partition) → AllByRecursion (λ p. IsMutation p.change) ps → (b : ItemsBefore) → entries (followed_by b (flat_map part_items ps)) ≡ entries b ++ entries_behind b ps
entries_are [] h b = sym (append-nil (entries b))
entries_are (p ∷ ps) h b =
    let next = followed_by b (part_items p) in
    ap entries (followed_by-append b (part_items p) (flat_map part_items ps))
    ∙ entries_are ps h.1 next
    ∙ ap (λ t. t ++ entries_behind next ps) (one_entry b p h.0)
    ∙ append_assoc (entries b) (entry_of b p ∷ []) (entries_behind next ps)

pub entries_behind-append : (ps qs : List Partition) (b : ItemsBefore) → entries_behind b (ps ++ qs) ≡ entries_behind b ps ++ entries_behind (followed_by b (flat_map part_items ps)) qs
entries_behind-append [] qs b = refl
entries_behind-append (p ∷ ps) qs b =
    ap (λ t. entry_of b p ∷ t)
    (entries_behind-append ps qs (followed_by b (part_items p))
    ∙ ap (λ c. entries_behind (followed_by b (part_items p)) ps ++ entries_behind c qs) (sym (followed_by-append b (part_items p) (flat_map part_items ps))))

pub length-entries : (ps : List Partition) (b : ItemsBefore) → length (entries_behind b ps) ≡ length ps
length-entries [] b = refl
length-entries (p ∷ ps) b = ap suc (length-entries ps (followed_by b (part_items p)))

-- ---- references

-- the bytes of entries
abbrev pub listing : List DirectoryEntry → List ℕ
listing es = flat_map item_code (flat_map entry_items es)

pub listing-append : (es fs : List DirectoryEntry) → listing (es ++ fs) ≡ listing es ++ listing fs
listing-append es fs = ap (flat_map item_code) (flat_map-append entry_items es fs) ∙ flat_map-append item_code (flat_map entry_items es) (flat_map entry_items fs)

pub refs_from-append : (es fs : List DirectoryEntry) (off : ℕ) → refs_from off (es ++ fs) ≡ refs_from off es ++ refs_from (off + length (listing es)) fs
refs_from-append [] fs off = (let same : off ≡ off + 0 = omega arith in ap (λ n. refs_from n fs) same)
refs_from-append (e ∷ es) fs off =
    let size : (off + directory_entry_size e) + length (listing es) ≡ off + length (listing (e ∷ es)) = omega (arith, ap length (flat_map-append item_code (entry_items e) (flat_map entry_items es)), length-append (flat_map item_code (entry_items e)) (listing es)) in
    ap (λ t. record { key = e.key; dir_off = off; dir_len = directory_entry_size e } ∷ t)
    (refs_from-append es fs (off + directory_entry_size e) ∙ ap (λ n. refs_from (off + directory_entry_size e) es ++ refs_from n fs) size)

pub length-refs : (es : List DirectoryEntry) (off : ℕ) → length (refs_from off es) ≡ length es
length-refs [] off = refl
length-refs (e ∷ es) off = ap suc (length-refs es (off + directory_entry_size e))
