-- Where a partition lies in a table: what the directory says of it, and its items.
use Rattle.std.proofs.Common.{◌≡◌, ℕ, zero, suc, ◌+◌, ◌≤◌, ◌<◌, ◌^◌, List, [], ◌∷◌, ◌++◌, length, take, drop, Option, Some, None, refl, sym, ap, ◌∙◌, subst, arith, append-nil, append_assoc, length-append, map as list_map}
use Rattle.std.specs.Prelude.{min}
use Rattle.std.specs.List.{flat_map, AllByRecursion}
use Rattle.std.proofs.lemmas.Grind.{flat_map-append}
use Rattle.std.proofs.lemmas.List.{drop_at, drop-take}
use Rattle.rc_rowcode.specs.Spelling.{time_code}
use Rattle.rc_outside.specs.Files.{Files, AreBytesOf}
use Rattle.rc_schema.specs.SchemaValue.{SchemaValue}
use Rattle.rc_mutation.specs.declared.fragments.Frag.{Frag}
use Rattle.rc_mutation.specs.declared.fragments.Frag.TheVariants as frag
use Rattle.rc_mutation.specs.declared.mutations.Partition.{Partition}
use Rattle.rc_mutation.specs.Source.{IsMutation}
use Rattle.rc_tfile.specs.declared.info.PartRef.{PartRef}
use Rattle.rc_tfile.specs.Items.{Item, HeadItem, PartItem, RowItem, ChangeItem, EndItem, StopItem, EntryItem, BlockItem, TailItem, item_code, offset_code, IsItem}
use Rattle.rc_tfile.specs.Before.{ItemsBefore, text, offset, followed_by, tomb_in_force, last_pos}
use Rattle.rc_tfile.specs.Blocks.{DirectoryEntry, entries, entry_items, ending}
use Rattle.rc_tfile.specs.Checking.{IsContent}
use Rattle.rc_tfile.specs.Info.{refs_from, info_of}
use Rattle.rc_writes.specs.Allowed.{IsStaticOf}
use Rattle.rc_tfile.specs.TableText.{AllFit, items_to_stop, frag_items, whole_table, part_items}
use Rattle.rc_tfile.specs.laws.Follows.{followed_by-append, text-followed_by, by_recursion}
use Rattle.rc_tfile.specs.laws.Drafts.{parts_of, body_is}
use Rattle.rc_tables.specs.Located.{IsEntryAt, EndsAt, MayLie, glimpse_length}
use Rattle.rc_tables.specs.calls.Located.{IsLocated, IsSpan}
use Rattle.rc_tables.specs.calls.Rebuilt.{AllCome}
use Rattle.rc_mutation.specs.Fragments.{rows_and_changes}
use Rattle.rc_tables.specs.laws.Ascending.{front_fits}
use Rattle.rc_tables.proofs.Listing.{directory_entry_size, Inner, between-inner, items_of, entry_of, entries_behind, entries_are, entries_behind-append, length-entries, listing, listing-append, refs_from-append, length-refs}

-- ---- what fits

both_parts : {X : Type 0} (P : X → Type 0) (xs ys : List X) → AllByRecursion P (xs ++ ys) → AllByRecursion P xs × AllByRecursion P ys
both_parts P [] ys h = (tt, h)
both_parts P (x ∷ xs) ys h = (let r = both_parts P xs ys h.1 in ((h.0, r.0), r.1))

-- rows and changes that fit where they stand, up to the end of a partition, come one behind another
come_of_fit : (schema : SchemaValue) (fs : List Frag) (b : ItemsBefore) → Inner fs → AllFit schema (followed_by b (flat_map frag_items fs ++ EndItem ∷ [])) → AllCome schema (tomb_in_force b) (last_pos b) fs
come_of_fit schema [] b inner h = h.1.1.1
come_of_fit schema (frag.Start pt ∷ fs) b inner h = absurd (let e = inner.0 in cc)
come_of_fit schema (frag.Static row ∷ fs) b inner h = absurd (let e = inner.0 in cc)
come_of_fit schema (frag.Row key row ∷ fs) b inner h =
    let one = (front_fits schema (flat_map frag_items fs ++ EndItem ∷ []) (RowItem key row ∷ b) h).1.1 in
    ((one.1, one.3, one.2), come_of_fit schema fs (RowItem key row ∷ b) inner.1 h)
come_of_fit schema (frag.Change x tomb ∷ fs) b inner h =
    let one = (front_fits schema (flat_map frag_items fs ++ EndItem ∷ []) (ChangeItem x tomb ∷ b) h).1.1 in
    ((one.1, one.3, one.2), come_of_fit schema fs (ChangeItem x tomb ∷ b) inner.1 h)
come_of_fit schema (frag.End ∷ fs) b inner h = absurd (let e = inner.0 in cc)

items_fit : (schema : SchemaValue) (xs : List Item) (b : ItemsBefore) → AllFit schema (followed_by b xs) → AllByRecursion IsItem xs
items_fit schema [] b h = tt
items_fit schema (x ∷ xs) b h = ((front_fits schema xs (x ∷ b) h).1.0, items_fit schema xs (x ∷ b) h)

-- ---- the table around one partition

-- the items before a partition, what the directory lists of it, of those before it and of those behind it
module _ (schema : SchemaValue) (before : List Partition) (p : Partition) (behind : List Partition) where
  abbrev pub front : ItemsBefore
  front = parts_of schema before

  abbrev pub mine : DirectoryEntry
  mine = entry_of front p

  abbrev pub earlier : List DirectoryEntry
  earlier = entries_behind (HeadItem schema ∷ []) before

  abbrev pub next : ItemsBefore
  next = followed_by front (part_items p)

  abbrev pub later : List DirectoryEntry
  later = entries_behind next behind

  abbrev parts : List Partition
  parts = before ++ p ∷ behind

  abbrev pub dir : ℕ
  dir = offset (items_to_stop schema parts)

  abbrev pub tail : List ℕ
  tail = item_code (TailItem dir (length (entries (items_to_stop schema parts))))

  -- behind what the directory says of the partition
  abbrev pub following : List ℕ
  following = listing later ++ tail

  -- the parts from this one on
  abbrev onward : List Item
  onward = part_items p ++ flat_map part_items behind

  parts_split : parts_of schema parts ≡ followed_by front onward
  parts_split = ap (followed_by (HeadItem schema ∷ [])) (flat_map-append part_items before (p ∷ behind)) ∙ followed_by-append (HeadItem schema ∷ []) (flat_map part_items before) onward

  pub entries_split : AllByRecursion (λ q. IsMutation q.change) parts → entries (items_to_stop schema parts) ≡ earlier ++ mine ∷ later
  entries_split are =
      ap entries (body_is schema parts)
      ∙ entries_are parts are (HeadItem schema ∷ [])
      ∙ entries_behind-append before (p ∷ behind) (HeadItem schema ∷ [])

  pub refs_split : AllByRecursion (λ q. IsMutation q.change) parts → drop (length before) ((info_of 0 schema parts).parts)
      ≡ record { key = p.key; dir_off = dir + length (listing earlier); dir_len = directory_entry_size mine } ∷ refs_from (dir + length (listing earlier) + directory_entry_size mine) later
  refs_split are =
      ap (λ es. drop (length before) (refs_from dir es)) (entries_split are)
      ∙ ap (drop (length before)) (refs_from-append earlier (mine ∷ later) dir)
      ∙ drop_at (refs_from dir earlier) (refs_from (dir + length (listing earlier)) (mine ∷ later)) (length before) (length-refs earlier dir ∙ length-entries before (HeadItem schema ∷ []))

  pub table_split : AllByRecursion (λ q. IsMutation q.change) parts → text (whole_table schema parts) ≡ (text (items_to_stop schema parts) ++ listing earlier) ++ (flat_map item_code (entry_items mine) ++ following)
  table_split are =
      let whole : flat_map item_code (ending (items_to_stop schema parts)) ≡ (listing earlier ++ (flat_map item_code (entry_items mine) ++ listing later)) ++ tail =
      flat_map-append item_code (flat_map entry_items (entries (items_to_stop schema parts))) (TailItem dir (length (entries (items_to_stop schema parts))) ∷ [])
      ∙ (λ i. listing (entries_split are i) ++ append-nil tail i)
      ∙ ap (λ t. t ++ tail) (listing-append earlier (mine ∷ later) ∙ ap (λ t. listing earlier ++ t) (flat_map-append item_code (entry_items mine) (flat_map entry_items later))) in
      text-followed_by (items_to_stop schema parts) (ending (items_to_stop schema parts))
      ∙ ap (λ t. text (items_to_stop schema parts) ++ t) (whole ∙ append_assoc (listing earlier) (flat_map item_code (entry_items mine) ++ listing later) tail ∙ ap (λ t. listing earlier ++ t) (append_assoc (flat_map item_code (entry_items mine)) (listing later) tail))
      ∙ sym (append_assoc (text (items_to_stop schema parts)) (listing earlier) (flat_map item_code (entry_items mine) ++ following))

  -- the items before the stop
  pub body_split : text (items_to_stop schema parts) ≡ text front ++ (flat_map item_code (part_items p) ++ (flat_map item_code (flat_map part_items behind) ++ 5 ∷ []))
  body_split =
      let mid = flat_map item_code (part_items p) in
      let rest = flat_map item_code (flat_map part_items behind) in
      ap text (body_is schema parts)
      ∙ ap (λ b. text b ++ 5 ∷ []) parts_split
      ∙ ap (λ t. t ++ 5 ∷ []) (text-followed_by front onward ∙ ap (λ t. text front ++ t) (flat_map-append item_code (part_items p) (flat_map part_items behind)))
      ∙ append_assoc (text front) (mid ++ rest) (5 ∷ [])
      ∙ ap (λ t. text front ++ t) (append_assoc mid rest (5 ∷ []))

  pub next_offset : offset next ≡ offset front + length (flat_map item_code (part_items p))
  next_offset = ap length (text-followed_by front (part_items p)) ∙ length-append (text front) (flat_map item_code (part_items p))

  -- the items of the directory
  pub entry_items_fit : AllByRecursion (λ q. IsMutation q.change) parts → AllFit schema (whole_table schema parts) → AllByRecursion IsItem (entry_items mine ++ flat_map entry_items later)
  entry_items_fit are fit =
      let all = items_fit schema (ending (items_to_stop schema parts)) (items_to_stop schema parts) fit in
      let listed : AllByRecursion IsItem (flat_map entry_items (entries (items_to_stop schema parts))) = (both_parts IsItem (flat_map entry_items (entries (items_to_stop schema parts))) (TailItem dir (length (entries (items_to_stop schema parts))) ∷ []) all).0 in
      let split : flat_map entry_items (entries (items_to_stop schema parts)) ≡ flat_map entry_items earlier ++ (entry_items mine ++ flat_map entry_items later) = ap (flat_map entry_items) (entries_split are) ∙ flat_map-append entry_items earlier (mine ∷ later) in
      (both_parts IsItem (flat_map entry_items earlier) (entry_items mine ++ flat_map entry_items later) (subst (λ (xs : List Item). AllByRecursion IsItem xs) split listed)).1

  -- the items from the part on
  pub part_items_fit : AllFit schema (whole_table schema parts) → AllByRecursion IsItem (part_items p) × AllByRecursion IsItem (flat_map part_items behind)
  part_items_fit fit =
      let bodies : AllFit schema (StopItem ∷ parts_of schema parts) = subst (λ (b : ItemsBefore). AllFit schema b) (body_is schema parts) (front_fits schema (ending (items_to_stop schema parts)) (items_to_stop schema parts) fit) in
      let there : AllFit schema (followed_by front onward) = subst (λ (b : ItemsBefore). AllFit schema b) parts_split bodies.0 in
      both_parts IsItem (part_items p) (flat_map part_items behind) (items_fit schema onward front there)

  -- its static row is of the schema, and its rows and changes come one behind another
  pub part_comes : AllFit schema (whole_table schema parts) → IsMutation p.change → IsStaticOf schema p.change.statics × AllCome schema None None (rows_and_changes p.change)
  part_comes fit is =
      let bodies : AllFit schema (StopItem ∷ parts_of schema parts) = subst (λ (b : ItemsBefore). AllFit schema b) (body_is schema parts) (front_fits schema (ending (items_to_stop schema parts)) (items_to_stop schema parts) fit) in
      let there : AllFit schema (followed_by front onward) = subst (λ (b : ItemsBefore). AllFit schema b) parts_split bodies.0 in
      let begun : ItemsBefore = PartItem p.key p.change.pt p.change.statics ∷ front in
      let frags : List Item = flat_map frag_items (rows_and_changes p.change) ++ EndItem ∷ [] in
      let rest = flat_map part_items behind in
      let split : followed_by front onward ≡ followed_by (followed_by begun frags) rest = ap (λ (xs : List Item). followed_by begun (xs ++ rest)) (items_of p.change) ∙ followed_by-append begun frags rest in
      let mine : AllFit schema (followed_by begun frags) = front_fits schema rest (followed_by begun frags) (subst (λ (b : ItemsBefore). AllFit schema b) split there) in
      ((front_fits schema frags begun mine).1.1.2, come_of_fit schema (rows_and_changes p.change) begun (between-inner p.change is) mine)

-- ---- what is read

length_of_offset : (n : ℕ) → length (offset_code n) ≡ 8
unfolding offset_code
length_of_offset n = refl

length_of_time : (n : ℕ) → length (time_code n) ≡ 4
unfolding time_code
length_of_time n = refl

entry_short : (key : List ℕ) (off blocks : ℕ) → length key ≤ 64 → length (item_code (EntryItem key off blocks)) ≤ 78
entry_short key off blocks h = omega (arith, length-append key (offset_code off ++ time_code blocks), length-append (offset_code off) (time_code blocks), length_of_offset off, length_of_time blocks, h)

-- a front that is short enough is kept whole
front_kept : (xs ys : List ℕ) (k : ℕ) → length xs ≤ k → (more : List ℕ) × (take k (xs ++ ys) ≡ xs ++ more)
front_kept [] ys k h = (take k ys, refl)
front_kept (x ∷ xs) ys zero h = absurd (omega (arith, h))
front_kept (x ∷ xs) ys (suc k) h = (let r = front_kept xs ys k (omega (arith, h)) in (r.0, ap (λ t. x ∷ t) r.1))

-- the two lists begin alike
same_first : (r s : PartRef) (rs ss : List PartRef) → r ∷ rs ≡ s ∷ ss → (r ≡ s) × (rs ≡ ss)
same_first r s rs ss e = (cc, cc)

bytes_told : (files : Option Files) (n off : ℕ) (piece bytes : List ℕ) → IsContent files n bytes → AreBytesOf files n off piece → piece ≡ take (length piece) (drop off bytes)
bytes_told None n off piece bytes is h = absurd is
bytes_told (Some files) n off piece bytes is h = h bytes is

module _ (schema : SchemaValue) (before : List Partition) (p : Partition) where
  -- where the partition ends is what the next bytes of the directory say, or the stop
  ends_at : (behind : List Partition) → AllByRecursion (λ q. IsMutation q.change) (before ++ p ∷ behind) → AllFit schema (whole_table schema (before ++ p ∷ behind))
      → (off : ℕ) (bytes : List ℕ) → bytes ≡ take (glimpse_length (refs_from off (later schema before p behind))) (following schema before p behind)
      → EndsAt (dir schema before p behind) bytes (refs_from off (later schema before p behind)) (offset (next schema before p behind))
  ends_at [] are fit off bytes e =
      let mid = flat_map item_code (part_items p) in
      omega (arith, ap length (body_split schema before p []), length-append (text (front schema before p [])) (mid ++ (5 ∷ [])), length-append mid (5 ∷ []), next_offset schema before p [])
  ends_at (q ∷ qs) are fit off bytes e =
      let to = next schema before p (q ∷ qs) in
      let theirs = entry_of to q in
      let first = item_code (EntryItem q.key (offset to) (length theirs.blocks)) in
      let blocks = flat_map item_code (list_map BlockItem theirs.blocks) in
      let others = flat_map entry_items (entries_behind (followed_by to (part_items q)) qs) in
      let rest = flat_map item_code (list_map BlockItem theirs.blocks ++ others) in
      let short : length first ≤ 78 = entry_short q.key (offset to) (length theirs.blocks) (part_items_fit schema before p (q ∷ qs) fit).1.0.0.1 in
      let size : directory_entry_size theirs ≡ length first + length blocks = length-append first blocks in
      let kept = front_kept first (rest ++ tail schema before p (q ∷ qs)) (min (directory_entry_size theirs) 78) (omega (arith, short, size)) in
      let low : offset to < 2 ^ 64 = (both_parts IsItem (entry_items (mine schema before p (q ∷ qs))) (entry_items theirs ++ others) (entry_items_fit schema before p (q ∷ qs) are fit)).1.0.0 in
      (length theirs.blocks, kept.0, low, e ∙ ap (take (min (directory_entry_size theirs) 78)) (append_assoc first rest (tail schema before p (q ∷ qs))) ∙ kept.1)

  glimpse_within : (behind : List Partition) (off : ℕ) → glimpse_length (refs_from off (later schema before p behind)) ≤ length (following schema before p behind)
  glimpse_within [] off = omega arith
  glimpse_within (q ∷ qs) off =
      let theirs = entry_of (next schema before p (q ∷ qs)) q in
      let others = entries_behind (followed_by (next schema before p (q ∷ qs)) (part_items q)) qs in
      omega (arith, length-append (listing (theirs ∷ others)) (tail schema before p (q ∷ qs)), ap length (flat_map-append item_code (entry_items theirs) (flat_map entry_items others)), length-append (flat_map item_code (entry_items theirs)) (listing others))

module _ (files : Option Files) (n at : ℕ) (here : PartRef) (behind : List PartRef) (p : Partition) (is : IsLocated files n at (here ∷ behind) p) where
  abbrev pub where_from : ItemsBefore
  where_from = front is.schema is.before p is.behind

  abbrev pub where_to : ItemsBefore
  where_to = next is.schema is.before p is.behind

  are : AllByRecursion (λ q. IsMutation q.change) (is.before ++ p ∷ is.behind)
  are = by_recursion (λ q. IsMutation q.change) (is.before ++ p ∷ is.behind) is.mutations

  abbrev entry_mine : DirectoryEntry
  entry_mine = mine is.schema is.before p is.behind

  abbrev ahead : List ℕ
  ahead = text (items_to_stop is.schema (is.before ++ p ∷ is.behind)) ++ listing (earlier is.schema is.before p is.behind)

  abbrev begins : ℕ
  begins = dir is.schema is.before p is.behind + length (listing (earlier is.schema is.before p is.behind))

  refs_are : (here ≡ record { key = p.key; dir_off = begins; dir_len = directory_entry_size entry_mine }) × (behind ≡ refs_from (begins + directory_entry_size entry_mine) (later is.schema is.before p is.behind))
  refs_are = same_first here _ behind _ (is.refs ∙ refs_split is.schema is.before p is.behind are)

  bytes_are : is.bytes ≡ ahead ++ (flat_map item_code (entry_items entry_mine) ++ following is.schema is.before p is.behind)
  bytes_are = is.table.spelled ∙ table_split is.schema is.before p is.behind are

  off_is : here.dir_off ≡ length ahead
  off_is = ap (λ (r : PartRef). r.dir_off) refs_are.0 ∙ sym (length-append (text (items_to_stop is.schema (is.before ++ p ∷ is.behind))) (listing (earlier is.schema is.before p is.behind)))

  size_is : here.dir_len ≡ directory_entry_size entry_mine
  size_is = ap (λ (r : PartRef). r.dir_len) refs_are.0

  -- the first reference is that of the partition
  pub key_is : here.key ≡ p.key
  key_is = ap (λ (r : PartRef). r.key) refs_are.0

  read_is : (piece : List ℕ) → AreBytesOf files n here.dir_off piece → piece ≡ take (length piece) (flat_map item_code (entry_items entry_mine) ++ following is.schema is.before p is.behind)
  read_is piece h =
      bytes_told files n here.dir_off piece is.bytes is.content h
      ∙ ap (take (length piece)) (ap (drop here.dir_off) bytes_are ∙ drop_at ahead _ here.dir_off (sym off_is))

  -- the bytes that are read of the directory say where the partition begins
  pub begins_there : (piece : List ℕ) → AreBytesOf files n here.dir_off piece → here.dir_len ≤ length piece → IsEntryAt piece here.key (offset where_from)
  begins_there piece h long =
      let first = item_code (EntryItem p.key (offset where_from) (length entry_mine.blocks)) in
      let blocks = flat_map item_code (list_map BlockItem entry_mine.blocks) in
      let rest = following is.schema is.before p is.behind in
      let kept = front_kept first (blocks ++ rest) (length piece) (omega (arith, long, size_is, length-append first blocks)) in
      let low : offset where_from < 2 ^ 64 = (entry_items_fit is.schema is.before p is.behind are is.table.fit).0.0 in
      let read : piece ≡ first ++ kept.0 = read_is piece h ∙ ap (take (length piece)) (append_assoc first blocks rest) ∙ kept.1 in
      (length entry_mine.blocks, kept.0, low, read ∙ ap (λ k. item_code (EntryItem k (offset where_from) (length entry_mine.blocks)) ++ kept.0) (sym key_is))

  -- and where it ends
  pub ends_there : (piece : List ℕ) → AreBytesOf files n here.dir_off piece → length piece ≡ here.dir_len + glimpse_length behind → EndsAt at (drop here.dir_len piece) behind (offset where_to)
  ends_there piece h size =
      let rest = following is.schema is.before p is.behind in
      let code = flat_map item_code (entry_items entry_mine) in
      let read : drop here.dir_len piece ≡ take (glimpse_length behind) rest =
      ap (drop here.dir_len) (read_is piece h ∙ ap (λ k. take k (code ++ rest)) size)
      ∙ drop-take here.dir_len (glimpse_length behind) (code ++ rest)
      ∙ ap (take (glimpse_length behind)) (drop_at code rest here.dir_len (sym size_is)) in
      let there = ends_at is.schema is.before p is.behind are is.table.fit (begins + directory_entry_size entry_mine) (drop here.dir_len piece) (read ∙ ap (λ rs. take (glimpse_length rs) rest) refs_are.1) in
      subst (λ d. EndsAt d (drop here.dir_len piece) behind (offset where_to)) (sym is.directory)
      (subst (λ rs. EndsAt (dir is.schema is.before p is.behind) (drop here.dir_len piece) rs (offset where_to)) (sym refs_are.1) there)

  -- the partition does not end before it begins, and the stop stands before the directory
  pub in_order : MayLie at (offset where_from) (offset where_to)
  in_order =
      let mid = flat_map item_code (part_items p) in
      let others = flat_map item_code (flat_map part_items is.behind) in
      let whole = items_to_stop is.schema (is.before ++ p ∷ is.behind) in
      let size : offset whole ≡ length (text whole) = refl in
      let lies : offset where_to ≡ offset where_from + length mid = next_offset is.schema is.before p is.behind in
      let front : offset where_from ≡ length (text where_from) = refl in (
        omega (arith, lies),
        omega (arith, lies, size, front, is.directory, ap length (body_split is.schema is.before p is.behind), length-append (text where_from) (mid ++ (others ++ 5 ∷ [])), length-append mid (others ++ 5 ∷ []), length-append others (5 ∷ [])),
      )

  -- its items lie there
  pub lies_there : IsSpan files n p (offset where_from) (offset where_to)
  lies_there =
      let mid = flat_map item_code (part_items p) in
      let rest = flat_map item_code (flat_map part_items is.behind) ++ 5 ∷ [] in
      let directory = flat_map item_code (ending (items_to_stop is.schema (is.before ++ p ∷ is.behind))) in
      let whole : is.bytes ≡ text where_from ++ (mid ++ (rest ++ directory)) =
      is.table.spelled
      ∙ text-followed_by (items_to_stop is.schema (is.before ++ p ∷ is.behind)) (ending (items_to_stop is.schema (is.before ++ p ∷ is.behind)))
      ∙ ap (λ t. t ++ directory) (body_split is.schema is.before p is.behind)
      ∙ append_assoc (text where_from) (mid ++ rest) directory
      ∙ ap (λ t. text where_from ++ t) (append_assoc mid rest directory) in
      record {
        front = text where_from;
        behind = rest ++ directory;
        content = subst (λ bytes. IsContent files n bytes) whole is.content;
        begins = refl;
        ends = next_offset is.schema is.before p is.behind;
      }

  -- the values of its items are within their limits
  pub items_there : AllByRecursion IsItem (part_items p)
  items_there = (part_items_fit is.schema is.before p is.behind is.table.fit).0

  -- and come as those of a table of the schema
  pub comes_there : IsStaticOf is.schema p.change.statics × AllCome is.schema None None (rows_and_changes p.change)
  comes_there = part_comes is.schema is.before p is.behind is.table.fit ((both_parts (λ (q : Partition). IsMutation q.change) is.before (p ∷ is.behind) are).1.0)

  -- what is read of the directory lies in the file
  pub reads_within : here.dir_off + (here.dir_len + glimpse_length behind) ≤ length is.bytes
  reads_within =
      let code = flat_map item_code (entry_items entry_mine) in
      let rest = following is.schema is.before p is.behind in
      let glimpse : glimpse_length behind ≤ length rest = subst (λ rs. glimpse_length rs ≤ length rest) (sym refs_are.1) (glimpse_within is.schema is.before p is.behind (begins + directory_entry_size entry_mine)) in
      omega (arith, ap length bytes_are, length-append ahead (code ++ rest), length-append code rest, off_is, size_is, glimpse)

  -- what it says is what a mutation says
  pub is_mutation : IsMutation p.change
  is_mutation = (both_parts (λ (q : Partition). IsMutation q.change) is.before (p ∷ is.behind) are).1.0
