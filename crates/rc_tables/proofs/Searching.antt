-- What a search by key finds in a table's list of partitions, and that this is what the table says of the key.
use Rattle.std.proofs.Common.{◌≡◌, ◌≢◌, ℕ, zero, suc, ◌+◌, ◌<◌, Bool, true, false, cond, List, [], ◌∷◌, ◌++◌, length, get_or, take, drop, Option, Result, Ok, Err, IfOk, IfErr, inl, inr, refl, sym, ap, ◌∙◌, subst, T, arith, map as list_map}
use Rattle.std.specs.Prelude.{All, IsTrue, filter, ◌||◌}
use Rattle.std.specs.declared.cmp.Ordering.{Ordering}
use Rattle.std.specs.declared.cmp.Ordering.TheVariants.{Less, Equal, Greater}
use Rattle.std.specs.Ordering.{is_lt, is_eq, eq_by_cmp, ordering_reverse, ordering_index}
use Rattle.std.specs.List.Sorted.{IsSearchInRange, IsBinarySearchResult, IsNonDecreasingBy}
use Rattle.std.proofs.lemmas.List.Sorted.{searchable_from_sorted}
use Rattle.std.proofs.lemmas.Bool.{cases_lt}
use Rattle.std.specs.List.{list_any, HoldsAt}
use Rattle.std.specs.Cmp.{tied_itself}
use Rattle.std.specs.FinMap.{is_sorted}
use Rattle.std.specs.FinMap.Entries.{below_all}
use Rattle.std.proofs.lemmas.List.{drop_more, length-take-le}
use Rattle.rc_cell.specs.laws.ByColumn.{test_of, first, second, both, holds}
use Rattle.rc_outside.specs.Files.{Files}
use Rattle.rc_position.specs.Position.{bytes_cmp}
use Rattle.rc_position.specs.laws.Orders.{bytes_cmp_total, bytes_cmp_same}
use Rattle.rc_schema.specs.SchemaValue.{SchemaValue}
use Rattle.rc_mutation.specs.declared.mutations.Mutation.{Mutation}
use Rattle.rc_mutation.specs.declared.mutations.Partition.{Partition}
use Rattle.rc_mutation.specs.Source.{IsMutation}
use Rattle.rc_tfile.specs.declared.info.PartRef.{PartRef}
use Rattle.rc_tfile.specs.declared.info.TableInfo.{TableInfo}
use Rattle.rc_tfile.specs.Checking.{IsContent}
use Rattle.rc_tfile.specs.Items.{HeadItem}
use Rattle.rc_tfile.specs.Before.{ItemsBefore, offset, followed_by}
use Rattle.rc_tfile.specs.Blocks.{DirectoryEntry, entries}
use Rattle.rc_tfile.specs.Info.{refs_from, info_of}
use Rattle.rc_tfile.specs.TableText.{IsTable, items_to_stop, part_items}
use Rattle.rc_tfile.specs.laws.Drafts.{body_is}
use Rattle.rc_tfile.specs.laws.Follows.{by_recursion}
use Rattle.rc_tables.specs.calls.Located.{IsLocatedOf}
use Rattle.rc_tables.specs.Tables.{IsHeld, changes_in, listing}
use Rattle.rc_tables.proofs.Listing.{directory_entry_size, entry_of, entries_behind, entries_are, length-entries, length-refs}

less : (r : Ordering) → T (is_lt r) → r ≡ Less
less Less h = refl
less Equal h = absurd h
less Greater h = absurd h

abbrev pairs : List Partition → List (List ℕ × Mutation)
pairs ps = list_map (λ p. (p.key, p.change)) ps

abbrev offs : List PartRef → List (List ℕ × ℕ)
offs rs = list_map (λ r. (r.key, r.dir_off)) rs

abbrev is_of : List ℕ → Partition → Bool
is_of key p = eq_by_cmp bytes_cmp key p.key

turned : (x y : List ℕ) → bytes_cmp x y ≡ Less → bytes_cmp y x ≡ Greater
turned x y e = bytes_cmp_total.antisymm y x ∙ ap ordering_reverse e

-- ---- the partitions of a key

none_equal : (key : List ℕ) (ps : List Partition) → T (below_all bytes_cmp key (pairs ps)) → filter (is_of key) ps ≡ []
none_equal key [] h = refl
none_equal key (p ∷ ps) h =
    let e : is_of key p ≡ false = ap is_eq (less (bytes_cmp key p.key) (first (is_lt (bytes_cmp key p.key)) (below_all bytes_cmp key (pairs ps)) h)) in
    ap (λ b. cond b (p ∷ filter (is_of key) ps) (filter (is_of key) ps)) e ∙ none_equal key ps (second (is_lt (bytes_cmp key p.key)) (below_all bytes_cmp key (pairs ps)) h)

below_at : (key : List ℕ) (before : List Partition) (p : Partition) (behind : List Partition) → T (below_all bytes_cmp key (pairs (before ++ p ∷ behind))) → bytes_cmp key p.key ≡ Less
below_at key [] p behind h = less (bytes_cmp key p.key) (first (is_lt (bytes_cmp key p.key)) (below_all bytes_cmp key (pairs behind)) h)
below_at key (x ∷ xs) p behind h = below_at key xs p behind (second (is_lt (bytes_cmp key x.key)) (below_all bytes_cmp key (pairs (xs ++ p ∷ behind))) h)

one_equal : (before : List Partition) (p : Partition) (behind : List Partition) → T (is_sorted bytes_cmp (pairs (before ++ p ∷ behind))) → filter (is_of p.key) (before ++ p ∷ behind) ≡ p ∷ []
one_equal [] p behind h =
    ap (λ b. cond b (p ∷ filter (is_of p.key) behind) (filter (is_of p.key) behind)) (ap is_eq (tied_itself bytes_cmp_total p.key))
    ∙ ap (λ t. p ∷ t) (none_equal p.key behind (first (below_all bytes_cmp p.key (pairs behind)) (is_sorted bytes_cmp (pairs behind)) h))
one_equal (x ∷ xs) p behind h =
    let rest = filter (is_of p.key) (xs ++ p ∷ behind) in
    let under = below_at x.key xs p behind (first (below_all bytes_cmp x.key (pairs (xs ++ p ∷ behind))) (is_sorted bytes_cmp (pairs (xs ++ p ∷ behind))) h) in
    ap (λ b. cond b (x ∷ rest) rest) (ap is_eq (turned x.key p.key under))
    ∙ one_equal xs p behind (second (below_all bytes_cmp x.key (pairs (xs ++ p ∷ behind))) (is_sorted bytes_cmp (pairs (xs ++ p ∷ behind))) h)

pub one_change : (before : List Partition) (p : Partition) (behind : List Partition) → IsTrue (is_sorted bytes_cmp (pairs (before ++ p ∷ behind))) → changes_in p.key (before ++ p ∷ behind) ≡ p.change ∷ []
one_change before p behind h = ap (list_map (λ (q : Partition). q.change)) (one_equal before p behind (test_of _ h))

-- ---- the references of partitions

below_refs : (key : List ℕ) (ps : List Partition) (b : ItemsBefore) (off : ℕ) → T (below_all bytes_cmp key (pairs ps)) → T (below_all bytes_cmp key (offs (refs_from off (entries_behind b ps))))
below_refs key [] b off h = tt
below_refs key (p ∷ ps) b off h =
    both (is_lt (bytes_cmp key p.key)) _ (first (is_lt (bytes_cmp key p.key)) (below_all bytes_cmp key (pairs ps)) h)
    (below_refs key ps (followed_by b (part_items p)) _ (second (is_lt (bytes_cmp key p.key)) (below_all bytes_cmp key (pairs ps)) h))

sorted_refs : (ps : List Partition) (b : ItemsBefore) (off : ℕ) → T (is_sorted bytes_cmp (pairs ps)) → T (is_sorted bytes_cmp (offs (refs_from off (entries_behind b ps))))
sorted_refs [] b off h = tt
sorted_refs (p ∷ ps) b off h =
    both (below_all bytes_cmp p.key (offs (refs_from _ (entries_behind (followed_by b (part_items p)) ps)))) _
    (below_refs p.key ps (followed_by b (part_items p)) _ (first (below_all bytes_cmp p.key (pairs ps)) (is_sorted bytes_cmp (pairs ps)) h))
    (sorted_refs ps (followed_by b (part_items p)) _ (second (below_all bytes_cmp p.key (pairs ps)) (is_sorted bytes_cmp (pairs ps)) h))

apart : (key other : List ℕ) → (other ≡ key → ⊥) → eq_by_cmp bytes_cmp key other ≡ false
apart key other h = elim (bytes_cmp key other) as (λ r. bytes_cmp key other ≡ r → is_eq r ≡ false) [ Less ↦ λ _. refl | Equal ↦ λ e. absurd (h (sym (bytes_cmp_same key other e))) | Greater ↦ λ _. refl ] refl

none_listed : (key : List ℕ) (ps : List Partition) (b : ItemsBefore) (off : ℕ) → All (λ r. r.key ≢ key) (refs_from off (entries_behind b ps)) → filter (is_of key) ps ≡ []
none_listed key [] b off h = refl
none_listed key (p ∷ ps) b off h =
    let e : is_of key p ≡ false = apart key p.key (h 0 (record { key = p.key; dir_off = off; dir_len = directory_entry_size (entry_of b p) }) (omega arith)) in
    ap (λ c. cond c (p ∷ filter (is_of key) ps) (filter (is_of key) ps)) e
    ∙ none_listed key ps (followed_by b (part_items p)) (off + directory_entry_size (entry_of b p)) (λ k d lt. h (suc k) d (omega arith))

-- the element at an index, and the lists around it
split_at : {X : Type 0} (xs : List X) (i : ℕ) → i < length xs → (x : X) × (xs ≡ take i xs ++ x ∷ drop (suc i) xs)
split_at [] i h = absurd (omega (arith, h))
split_at (x ∷ xs) zero h = (x, refl)
split_at (x ∷ xs) (suc i) h = (let r = split_at xs i (omega (arith, h)) in (r.0, ap (λ t. x ∷ t) r.1))

first_off : (es : List DirectoryEntry) (off : ℕ) → 0 < length (refs_from off es) → (x : PartRef) → x ≡ get_or (refs_from off es) 0 x → x.dir_off ≡ off
first_off [] off h x e = absurd (omega (arith, h))
first_off (e ∷ es) off h x is = ap (λ (r : PartRef). r.dir_off) is

or_true : (b : Bool) → b || true ≡ true
or_true true = refl
or_true false = refl

any_at : (key : List ℕ) (rs : List PartRef) (i : ℕ) → i < length rs → HoldsAt (λ r. r.key ≡ key) rs i → list_any (λ r. eq_by_cmp bytes_cmp key r.key) rs ≡ true
any_at key [] i lt h = absurd (omega (arith, lt))
any_at key (r ∷ rs) zero lt h = ap (λ b. b || list_any (λ r. eq_by_cmp bytes_cmp key r.key) rs) (ap is_eq (ap (bytes_cmp key) (h r) ∙ tied_itself bytes_cmp_total key))
any_at key (r ∷ rs) (suc i) lt h = ap (λ b. eq_by_cmp bytes_cmp key r.key || b) (any_at key rs i (omega (arith, lt)) h) ∙ or_true (eq_by_cmp bytes_cmp key r.key)

-- a table that lists the key is counted
pub counted : (key : List ℕ) (info : TableInfo) (i : ℕ) → i < length info.parts → HoldsAt (λ r. r.key ≡ key) info.parts i → listing key (info ∷ []) ≡ 1
counted key info i lt h = ap (λ b. length (cond b (info ∷ []) [])) (any_at key info.parts i lt h)

-- ---- a search by key

rises : (rs : List PartRef) → T (is_sorted bytes_cmp (offs rs)) → (k : ℕ) (d : PartRef) → k + 1 < length rs → is_lt (bytes_cmp (get_or rs (k + 1) d).key (get_or rs k d).key) ≡ false
rises [] h k d lt = absurd (omega arith)
rises (r ∷ []) h k d lt = absurd (omega arith)
rises (r ∷ (s ∷ ss)) h zero d lt =
    ap is_lt (turned r.key s.key (less (bytes_cmp r.key s.key) (first (is_lt (bytes_cmp r.key s.key)) (below_all bytes_cmp r.key (offs ss)) (first (below_all bytes_cmp r.key (offs (s ∷ ss))) (is_sorted bytes_cmp (offs (s ∷ ss))) h))))
rises (r ∷ (s ∷ ss)) h (suc k) d lt =
    let at : suc k + 1 ≡ suc (k + 1) = omega arith in
    ap (λ i. is_lt (bytes_cmp (get_or (r ∷ s ∷ ss) i d).key (get_or (r ∷ s ∷ ss) (suc k) d).key)) at
    ∙ rises (s ∷ ss) (second (below_all bytes_cmp r.key (offs (s ∷ ss))) (is_sorted bytes_cmp (offs (s ∷ ss))) h) k d (omega arith)

comparisons_rise : (rs : List PartRef) (key : List ℕ) → T (is_sorted bytes_cmp (offs rs)) → IsNonDecreasingBy (λ r. ordering_index (bytes_cmp r.key key)) rs
comparisons_rise rs key h = searchable_from_sorted bytes_cmp_total (λ (r : PartRef). r.key) rs key (λ k d _ lt. rises rs h k d lt)

pub search_found : (rs : List PartRef) (key : List ℕ) (r : Result ℕ ℕ) → IsSearchInRange r (length rs) → IsBinarySearchResult (λ e. bytes_cmp e.key key) rs r → IfOk r (λ i. (i < length rs) × HoldsAt (λ e. e.key ≡ key) rs i)
search_found rs key (Ok place) in_range equal = (in_range, λ d. bytes_cmp_same _ key (equal d))
search_found rs key (Err place) in_range parted = tt

no_tie : (x key : List ℕ) (r : Ordering) → bytes_cmp x key ≡ r → (r ≡ Equal → ⊥) → x ≡ key → ⊥
no_tie x key r e apart same = apart (sym e ∙ ap (λ k. bytes_cmp k key) same ∙ tied_itself bytes_cmp_total key)

pub search_absent : (rs : List PartRef) (key : List ℕ) (r : Result ℕ ℕ) → IsSearchInRange r (length rs) → IsBinarySearchResult (λ e. bytes_cmp e.key key) rs r → IsTrue (is_sorted bytes_cmp (offs rs)) → IfErr r (λ _. All (λ e. e.key ≢ key) rs)
search_absent rs key (Ok place) in_range equal up = tt
search_absent rs key (Err place) in_range parted up =
    let split = parted (comparisons_rise rs key (test_of _ up)) in
    λ k d lt.
    elim (cases_lt k place) [
      | inl below ↦ no_tie _ key Less (split.0 k d (omega arith) below) (λ e. absurd cc)
      | inr above ↦ no_tie _ key Greater (split.1 k d above lt) (λ e. absurd cc)
    ]

-- what is known of a table whose file is there
module _ (files : Option Files) (schema : SchemaValue) (table : ℕ × List Partition) (info : TableInfo) (same : info ≡ info_of table.0 schema table.1) (held : IsHeld files schema table) where
  abbrev start : ItemsBefore
  start = HeadItem schema ∷ []

  abbrev at_dir : ℕ
  at_dir = offset (items_to_stop schema table.1)

  parts_are : info.parts ≡ refs_from at_dir (entries_behind start table.1)
  parts_are =
      ap (λ (t : TableInfo). t.parts) same
      ∙ ap (refs_from at_dir) (ap entries (body_is schema table.1) ∙ entries_are table.1 (by_recursion (λ p. IsMutation p.change) table.1 held.mutations) start)

  parts_refs : info.parts ≡ (info_of 0 schema table.1).parts
  parts_refs = ap (λ (t : TableInfo). t.parts) same

  pub keys_ascend : IsTrue (is_sorted bytes_cmp (list_map (λ r. (r.key, r.dir_off)) info.parts))
  keys_ascend = subst (λ rs. IsTrue (is_sorted bytes_cmp (offs rs))) (sym parts_are) (holds _ (sorted_refs table.1 start at_dir (test_of _ held.ascend)))

  pub none_there : (key : List ℕ) → All (λ r. r.key ≢ key) info.parts → changes_in key table.1 ≡ []
  none_there key h = ap (list_map (λ (q : Partition). q.change)) (none_listed key table.1 start at_dir (subst (λ (rs : List PartRef). All (λ r. r.key ≢ key) rs) parts_are h))

  same_size : length info.parts ≡ length table.1
  same_size = ap length parts_are ∙ length-refs (entries_behind start table.1) at_dir ∙ length-entries table.1 start

  pub dir_is : (x : PartRef) → 0 < length info.parts → x ≡ get_or info.parts 0 x → x.dir_off ≡ at_dir
  dir_is x some e = first_off (entries_behind start table.1) at_dir (subst (λ rs. 0 < length rs) parts_are some) x (e ∙ ap (λ rs. get_or rs 0 x) parts_are)

  pub located : (i : ℕ) (here : PartRef) (behind : List PartRef) (at : ℕ) → i < length info.parts → here ≡ get_or info.parts i here → behind ≡ drop (i + 1) info.parts → at ≡ at_dir
      → (p : Partition) × IsLocatedOf files schema info.number at (here ∷ behind) p × (changes_in p.key table.1 ≡ p.change ∷ [])
  located i here behind at lt is rest e =
      let split = split_at table.1 i (omega (arith, lt, same_size)) in
      let p = split.0 in
      let before = take i table.1 in
      let later = drop (suc i) table.1 in
      let size : length before ≡ i = length-take-le i table.1 (omega (arith, lt, same_size)) in
      let listed : here ∷ behind ≡ drop i info.parts = (λ j. is j ∷ rest j) ∙ sym (drop_more info.parts i here lt) in (
        p,
        (
          record {
            schema = schema;
            before = before;
            behind = later;
            bytes = held.bytes;
            content = subst (λ n. IsContent files n held.bytes) (sym (ap (λ (t : TableInfo). t.number) same)) held.content;
            table = subst (λ (ps : List Partition). IsTable held.bytes schema ps) split.1 held.text;
            mutations = subst (λ (ps : List Partition). All (λ q. IsMutation q.change) ps) split.1 held.mutations;
            directory = e ∙ ap (λ ps. offset (items_to_stop schema ps)) split.1;
            refs = listed ∙ ap (drop i) (parts_refs ∙ ap (λ ps. (info_of 0 schema ps).parts) split.1) ∙ ap (λ k. drop k ((info_of 0 schema (before ++ p ∷ later)).parts)) (sym size);
          },
          refl,
        ),
        ap (changes_in p.key) split.1 ∙ one_change before p later (subst (λ (ps : List Partition). IsTrue (is_sorted bytes_cmp (pairs ps))) split.1 held.ascend),
      )
