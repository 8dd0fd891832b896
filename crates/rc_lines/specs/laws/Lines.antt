-- The line of a command that fits the schema is read back as it.
use Rattle.std.proofs.Common.{◌≡◌, ◌≢◌, ◌≤◌, ◌<◌, ◌^◌, ℕ, ℤ, pos, negsuc, suc, Bool, true, false, not, ◌&&◌, ◌||◌, ◌==◌, nat_lt, nat_le, List, [], ◌∷◌, ◌++◌, length, refl, sym, subst, ap, ◌∙◌, inl, inr, arith}
use Rattle.std.specs.Prelude.{codes, if◌then◌else◌, option_and_then, Ok, Err}
use Rattle.std.specs.declared.option.Option.{Option}
use Rattle.std.specs.declared.option.Option.TheVariants.{Some, None}
use Rattle.std.specs.declared.cmp.Ordering.TheVariants.{Less}
use Rattle.std.specs.Fmt.{decimal, signed_decimal}
use Rattle.std.specs.FinMap.{is_sorted}
use Rattle.std.specs.Int.{w64}
use Rattle.std.specs.Int.RustNames.{FitsSigned}
use Rattle.std.specs.List.{AllByRecursion, list_all, list_any}
use Rattle.std.specs.Option.{option_map, is_none, unwrap_or}
use Rattle.std.specs.Ordering.{nat_cmp, is_lt}
use Rattle.std.specs.Str.Parse.{AllDigits}
use Rattle.std.proofs.lemmas.Bool.Decides.{nat_tests}
use Rattle.std.proofs.lemmas.Fmt.{decimal_is_IsNumeral}
use Rattle.std.proofs.lemmas.Int.{ints}
use Rattle.std.proofs.lemmas.List.Elements.{All-head}
use Rattle.std.proofs.lemmas.Str.Parse.{digit_from_value}
use Rattle.rc_cell.specs.declared.rows.Row.{Row}
use Rattle.rc_cell.specs.declared.writes.Cell.{Cell}
use Rattle.rc_cell.specs.declared.writes.Tomb.{Tomb}
use Rattle.rc_cell.specs.Winner.{empty_row, IsRow}
use Rattle.rc_mutation.specs.declared.mutations.Mutation.{Mutation}
use Rattle.rc_mutation.specs.Fragments.{is_written}
use Rattle.rc_position.specs.declared.comps.Comp.{Comp}
use Rattle.rc_position.specs.declared.comps.Comp.TheVariants as comps
use Rattle.rc_position.specs.declared.positions.Pos.{Pos}
use Rattle.rc_position.specs.declared.positions.Weight.{Weight}
use Rattle.rc_position.specs.declared.positions.Weight.TheVariants.{Before, At, After}
use Rattle.rc_position.specs.declared.slices.Slice.{Slice}
use Rattle.rc_position.specs.Position.{prefix_cmp, pos_cmp, start_bound, end_bound, IsBefore, longest_partition_key}
use Rattle.rc_query.specs.Answer.{whole_slice}
use Rattle.rc_ranges.specs.declared.pieces.Piece.{Piece}
use Rattle.rc_schema.specs.declared.kinds.CkKind.{CkKind}
use Rattle.rc_schema.specs.declared.kinds.CkKind.TheVariants.{Int, Text}
use Rattle.rc_schema.specs.Checks.{is_of_kind, are_of_kinds, fits_kinds, is_short, column_count, is_key_of, are_cells_of}
use Rattle.rc_schema.specs.SchemaValue.{SchemaValue, is_name, are_distinct_by, is_schema, are_few, are_names}
use Rattle.rc_spelling.specs.Words.{is_word}
use Rattle.rc_schema.specs.laws.SchemaTexts.{text_reads_back}
use Rattle.rc_schema.specs.SchemaText.{schema_text}
use Rattle.rc_spelling.specs.laws.Numerals.{signed_back}
use Rattle.rc_spelling.specs.Printed.{AreBytes, IsComponent, bytes_of_component, printed_bytes}
use Rattle.rc_writes.specs.Allowed.{ChangeFits, IsRangeBound, IsRowOf, IsStaticOf}
use Rattle.rc_writes.specs.laws.OnePlace.{single-place}
use Rattle.rc_writes.specs.Single.{IsOnePlace, row_alone, static_alone, range_alone, partition_alone}
use Rattle.rc_lines.specs.declared.commands.Command.{Command}
use Rattle.rc_lines.specs.declared.commands.Command.TheVariants.{Nothing, SetSchema, Put, OpenRead, Read, Close, Flush, FlushBegin, FlushStep, Evict, Compact, Clean, Stats}
use Rattle.rc_lines.specs.declared.commands.Refusal.TheVariants.{BadLine, WrongKey, UnknownColumn, TooLong}
use Rattle.rc_lines.specs.declared.shapes.Change.{Change}
use Rattle.rc_lines.specs.declared.shapes.Change.TheVariants.{OfRow, OfStatic, OfPartition}
use Rattle.rc_lines.specs.declared.shapes.Shape.TheVariants.{Open, Written}
use Rattle.rc_lines.specs.declared.shapes.Stamp.{Stamp}
use Rattle.rc_lines.specs.declared.shapes.Stamp.TheVariants.{Alive}
use Rattle.rc_lines.specs.Fits.{CommandFits}
use Rattle.rc_lines.specs.Grammar.{longest_line, schema_said, parse}
use Rattle.rc_lines.specs.calls.ByShape.{line_meaning, parse_by_shape}
use Rattle.rc_lines.specs.Lines.{pieces_said, is_before, start_said, end_said, cells_said, change_said, command_line, IsPartitionKey, AreComponents, AreStamped, HasOneStamp, IsSayableWrite, IsSayableCommand}
use Rattle.rc_lines.specs.Parts.{without_front}
use Rattle.rc_lines.specs.Sayable.{cell_stamp, shape_line, IsSomeKey, IsPrefix, IsLimit, IsStamped, IsNamedCell, AreSayableCells, IsSayable, IsSayableChange}
use Rattle.rc_lines.specs.UnderSchema.{component_of, prefix_of, slice_between, is_partition_key}
use Rattle.rc_lines.specs.calls.ShapeMeaning.{key_under, are_short, have_short_values, is_short_slice, slice_under, by_column, is_wrong_change, is_unknown_change, is_short_change, rows_said, mutation_of, refusal_of, unless, meaning}
use Rattle.rc_lines.specs.laws.ByShape.{by_shape}
use Rattle.rc_lines.specs.laws.Columns.{AreBelow, columns_back, known, name_at, names_apart, few_cells}
use Rattle.rc_lines.specs.laws.Lengths.{IsShortPrefix, spelled_short, partition_short, piece_short, open_short, row_short, static_short, schema_short}
use Rattle.rc_lines.specs.laws.Plain.{plain_back}
use Rattle.rc_lines.specs.laws.Sayable.{meaning_back}
use Rattle.rc_lines.specs.laws.Halves.{both, join, up_to}

-- ---- keys, prefixes and slices are put back

component_back : (component : Comp) (kind : CkKind) → is_of_kind component kind ≡ true → IsComponent component → component_of kind (bytes_of_component component) ≡ Some component
component_back (comps.Int number) Int h is = ap (option_map (λ number. comps.Int number)) (signed_back number is)
component_back (comps.Int number) Text h is = absurd (cc)
component_back (comps.Text bytes) Int h is = absurd (cc)
component_back (comps.Text bytes) Text h is = refl

both_components : (one : Option Comp) (others : Option (List Comp)) (component : Comp) (prefix : List Comp) → one ≡ Some component → others ≡ Some prefix
    → option_and_then (λ component. option_map (λ key. component ∷ key) others) one ≡ Some (component ∷ prefix)
both_components one others component prefix p q = λ i. option_and_then (λ component. option_map (λ key. component ∷ key) (q i)) (p i)

prefix_back : (prefix : List Comp) (kinds : List CkKind) → are_of_kinds prefix kinds ≡ true → AreComponents prefix → prefix_of (pieces_said prefix) kinds ≡ Some prefix
prefix_back [] kinds h is = refl
prefix_back (component ∷ prefix) [] h is = absurd (cc)
prefix_back (component ∷ prefix) (kind ∷ kinds) h is =
    let halves = both (is_of_kind component kind) (are_of_kinds prefix kinds) h in
    both_components (component_of kind (bytes_of_component component)) (prefix_of (pieces_said prefix) kinds) component prefix (component_back component kind halves.0 is.0) (prefix_back prefix kinds halves.1 is.1)

as_many : (prefix : List Comp) → length (pieces_said prefix) ≡ length prefix
as_many [] = refl
as_many (component ∷ prefix) = ap (λ (n : ℕ). suc n) (as_many prefix)

key_back : (key : List Comp) (kinds : List CkKind) → fits_kinds true kinds key ≡ true → AreComponents key → key_under (pieces_said key) kinds ≡ Some key
key_back key kinds h is =
    let halves = both (are_of_kinds key kinds) (length key == length kinds) h in
    let full : (length (pieces_said key) == length kinds) ≡ true = ap (λ (n : ℕ). n == length kinds) (as_many key) ∙ halves.1 in
    λ i. if full i then prefix_back key kinds halves.0 is i else None

start_back : (prefix : List Comp) (weight : Weight) → weight ≢ At → start_bound prefix (is_before weight) ≡ record { prefix = prefix; weight = weight }
start_back prefix Before h = refl
start_back prefix At h = absurd (h refl)
start_back prefix After h = refl

end_back : (prefix : List Comp) (weight : Weight) → weight ≢ At → end_bound prefix (not (is_before weight)) ≡ record { prefix = prefix; weight = weight }
end_back prefix Before h = refl
end_back prefix At h = absurd (h refl)
end_back prefix After h = refl

between_back : (from to : Pos) → IsBefore from to → slice_between from to ≡ Some (record { from = from; to = to })
unfolding slice_between
between_back from to before = ap (λ r. if is_lt r then Some (record { from = from; to = to }) else None) before

slice_back : (from to : Pos) (kinds : List CkKind) → are_of_kinds from.prefix kinds ≡ true → are_of_kinds to.prefix kinds ≡ true → from.weight ≢ At → to.weight ≢ At → AreComponents from.prefix → AreComponents to.prefix
    → IsBefore from to → slice_under (start_said from) (end_said to) kinds ≡ Some (record { from = from; to = to })
unfolding slice_under
slice_back from to kinds f t a b c d before =
    (λ i. option_and_then (λ f. option_and_then (λ t. slice_between (start_bound f (is_before from.weight)) (end_bound t (not (is_before to.weight)))) (prefix_back to.prefix kinds t d i)) (prefix_back from.prefix kinds f c i))
    ∙ ((λ i. slice_between (start_back from.prefix from.weight a i) (end_back to.prefix to.weight b i)) ∙ between_back from to before)

-- ---- what the checks let through

prefix_passes : (full : Bool) (schema : SchemaValue) (key : List Comp) → is_key_of full schema key ≡ true → (fits_kinds full schema.ck key ≡ true) × (are_short key ≡ true)
prefix_passes full schema key h = both (fits_kinds full schema.ck key) (list_all is_short key) h

cells_pass : (is_static : Bool) (schema : SchemaValue) (cells : List (ℕ × Cell)) → are_cells_of (column_count is_static schema) cells ≡ true
    → (list_all (λ e. nat_lt e.0 (column_count is_static schema)) cells ≡ true) × (have_short_values cells ≡ true)
cells_pass is_static schema cells h = both (list_all (λ e. nat_lt e.0 (column_count is_static schema)) cells) (have_short_values cells) h

within : (n m : ℕ) → nat_lt n m ≡ true → n < m
within n m h = grind (arith, nat_tests)

are_below : (n : ℕ) (cells : List (ℕ × Cell)) → list_all (λ e. nat_lt e.0 n) cells ≡ true → AreBelow n cells
are_below n [] h = tt
are_below n (e ∷ cells) h = let halves = both (nat_lt e.0 n) (list_all (λ e. nat_lt e.0 n) cells) h in (within e.0 n halves.0, are_below n cells halves.1)

-- ---- the names of a schema

front_names : (xs ys : List (List ℕ)) → list_all is_name (xs ++ ys) ≡ true → (list_all is_name xs ≡ true) × (list_all is_name ys ≡ true)
front_names [] ys h = (refl, h)
front_names (x ∷ xs) ys h =
    let halves = both (is_name x) (list_all is_name (xs ++ ys)) h in
    let rest = front_names xs ys halves.1 in
    (join (is_name x) (list_all is_name xs) halves.0 rest.0, rest.1)

none_more : (b c d : Bool) → not (b || c) ≡ true → (not c ≡ true → not d ≡ true) → not (b || d) ≡ true
none_more true c d h f = absurd (cc)
none_more false c d h f = f h

none_before : (x : List ℕ) (xs ys : List (List ℕ)) → not (list_any (is_word x) (xs ++ ys)) ≡ true → not (list_any (is_word x) xs) ≡ true
none_before x [] ys h = refl
none_before x (y ∷ xs) ys h = none_more (is_word x y) (list_any (is_word x) (xs ++ ys)) (list_any (is_word x) xs) h (none_before x xs ys)

front_distinct : (xs ys : List (List ℕ)) → are_distinct_by is_word (xs ++ ys) ≡ true → (are_distinct_by is_word xs ≡ true) × (are_distinct_by is_word ys ≡ true)
front_distinct [] ys h = (refl, h)
front_distinct (x ∷ xs) ys h =
    let halves = both (not (list_any (is_word x) (xs ++ ys))) (are_distinct_by is_word (xs ++ ys)) h in
    let rest = front_distinct xs ys halves.1 in
    (join (not (list_any (is_word x) xs)) (are_distinct_by is_word xs) (none_before x xs ys halves.0) rest.0, rest.1)

-- names that are names, none of them twice
abbrev AreNames : List (List ℕ) → Type 0
AreNames names = (list_all is_name names ≡ true) × (are_distinct_by is_word names ≡ true)

schema_names : (schema : SchemaValue) → is_schema schema ≡ true → AreNames schema.statics × AreNames schema.cols
schema_names schema h =
    let halves = both (are_few (length schema.ck) (length schema.statics) (length schema.cols)) (are_names (schema.statics ++ schema.cols)) h in
    let tests = both (list_all is_name (schema.statics ++ schema.cols)) (are_distinct_by is_word (schema.statics ++ schema.cols)) halves.1 in
    let names = front_names schema.statics schema.cols tests.0 in
    let apart = front_distinct schema.statics schema.cols tests.1 in
    ((names.0, apart.0), (names.1, apart.1))

-- how many kinds and columns a schema has
abbrev AreFew : SchemaValue → Type 0
AreFew schema = ((1 ≤ length schema.ck) × (length schema.ck ≤ 4)) × ((length schema.statics ≤ 8) × (length schema.cols ≤ 32))

few_names : (schema : SchemaValue) → is_schema schema ≡ true → AreFew schema
few_names schema h =
    let halves = both (are_few (length schema.ck) (length schema.statics) (length schema.cols)) (are_names (schema.statics ++ schema.cols)) h in
    let few = both (nat_le 1 (length schema.ck) && nat_le (length schema.ck) 4) (nat_le (length schema.statics) 8 && nat_le (length schema.cols) 32) halves.0 in
    let ck = both (nat_le 1 (length schema.ck)) (nat_le (length schema.ck) 4) few.0 in
    let names = both (nat_le (length schema.statics) 8) (nat_le (length schema.cols) 32) few.1 in
    ((up_to 1 (length schema.ck) ck.0, up_to (length schema.ck) 4 ck.1), (up_to (length schema.statics) 8 names.0, up_to (length schema.cols) 32 names.1))

-- ---- what is written means the write

written_back : (schema : SchemaValue) (key : List ℕ) (change : Change) (m : Mutation) → is_wrong_change schema change ≡ false → is_unknown_change schema change ≡ false → is_partition_key key ≡ true
    → is_short_change schema change ≡ true → mutation_of schema change ≡ m → meaning schema (Written key change) ≡ Ok (Put (record { key = key; change = m }))
unfolding meaning refusal_of
written_back schema key change m wrong unknown short_key short e =
    λ i. unless (if wrong i then Some WrongKey else if unknown i then Some UnknownColumn else if short_key i && short i then None else Some TooLong) (Put (record { key = key; change = e i }))

row_meant : (schema : SchemaValue) (key : List ℕ) (ck : List Comp) (row : Row) → AreNames schema.cols → is_partition_key key ≡ true → IsRowOf schema ck row → AreComponents ck → IsRow row → is_written row ≡ true
    → meaning schema (Written key (change_said schema (row_alone ck row))) ≡ Ok (Put (record { key = key; change = row_alone ck row }))
row_meant schema key ck row names short_key is comps_are sorted written =
    let prefix = prefix_passes true schema ck is.0 in
    let tests = cells_pass false schema row.cells is.1 in
    let below = are_below (length schema.cols) row.cells tests.0 in
    let p : key_under (pieces_said ck) schema.ck ≡ Some ck = key_back ck schema.ck prefix.0 comps_are in
    let q : by_column schema.cols (cells_said schema.cols row.cells) ≡ row.cells = columns_back schema.cols row.cells names.1 below sorted in
    written_back schema key (change_said schema (row_alone ck row)) (row_alone ck row) (ap is_none p) (ap not (known schema.cols row.cells below)) short_key
    ((λ i. are_short (unwrap_or (p i) []) && have_short_values (q i)) ∙ join (are_short ck) (have_short_values row.cells) prefix.1 tests.1)
    ((λ i. record { pt = None; statics = empty_row; rows = rows_said (unwrap_or (p i) []) (record { marker = row.marker; tomb = row.tomb; cells = q i }); ranges = [] })
    ∙ ap (λ b. record { pt = None; statics = empty_row; rows = if b then (ck, row) ∷ [] else []; ranges = [] }) written)

static_meant : (schema : SchemaValue) (key : List ℕ) (row : Row) → AreNames schema.statics → is_partition_key key ≡ true → IsStaticOf schema row → IsRow row
    → meaning schema (Written key (change_said schema (static_alone row))) ≡ Ok (Put (record { key = key; change = static_alone row }))
static_meant schema key row names short_key is sorted =
    let tests = cells_pass true schema row.cells is.2 in
    let below = are_below (length schema.statics) row.cells tests.0 in
    let q : by_column schema.statics (cells_said schema.statics row.cells) ≡ row.cells = columns_back schema.statics row.cells names.1 below sorted in
    written_back schema key (change_said schema (static_alone row)) (static_alone row) refl (ap not (known schema.statics row.cells below)) short_key
    (ap have_short_values q ∙ tests.1)
    (λ i. record { pt = None; statics = record { marker = sym is.0 i; tomb = sym is.1 i; cells = q i }; rows = []; ranges = [] })

range_meant : (schema : SchemaValue) (key : List ℕ) (piece : Piece) → is_partition_key key ≡ true → IsRangeBound schema piece.from → IsRangeBound schema piece.to → AreComponents piece.from.prefix → AreComponents piece.to.prefix
    → IsBefore piece.from piece.to → meaning schema (Written key (change_said schema (range_alone piece))) ≡ Ok (Put (record { key = key; change = range_alone piece }))
range_meant schema key piece short_key f t c d before =
    let from = prefix_passes false schema piece.from.prefix f.1 in
    let to = prefix_passes false schema piece.to.prefix t.1 in
    let p : slice_under (start_said piece.from) (end_said piece.to) schema.ck ≡ Some (record { from = piece.from; to = piece.to }) =
    slice_back piece.from piece.to schema.ck (both _ _ from.0).0 (both _ _ to.0).0 f.0 t.0 c d before in
    written_back schema key (change_said schema (range_alone piece)) (range_alone piece) (ap is_none p) refl short_key
    ((λ i. is_short_slice (unwrap_or (p i) whole_slice)) ∙ join (are_short piece.from.prefix) (are_short piece.to.prefix) from.1 to.1)
    (λ i. record { pt = None; statics = empty_row; rows = []; ranges = record { from = (unwrap_or (p i) whole_slice).from; to = (unwrap_or (p i) whole_slice).to; tomb = piece.tomb } ∷ [] })

partition_meant : (schema : SchemaValue) (key : List ℕ) (tomb : Tomb) → is_partition_key key ≡ true
    → meaning schema (Written key (change_said schema (partition_alone tomb))) ≡ Ok (Put (record { key = key; change = partition_alone tomb }))
partition_meant schema key tomb short_key = written_back schema key (OfPartition tomb) (partition_alone tomb) refl refl short_key refl refl

-- ---- what a line says of the write is sayable

digits_bytes : (ds : List ℕ) → AllDigits 10 ds → AreBytes ds
digits_bytes [] d = tt
digits_bytes (c ∷ cs) d = (let is = digit_from_value c d.0 in grind (arith, nat_tests), digits_bytes cs d.1)

number_bytes : (n : ℕ) → n < 2 ^ 64 → AreBytes (decimal n)
number_bytes n small = digits_bytes (decimal n) (decimal_is_IsNumeral n small).0.1

signed_bytes : (number : ℤ) → FitsSigned w64 number → AreBytes (signed_decimal number)
signed_bytes (pos n) fits = number_bytes n (omega (arith, ints))
signed_bytes (negsuc n) fits = (omega arith, number_bytes (suc n) (omega (arith, ints)))

component_bytes : (component : Comp) → IsComponent component → AreBytes (bytes_of_component component)
component_bytes (comps.Int number) is = signed_bytes number is
component_bytes (comps.Text bytes) is = is

pieces_bytes : (prefix : List Comp) → AreComponents prefix → AllByRecursion AreBytes (pieces_said prefix)
pieces_bytes [] is = tt
pieces_bytes (component ∷ prefix) is = (component_bytes component is.0, pieces_bytes prefix is.1)

at_most : (prefix : List Comp) (kinds : List CkKind) → are_of_kinds prefix kinds ≡ true → length prefix ≤ length kinds
at_most [] kinds h = omega arith
at_most (component ∷ prefix) [] h = absurd (cc)
at_most (component ∷ prefix) (kind ∷ kinds) h = omega (arith, at_most prefix kinds (both (is_of_kind component kind) (are_of_kinds prefix kinds) h).1)

prefix_sayable : (prefix : List Comp) → AreComponents prefix → 1 ≤ length prefix → length prefix ≤ 4 → IsPrefix (pieces_said prefix)
prefix_sayable prefix is some few = (pieces_bytes prefix is, omega (arith, as_many prefix), omega (arith, as_many prefix))

limit_sayable : (inclusive : Bool) (prefix : List Comp) → AreComponents prefix → length prefix ≤ 4 → (prefix ≡ [] → inclusive ≡ true) → IsLimit inclusive (pieces_said prefix)
limit_sayable inclusive [] is few h = h refl
limit_sayable inclusive (component ∷ prefix) is few h = prefix_sayable (component ∷ prefix) is (omega arith) few

first_weight : (w : Weight) (prefix : List Comp) (other : Weight) → prefix_cmp [] w prefix other ≡ Less → w ≢ At → is_before w ≡ true
first_weight Before prefix other h out = refl
first_weight At prefix other h out = absurd (out refl)
first_weight After [] Before h out = absurd (cc)
first_weight After [] At h out = absurd (cc)
first_weight After [] After h out = absurd (cc)
first_weight After (component ∷ prefix) other h out = absurd (cc)

last_weight : (w : Weight) (prefix : List Comp) (other : Weight) → prefix_cmp prefix other [] w ≡ Less → w ≢ At → not (is_before w) ≡ true
last_weight After prefix other h out = refl
last_weight At prefix other h out = absurd (out refl)
last_weight Before [] Before h out = absurd (cc)
last_weight Before [] At h out = absurd (cc)
last_weight Before [] After h out = absurd (cc)
last_weight Before (component ∷ prefix) other h out = absurd (cc)

start_sayable : (from to : Pos) → IsBefore from to → from.weight ≢ At → AreComponents from.prefix → length from.prefix ≤ 4 → IsLimit (is_before from.weight) (pieces_said from.prefix)
unfolding pos_cmp
start_sayable from to before out is few =
    limit_sayable (is_before from.weight) from.prefix is few (λ e. first_weight from.weight to.prefix to.weight (subst (λ (p : List Comp). prefix_cmp p from.weight to.prefix to.weight ≡ Less) e before) out)

end_sayable : (from to : Pos) → IsBefore from to → to.weight ≢ At → AreComponents to.prefix → length to.prefix ≤ 4 → IsLimit (not (is_before to.weight)) (pieces_said to.prefix)
unfolding pos_cmp
end_sayable from to before out is few =
    limit_sayable (not (is_before to.weight)) to.prefix is few (λ e. last_weight to.weight from.prefix from.weight (subst (λ (p : List Comp). prefix_cmp from.prefix from.weight p to.weight ≡ Less) e before) out)

named_cells : (stamp : Stamp) (names : List (List ℕ)) (cells : List (ℕ × Cell)) → list_all is_name names ≡ true → AreBelow (length names) cells → AllByRecursion (λ e. IsStamped stamp e.1) cells
    → AllByRecursion (IsNamedCell stamp) (cells_said names cells)
named_cells stamp names [] h below are = tt
named_cells stamp names (e ∷ cells) h below are = ((name_at names e.0 h below.0, are.0), named_cells stamp names cells h below.1 are.1)

cells_sayable : (stamp : Stamp) (names : List (List ℕ)) (row : Row) (cells : List (ℕ × Cell)) → AreNames names → AreBelow (length names) cells → row.cells ≡ cells → IsRow row → AreStamped stamp cells
    → AreSayableCells stamp (cells_said names cells)
cells_sayable stamp names row cells h below e sorted are =
    (are.0, (named_cells stamp names cells h.0 below are.1, names_apart names cells h.1 below (subst (λ (cs : List (ℕ × Cell)). is_sorted nat_cmp cs ≡ true) e sorted)))

row_sayable : (ck : List (List ℕ)) (names : List (List ℕ)) (marker : Option ℤ) (tomb : Option Tomb) (row : Row) (cells : List (ℕ × Cell)) → IsPrefix ck → AreNames names → AreBelow (length names) cells → row.cells ≡ cells → IsRow row
    → HasOneStamp marker tomb cells → IsSayableChange (OfRow ck marker tomb (cells_said names cells))
row_sayable ck names (Some ts) tomb row cells p h below e sorted one = (p, cells_sayable (Alive ts) names row cells h below e sorted one)
row_sayable ck names None (Some tomb) row cells p h below e sorted one = (p, one)
row_sayable ck names None None row [] p h below e sorted one = tt
row_sayable ck names None None row (c ∷ cells) p h below e sorted one = (p, cells_sayable (cell_stamp c.1) names row (c ∷ cells) h below e sorted one)

static_sayable : (names : List (List ℕ)) (row : Row) (cells : List (ℕ × Cell)) → AreNames names → AreBelow (length names) cells → row.cells ≡ cells → IsRow row → HasOneStamp None None cells
    → IsSayableChange (OfStatic (cells_said names cells))
static_sayable names row [] h below e sorted one = tt
static_sayable names row (c ∷ cells) h below e sorted one = cells_sayable (cell_stamp c.1) names row (c ∷ cells) h below e sorted one

key_sayable : (key : List ℕ) → IsPartitionKey key → IsSomeKey key
key_sayable key is = (is.0, up_to 1 (length key) (both (nat_le 1 (length key)) (nat_le (length key) longest_partition_key) is.1).0)

row_written : (key : List ℕ) (ck names : List (List ℕ)) (marker : Option ℤ) (tomb : Option Tomb) (cells : List (ℕ × Cell)) (line : List ℕ)
    → shape_line (Written key (OfRow ck marker tomb (cells_said names cells))) ≡ Some line → is_written (record { marker = marker; tomb = tomb; cells = cells }) ≡ true
row_written key ck names (Some ts) tomb cells line h = refl
row_written key ck names None (Some tomb) cells line h = refl
row_written key ck names None None [] line h = absurd (cc)
row_written key ck names None None (e ∷ cells) line h = refl

-- ---- the commands

-- what the line of a write says is sayable, and means the write; and the line is not too long
abbrev IsBack : SchemaValue → List ℕ → Mutation → Type 0
IsBack schema key m = (line : List ℕ) → shape_line (Written key (change_said schema m)) ≡ Some line
    → IsSayable (Written key (change_said schema m)) × ((meaning schema (Written key (change_said schema m)) ≡ Ok (Put (record { key = key; change = m }))) × (length line ≤ 65536))

module _ (schema : SchemaValue) (is : is_schema schema ≡ true) (key : List ℕ) (is_key : IsPartitionKey key) where
  key_short : length (printed_bytes key) ≤ 192
  key_short = omega (arith, spelled_short key, up_to (length key) longest_partition_key (both (nat_le 1 (length key)) (nat_le (length key) longest_partition_key) is_key.1).1)

  row_back : (ck : List Comp) (row : Row) → ChangeFits schema (row_alone ck row) → IsSayableWrite (row_alone ck row) → IsBack schema key (row_alone ck row)
  row_back ck row fits can line made =
      let fit = All-head (λ e. IsRowOf schema e.0 e.1) (ck, row) [] fits.rows in
      let prefix = prefix_passes true schema ck fit.0 in
      let kinds = both (are_of_kinds ck schema.ck) (length ck == length schema.ck) prefix.0 in
      let few = few_names schema is in
      let full : length ck ≡ length schema.ck = (let test = kinds.1 in grind (arith, nat_tests)) in
      let most : length ck ≤ 4 = omega (arith, full, few.0.1) in
      let names = (schema_names schema is).1 in
      let tests = cells_pass false schema row.cells fit.1 in
      let below = are_below (length schema.cols) row.cells tests.0 in
      let count : length row.cells ≤ 32 = omega (arith, few_cells (length schema.cols) row.cells below can.rows.0.1.0, few.1.1) in (
        (
          key_sayable key is_key,
          row_sayable (pieces_said ck) schema.cols row.marker row.tomb row row.cells (prefix_sayable ck can.rows.0.0 (omega (arith, full, few.0.0)) most) names below refl can.rows.0.1.0 can.rows.0.1.1,
        ),
        (
          row_meant schema key ck row names is_key.1 fit can.rows.0.0 can.rows.0.1.0 (row_written key (pieces_said ck) schema.cols row.marker row.tomb row.cells line made),
          row_short key line key_short schema.cols names.0 few.1.1 ck row.marker row.tomb row.cells (prefix.1, (can.rows.0.0, most)) below tests.1 count can.rows.0.1.1 made,
        ),
      )

  static_back : (row : Row) → ChangeFits schema (static_alone row) → IsSayableWrite (static_alone row) → IsBack schema key (static_alone row)
  static_back row fits can line made =
      let few = few_names schema is in
      let names = (schema_names schema is).0 in
      let tests = cells_pass true schema row.cells fits.statics.2 in
      let below = are_below (length schema.statics) row.cells tests.0 in
      let few_columns : length schema.statics ≤ 32 = omega (arith, few.1.0) in
      let count : length row.cells ≤ 32 = omega (arith, few_cells (length schema.statics) row.cells below can.statics.0, few.1.0) in
      let one : HasOneStamp None None row.cells =
      subst (λ (t : Option Tomb). HasOneStamp None t row.cells) fits.statics.1 (subst (λ (ts : Option ℤ). HasOneStamp ts row.tomb row.cells) fits.statics.0 can.statics.1) in (
        (key_sayable key is_key, static_sayable schema.statics row row.cells names below refl can.statics.0 one),
        (
          static_meant schema key row names is_key.1 fits.statics can.statics.0,
          static_short key line key_short schema.statics names.0 few_columns row.cells below tests.1 count one made,
        ),
      )

  -- a prefix of the schema's kinds
  few_components : (prefix : List Comp) → is_key_of false schema prefix ≡ true → AreComponents prefix → IsShortPrefix prefix
  few_components prefix h is_said =
      let tests = prefix_passes false schema prefix h in
      let most = at_most prefix schema.ck (both (are_of_kinds prefix schema.ck) true tests.0).0 in
      (tests.1, (is_said, omega (arith, most, (few_names schema is).0.1)))

  bounds_sayable : (from to : Pos) → IsRangeBound schema from → IsRangeBound schema to → AreComponents from.prefix → AreComponents to.prefix → IsBefore from to
      → IsLimit (is_before from.weight) (pieces_said from.prefix) × IsLimit (not (is_before to.weight)) (pieces_said to.prefix)
  bounds_sayable from to f t c d before =
      (start_sayable from to before f.0 c (few_components from.prefix f.1 c).1.1, end_sayable from to before t.0 d (few_components to.prefix t.1 d).1.1)

  range_back : (piece : Piece) → ChangeFits schema (range_alone piece) → IsSayableWrite (range_alone piece) → IsBack schema key (range_alone piece)
  range_back piece fits can line made =
      let fit = All-head (λ q. IsRangeBound schema q.from × IsRangeBound schema q.to) piece [] fits.ranges in
      let one = can.ranges.0 in
      let bounds = bounds_sayable piece.from piece.to fit.0 fit.1 one.1.0 one.1.1.0 one.0 in (
        (key_sayable key is_key, (bounds.0, bounds.1, one.1.1.1)),
        (
          range_meant schema key piece is_key.1 fit.0 fit.1 one.1.0 one.1.1.0 one.0,
          piece_short key line key_short piece.from piece.to piece.tomb (few_components piece.from.prefix fit.0.1 one.1.0) (few_components piece.to.prefix fit.1.1 one.1.1.0) one.1.1.1 made,
        ),
      )

  partition_back : (tomb : Tomb) → IsSayableWrite (partition_alone tomb) → IsBack schema key (partition_alone tomb)
  partition_back tomb can line made = ((key_sayable key is_key, can.pt), (partition_meant schema key tomb is_key.1, partition_short key line key_short tomb can.pt made))

  place_back : (m : Mutation) → IsOnePlace m → ChangeFits schema m → IsSayableWrite m → IsBack schema key m
  place_back m (inl (ck, row, e)) = subst (λ (m : Mutation). ChangeFits schema m → IsSayableWrite m → IsBack schema key m) (sym e) (row_back ck row)
  place_back m (inr (inl (row, e))) = subst (λ (m : Mutation). ChangeFits schema m → IsSayableWrite m → IsBack schema key m) (sym e) (static_back row)
  place_back m (inr (inr (inl (piece, e)))) = subst (λ (m : Mutation). ChangeFits schema m → IsSayableWrite m → IsBack schema key m) (sym e) (range_back piece)
  place_back m (inr (inr (inr (tomb, e)))) = subst (λ (m : Mutation). ChangeFits schema m → IsSayableWrite m → IsBack schema key m) (sym e) (λ fits can. partition_back tomb can)

  open_meant : (id : ℕ) (slice : Slice) → CommandFits schema (OpenRead id key slice) → AreComponents slice.from.prefix → AreComponents slice.to.prefix
      → meaning schema (Open id key (start_said slice.from) (end_said slice.to)) ≡ Ok (OpenRead id key slice)
  unfolding meaning refusal_of
  open_meant id slice fits c d =
      let from = prefix_passes false schema slice.from.prefix fits.1.1 in
      let to = prefix_passes false schema slice.to.prefix fits.2.1 in
      let p : slice_under (start_said slice.from) (end_said slice.to) schema.ck ≡ Some slice =
      slice_back slice.from slice.to schema.ck (both (are_of_kinds slice.from.prefix schema.ck) true from.0).0 (both (are_of_kinds slice.to.prefix schema.ck) true to.0).0 fits.1.0 fits.2.0 c d fits.0 in
      let short = join (are_short slice.from.prefix) (are_short slice.to.prefix) from.1 to.1 in
      (λ i. unless (if is_none (p i) then Some WrongKey else if is_key.1 i && is_short_slice (unwrap_or (p i) whole_slice) then None else Some TooLong) (OpenRead id key (unwrap_or (p i) whole_slice)))
      ∙ (λ i. unless (if short i then None else Some TooLong) (OpenRead id key slice))

same_line : (made line : List ℕ) → ◌≡◌ {A = Option (List ℕ)} (Some made) (Some line) → made ≡ line
same_line made line e = cc

schema_back : (schema lists : SchemaValue) (line : List ℕ) → is_schema lists ≡ true → command_line schema (SetSchema lists) ≡ Some line → parse (Some schema) line ≡ Ok (SetSchema lists)
unfolding parse_by_shape schema_said without_front
schema_back schema lists line is e =
    let few = few_names lists is in
    let names = schema_names lists is in
    let made : codes "schema " ++ schema_text lists ≡ line = same_line (codes "schema " ++ schema_text lists) line e in
    let fits : nat_lt longest_line (length (codes "schema " ++ schema_text lists)) ≡ false =
    (let short : length (codes "schema " ++ schema_text lists) ≤ 65536 = schema_short lists few.0.1 few.1.0 few.1.1 names.0.0 names.1.0 in grind (arith, nat_tests)) in
    subst (λ (l : List ℕ). parse (Some schema) l ≡ Ok (SetSchema lists)) made
    (by_shape (Some schema) (codes "schema " ++ schema_text lists)
    ∙ (λ i. if fits i then Err BadLine else line_meaning (Some schema) (codes "schema " ++ schema_text lists) (text_reads_back lists is i)))

-- the line of a command that fits the schema is read back as it
pub command_back : (schema : SchemaValue) (command : Command) (line : List ℕ) → is_schema schema ≡ true → CommandFits schema command → IsSayableCommand command → command_line schema command ≡ Some line
    → parse (Some schema) line ≡ Ok command
command_back schema Nothing line is fits can e = plain_back schema Nothing line e can
command_back schema (SetSchema lists) line is fits can e = schema_back schema lists line can e
command_back schema (Put write) line is fits can e =
    let back = place_back schema is write.key can.0 write.change (single-place write.change fits.0) fits.1 can.1 line e in
    meaning_back (Some schema) (Written write.key (change_said schema write.change)) line e back.0 back.1.1 ∙ back.1.0
command_back schema (OpenRead id key slice) line is fits can e =
    let bounds = bounds_sayable schema is key can.1.0 slice.from slice.to fits.1 fits.2 can.1.1.0 can.1.1.1 fits.0 in
    let short = open_short key line (key_short schema is key can.1.0) id slice.from slice.to can.0 (few_components schema is key can.1.0 slice.from.prefix fits.1.1 can.1.1.0) (few_components schema is key can.1.0 slice.to.prefix fits.2.1 can.1.1.1) e in
    meaning_back (Some schema) (Open id key (start_said slice.from) (end_said slice.to)) line e (can.0, key_sayable key can.1.0, bounds.0, bounds.1) short
    ∙ open_meant schema is key can.1.0 id slice fits can.1.1.0 can.1.1.1
command_back schema (Read id count) line is fits can e = plain_back schema (Read id count) line e can
command_back schema (Close id) line is fits can e = plain_back schema (Close id) line e can
command_back schema Flush line is fits can e = plain_back schema Flush line e can
command_back schema FlushBegin line is fits can e = plain_back schema FlushBegin line e can
command_back schema (FlushStep count) line is fits can e = plain_back schema (FlushStep count) line e can
command_back schema (Evict count) line is fits can e = plain_back schema (Evict count) line e can
command_back schema (Compact count) line is fits can e = plain_back schema (Compact count) line e can
command_back schema (Clean count) line is fits can e = plain_back schema (Clean count) line e can
command_back schema Stats line is fits can e = plain_back schema Stats line e can
