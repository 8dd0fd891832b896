-- What the checks let through is within the limits of the codes, makes no larger objects than the schema's largest, and is joined to what they let through.
use Rattle.std.specs.Prelude.{ℕ, Bool, true, false, ◌≡◌, ◌&&◌, ◌==◌, ◌≤◌, ◌<◌, nat_le, nat_lt, List, [], ◌∷◌, ◌++◌, length, None, Result, Ok, Err, IsTrue, All, if◌then◌else◌}
use Rattle.std.proofs.Common.{refl, ap, ◌∙◌, arith, length-append}
use Rattle.std.specs.Result.{is_ok}
use Rattle.std.specs.List.{list_all, flat_map, AllByRecursion}
use Rattle.std.proofs.lemmas.Bool.{leb-true, ltb-true}
use Rattle.std.proofs.lemmas.List.Elements.{All-from_recursion}
use Rattle.rc_cell.specs.declared.writes.Cell.{Cell}
use Rattle.rc_cell.specs.declared.writes.Cell.TheVariants.{Live, Dead}
use Rattle.rc_cell.specs.declared.rows.Row.{Row}
use Rattle.rc_cell.specs.Columns.{ascending}
use Rattle.rc_cell.specs.Winner.{IsRow, joined_row}
use Rattle.rc_cell.specs.laws.Each.{test_joined}
use Rattle.rc_position.specs.declared.comps.Comp.{Comp}
use Rattle.rc_position.specs.declared.comps.Comp.TheVariants as comps
use Rattle.rc_position.specs.declared.positions.Pos.{Pos}
use Rattle.rc_rowcode.specs.Spelling.{stamp_code, optional_code, tomb_code, comp_code, entry_code, CompFits, KeyFits, CellFits, EntryFits}
use Rattle.rc_rowcode.specs.Objects.{dummy_size, entry_size, static_size}
use Rattle.lsa_kinds.specs.Kinds.{up8}
use Rattle.rc_rowcode.specs.laws.Sizes.{length-stamp, length-row_code, marker_code_small, tomb_code_small, entries_small, few_below}
use Rattle.rc_schema.specs.declared.kinds.CkKind.{CkKind}
use Rattle.rc_schema.specs.declared.kinds.CkKind.TheVariants.{Int, Text}
use Rattle.rc_schema.specs.declared.checks.SchemaErr.{SchemaErr}
use Rattle.rc_schema.specs.declared.checks.SchemaErr.TheVariants.{WrongKey, UnknownColumn, TooLong}
use Rattle.rc_schema.specs.SchemaValue.{SchemaValue, is_schema, are_few, are_names}
use Rattle.rc_schema.specs.Checks.{is_of_kind, are_of_kinds, fits_kinds, is_short, has_short_value, is_key_of, are_cells_of, checked_prefix, checked_cells, column_count}
use Rattle.rc_schema.specs.Largest.{component_size, components_size, cells_size, largest_entry, largest_static}

-- what a check answers
abbrev Checked : Type 0
Checked = Result (Unit {0}) SchemaErr

both : (b c : Bool) → b && c ≡ true → (b ≡ true) × (c ≡ true)
both true c h = (refl, h)
both false c h = absurd (cc)

-- nothing is refused where both tests pass
passed : (e f : SchemaErr) (a b : Bool) → ◌≡◌ {A = Checked} (if a then (if b then Ok tt else Err e) else Err f) (Ok tt) → (a ≡ true) × (b ≡ true)
passed e f true true h = (refl, refl)
passed e f true false h = absurd (cc)
passed e f false b h = absurd (cc)

prefix_tests : (full : Bool) (s : SchemaValue) (key : List Comp) → checked_prefix full s key ≡ Ok tt → (are_of_kinds key s.ck ≡ true) × (list_all is_short key ≡ true)
unfolding checked_prefix
prefix_tests full s key h =
    let tests = passed TooLong WrongKey (fits_kinds full s.ck key) (list_all is_short key) h in
    ((both (are_of_kinds key s.ck) (if full then length key == length s.ck else true) tests.0).0, tests.1)

cells_tests : (is_static : Bool) (s : SchemaValue) (cells : List (ℕ × Cell)) → checked_cells is_static s cells ≡ Ok tt
    → (list_all (λ e. nat_lt e.0 (column_count is_static s)) cells ≡ true) × (list_all (λ e. has_short_value e.1) cells ≡ true)
unfolding checked_cells
cells_tests is_static s cells h = passed TooLong UnknownColumn (list_all (λ e. nat_lt e.0 (column_count is_static s)) cells) (list_all (λ e. has_short_value e.1) cells) h

-- what is refused is what does not fit

two_tests : (e f : SchemaErr) (a b : Bool) → is_ok {T = Unit {0}} {E = SchemaErr} (if a then (if b then Ok tt else Err e) else Err f) ≡ a && b
two_tests e f true true = refl
two_tests e f true false = refl
two_tests e f false b = refl

pub key_tested : (full : Bool) (s : SchemaValue) (key : List Comp) → is_ok (checked_prefix full s key) ≡ is_key_of full s key
unfolding checked_prefix
key_tested full s key = two_tests TooLong WrongKey (fits_kinds full s.ck key) (list_all is_short key)

pub cells_tested : (is_static : Bool) (s : SchemaValue) (cells : List (ℕ × Cell)) → is_ok (checked_cells is_static s cells) ≡ are_cells_of (column_count is_static s) cells
unfolding checked_cells
cells_tested is_static s cells = two_tests TooLong UnknownColumn (list_all (λ e. nat_lt e.0 (column_count is_static s)) cells) (list_all (λ e. has_short_value e.1) cells)

fine : (r : Checked) → is_ok r ≡ true → r ≡ Ok tt
fine (Ok u) h = refl
fine (Err e) h = absurd (cc)

pub key_passes : (full : Bool) (s : SchemaValue) (key : List Comp) → is_key_of full s key ≡ true → checked_prefix full s key ≡ Ok tt
key_passes full s key h = fine (checked_prefix full s key) (key_tested full s key ∙ h)

pub cells_pass : (is_static : Bool) (s : SchemaValue) (cells : List (ℕ × Cell)) → are_cells_of (column_count is_static s) cells ≡ true → checked_cells is_static s cells ≡ Ok tt
cells_pass is_static s cells h = fine (checked_cells is_static s cells) (cells_tested is_static s cells ∙ h)

-- ---- within the limits of the codes

fewer : (key : List Comp) (kinds : List CkKind) → are_of_kinds key kinds ≡ true → length key ≤ length kinds
fewer [] kinds h = omega arith
fewer (c ∷ key) [] h = absurd (cc)
fewer (c ∷ key) (k ∷ kinds) h = omega (arith, fewer key kinds (both (is_of_kind c k) (are_of_kinds key kinds) h).1)

short_comp : (c : Comp) → is_short c ≡ true → CompFits c
short_comp (comps.Int number) h = tt
short_comp (comps.Text bytes) h = leb-true (length bytes) 64 h

short_comps : (key : List Comp) → list_all is_short key ≡ true → AllByRecursion CompFits key
short_comps [] h = tt
short_comps (c ∷ key) h =
    let p = both (is_short c) (list_all is_short key) h in
    (short_comp c p.0, short_comps key p.1)

few_parts : (s : SchemaValue) → IsTrue (is_schema s) → (length s.ck ≤ 4) × (length s.statics ≤ 8) × (length s.cols ≤ 32)
few_parts s h =
    let few = (both (are_few (length s.ck) (length s.statics) (length s.cols)) (are_names (s.statics ++ s.cols)) h).0 in
    let halves = both (nat_le 1 (length s.ck) && nat_le (length s.ck) 4) (nat_le (length s.statics) 8 && nat_le (length s.cols) 32) few in
    let names = both (nat_le (length s.statics) 8) (nat_le (length s.cols) 32) halves.1 in
    (leb-true (length s.ck) 4 (both (nat_le 1 (length s.ck)) (nat_le (length s.ck) 4) halves.0).1, leb-true (length s.statics) 8 names.0, leb-true (length s.cols) 32 names.1)

few_columns : (is_static : Bool) (s : SchemaValue) → IsTrue (is_schema s) → column_count is_static s ≤ 32
few_columns true s h = let few = few_parts s h in omega (arith, few.1)
few_columns false s h = (few_parts s h).2

pub tested_key : (full : Bool) (s : SchemaValue) (key : List Comp) → IsTrue (is_schema s) → fits_kinds full s.ck key ≡ true → list_all is_short key ≡ true → KeyFits key
tested_key full s key is g h =
    let kinds = both (are_of_kinds key s.ck) (if full then length key == length s.ck else true) g in
    (omega (arith, fewer key s.ck kinds.0, (few_parts s is).0), All-from_recursion CompFits key (short_comps key h))

pub key_fits : (full : Bool) (s : SchemaValue) (key : List Comp) → IsTrue (is_schema s) → checked_prefix full s key ≡ Ok tt → KeyFits key
unfolding checked_prefix
key_fits full s key is h =
    let tests = passed TooLong WrongKey (fits_kinds full s.ck key) (list_all is_short key) h in
    tested_key full s key is tests.0 tests.1

short_cell : (c : Cell) → has_short_value c ≡ true → CellFits c
short_cell (Live ts value) h = leb-true (length value) 256 h
short_cell (Dead ts dt) h = tt

entries_fit : (n : ℕ) (es : List (ℕ × Cell)) → n ≤ 32 → list_all (λ e. nat_lt e.0 n) es ≡ true → list_all (λ e. has_short_value e.1) es ≡ true → AllByRecursion EntryFits es
entries_fit n [] low g h = tt
entries_fit n (e ∷ es) low g h =
    let known = both (nat_lt e.0 n) (list_all (λ e. nat_lt e.0 n) es) g in
    let short = both (has_short_value e.1) (list_all (λ e. has_short_value e.1) es) h in
    let below : e.0 < n = ltb-true e.0 n known.0 in
    ((omega (arith, below), short_cell e.1 short.0), entries_fit n es low known.1 short.1)

pub cells_fit : (is_static : Bool) (s : SchemaValue) (cells : List (ℕ × Cell)) → IsTrue (is_schema s) → checked_cells is_static s cells ≡ Ok tt → All EntryFits cells
cells_fit is_static s cells is h =
    let tests = cells_tests is_static s cells h in
    All-from_recursion EntryFits cells (entries_fit (column_count is_static s) cells (few_columns is_static s is) tests.0 tests.1)

-- ---- no larger than the largest

comp_within : (c : Comp) (kind : CkKind) → is_of_kind c kind ≡ true → is_short c ≡ true → length (comp_code c) ≤ component_size kind
comp_within (comps.Int number) Int g h = omega (arith, length-stamp number)
comp_within (comps.Int number) Text g h = absurd (cc)
comp_within (comps.Text bytes) Int g h = absurd (cc)
comp_within (comps.Text bytes) Text g h = omega (arith, leb-true (length bytes) 64 h)

comps_within : (key : List Comp) (kinds : List CkKind) → are_of_kinds key kinds ≡ true → list_all is_short key ≡ true → length (flat_map comp_code key) ≤ components_size kinds
comps_within [] kinds g h = omega arith
comps_within (c ∷ key) [] g h = absurd (cc)
comps_within (c ∷ key) (kind ∷ kinds) g h =
    let of = both (is_of_kind c kind) (are_of_kinds key kinds) g in
    let short = both (is_short c) (list_all is_short key) h in
    omega (arith, length-append (comp_code c) (flat_map comp_code key), comp_within c kind of.0 short.0, comps_within key kinds of.1 short.1)

below_all : (n : ℕ) (es : List (ℕ × Cell)) → list_all (λ e. nat_lt e.0 n) es ≡ true → AllByRecursion (λ e. e.0 < n) es
below_all n [] h = tt
below_all n (e ∷ es) h =
    let p = both (nat_lt e.0 n) (list_all (λ e. nat_lt e.0 n) es) h in
    (ltb-true e.0 n p.0, below_all n es p.1)

cells_within : (is_static : Bool) (s : SchemaValue) (cells : List (ℕ × Cell)) → IsTrue (is_schema s) → checked_cells is_static s cells ≡ Ok tt → IsTrue (ascending cells) → length (flat_map entry_code cells) ≤ cells_size (column_count is_static s)
cells_within is_static s cells is h up =
    let tests = cells_tests is_static s cells h in
    omega (
      arith,
      entries_small cells (entries_fit (column_count is_static s) cells (few_columns is_static s is) tests.0 tests.1),
      few_below (column_count is_static s) cells up (below_all (column_count is_static s) cells tests.0),
    )

up8-mono : (m n : ℕ) → m ≤ n → up8 m ≤ up8 n
up8-mono m n h = omega (arith, h)

pub dummy_within : (full : Bool) (s : SchemaValue) (x : Pos) → checked_prefix full s x.prefix ≡ Ok tt → dummy_size x ≤ largest_entry s
dummy_within full s x h =
    let tests = prefix_tests full s x.prefix h in
    let within = comps_within x.prefix s.ck tests.0 tests.1 in
    up8-mono _ _ (omega (arith, within))

pub entry_within : (s : SchemaValue) (key : List Comp) (row : Row) → IsTrue (is_schema s) → checked_prefix true s key ≡ Ok tt → checked_cells false s row.cells ≡ Ok tt → IsRow row → entry_size key row ≤ largest_entry s
entry_within s key row is g h up =
    let tests = prefix_tests true s key g in
    let within = comps_within key s.ck tests.0 tests.1 in
    let cells = cells_within false s row.cells is h up in
    up8-mono _ _ (omega (arith, within, cells, length-row_code row, marker_code_small row.marker, tomb_code_small row.tomb))

pub static_within : (s : SchemaValue) (row : Row) → IsTrue (is_schema s) → row.marker ≡ None → row.tomb ≡ None → checked_cells true s row.cells ≡ Ok tt → IsRow row → static_size row ≤ largest_static s
static_within s row is m t h up =
    let cells = cells_within true s row.cells is h up in
    let marker : length (optional_code stamp_code row.marker) ≡ 1 = ap (λ o. length (optional_code stamp_code o)) m in
    let tomb : length (optional_code tomb_code row.tomb) ≡ 1 = ap (λ o. length (optional_code tomb_code o)) t in
    up8-mono _ _ (omega (arith, cells, length-row_code row, marker, tomb))

-- ---- joined

all_known : (is_static : Bool) (s : SchemaValue) (rows : List Row) → AllByRecursion (λ r. checked_cells is_static s r.cells ≡ Ok tt) rows → list_all (λ r. list_all (λ e. nat_lt e.0 (column_count is_static s)) r.cells) rows ≡ true
all_known is_static s [] h = refl
all_known is_static s (r ∷ rows) h = rw ((cells_tests is_static s r.cells h.0).0, all_known is_static s rows h.1) refl

all_short : (is_static : Bool) (s : SchemaValue) (rows : List Row) → AllByRecursion (λ r. checked_cells is_static s r.cells ≡ Ok tt) rows → list_all (λ r. list_all (λ e. has_short_value e.1) r.cells) rows ≡ true
all_short is_static s [] h = refl
all_short is_static s (r ∷ rows) h = rw ((cells_tests is_static s r.cells h.0).1, all_short is_static s rows h.1) refl

pub joined_fits : (is_static : Bool) (s : SchemaValue) (rows : List Row) → AllByRecursion (λ r. checked_cells is_static s r.cells ≡ Ok tt) rows → checked_cells is_static s (joined_row rows).cells ≡ Ok tt
unfolding checked_cells
joined_fits is_static s rows h =
    let known = test_joined (λ e. nat_lt e.0 (column_count is_static s)) rows (all_known is_static s rows h) in
    let short = test_joined (λ e. has_short_value e.1) rows (all_short is_static s rows h) in
    rw (known, short) refl
