-- How long spellings are.
use Rattle.std.proofs.Common.{◌≡◌, ℕ, suc, ◌+◌, ◌*◌, ◌<◌, ◌≤◌, List, [], ◌∷◌, ◌++◌, length, Option, Some, None, refl, arith, ℤ, T, length-append}
use Rattle.std.specs.Prelude.{IsTrue}
use Rattle.std.specs.List.{flat_map, AllByRecursion, All}
use Rattle.std.specs.FinMap.{is_sorted}
use Rattle.std.specs.Ordering.{nat_cmp}
use Rattle.std.proofs.lemmas.List.Elements.{recursion_from_All}
use Rattle.rc_cell.specs.declared.writes.Cell.{Cell}
use Rattle.rc_cell.specs.declared.writes.Cell.TheVariants.{Live, Dead}
use Rattle.rc_cell.specs.declared.writes.Tomb.{Tomb}
use Rattle.rc_cell.specs.declared.rows.Row.{Row}
use Rattle.rc_cell.specs.Columns.{ascending}
use Rattle.rc_cell.specs.Winner.{IsRow}
use Rattle.rc_cell.specs.laws.ByColumn.{test_of, first, second}
use Rattle.rc_position.specs.declared.comps.Comp.{Comp}
use Rattle.rc_position.specs.declared.comps.Comp.TheVariants.{Int, Text}
use Rattle.rc_position.specs.declared.positions.Pos.{Pos}
use Rattle.rc_rowcode.specs.Spelling.{stamp_code, time_code, length_code, optional_code, tomb_code, comp_code, key_code, pos_code, cell_code, entry_code, cells_code, row_code, CompFits, KeyFits, CellFits, EntryFits, RowFits}
use Rattle.rc_rowcode.specs.laws.RowCodec.{Above, all_above, above_zero}
use Rattle.std.specs.FinMap.Entries.{below_all}

pub length-stamp : (z : ℤ) → length (stamp_code z) ≡ 8
unfolding stamp_code
length-stamp z = refl

pub length-time : (n : ℕ) → length (time_code n) ≡ 4
unfolding time_code
length-time n = refl

pub length-length : (n : ℕ) → length (length_code n) ≡ 2
unfolding length_code
length-length n = refl

comp_small : (c : Comp) → CompFits c → length (comp_code c) ≤ 66
comp_small (Int n) fits = omega (arith, length-stamp n)
comp_small (Text bytes) fits = omega arith

pub comps_small : (cs : List Comp) → AllByRecursion CompFits cs → length (flat_map comp_code cs) ≤ 66 * length cs
comps_small [] fits = omega arith
comps_small (c ∷ cs) fits = omega (arith, length-append (comp_code c) (flat_map comp_code cs), comp_small c fits.0, comps_small cs fits.1)

entry_small : (e : ℕ × Cell) → EntryFits e → length (entry_code e) ≤ 268
entry_small e fits = cell_small e.1 fits.1
  where
    cell_small : (c : Cell) → CellFits c → suc (length (cell_code c)) ≤ 268
    cell_small (Live ts value) fits = omega (arith, length-append (stamp_code ts) (length_code (length value) ++ value), length-append (length_code (length value)) value, length-stamp ts, length-length (length value))
    cell_small (Dead ts dt) fits = omega (arith, length-append (stamp_code ts) (time_code dt), length-stamp ts, length-time dt)

pub entries_small : (es : List (ℕ × Cell)) → AllByRecursion EntryFits es → length (flat_map entry_code es) ≤ 268 * length es
entries_small [] fits = omega arith
entries_small (e ∷ es) fits = omega (arith, length-append (entry_code e) (flat_map entry_code es), entry_small e fits.0, entries_small es fits.1)

-- no more columns ascend than there are below the bound that each is below
few : (bound least : ℕ) (es : List (ℕ × Cell)) → least ≤ bound → AllByRecursion (Above least) es → T (is_sorted nat_cmp es) → AllByRecursion (λ e. e.0 < bound) es → least + length es ≤ bound
few bound least [] low a s under = omega arith
few bound least (e ∷ es) low a s under =
    let below : e.0 < bound = under.0 in
    let rest = few bound (e.0 + 1) es (omega arith) (all_above e.0 es (first (below_all nat_cmp e.0 es) (is_sorted nat_cmp es) s)) (second (below_all nat_cmp e.0 es) (is_sorted nat_cmp es) s) under.1 in
    omega (arith, rest, a.0)

pub few_below : (bound : ℕ) (es : List (ℕ × Cell)) → IsTrue (ascending es) → AllByRecursion (λ e. e.0 < bound) es → length es ≤ bound
few_below bound es s under = omega (arith, few bound 0 es (omega arith) (above_zero es) (test_of (is_sorted nat_cmp es) s) under)

columns_below : (es : List (ℕ × Cell)) → AllByRecursion EntryFits es → AllByRecursion (λ e. e.0 < 32) es
columns_below [] fits = tt
columns_below (e ∷ es) fits = (fits.0.0, columns_below es fits.1)

pub few_columns : (es : List (ℕ × Cell)) → IsTrue (ascending es) → AllByRecursion EntryFits es → length es ≤ 32
few_columns es s fits = few_below 32 es s (columns_below es fits)

pub key_small : (k : List Comp) → (length k ≤ 4) × All CompFits k → length (flat_map comp_code k) ≤ 264
key_small k fits = omega (arith, comps_small k (recursion_from_All CompFits k fits.1), fits.0)

pub cells_small : (es : List (ℕ × Cell)) → IsTrue (ascending es) → All EntryFits es → length (flat_map entry_code es) ≤ 8576
cells_small es s fits =
    let each = recursion_from_All EntryFits es fits in
    omega (arith, entries_small es each, few_columns es s each)

-- ---- what a value's code has at most

pub marker_code_small : (marker : Option ℤ) → length (optional_code stamp_code marker) ≤ 9
marker_code_small None = omega arith
marker_code_small (Some ts) = omega (arith, length-stamp ts)

pub tomb_code_small : (tomb : Option Tomb) → length (optional_code tomb_code tomb) ≤ 13
tomb_code_small None = omega arith
tomb_code_small (Some t) = omega (arith, length-append (stamp_code t.ts) (time_code t.dt), length-stamp t.ts, length-time t.dt)

pub key_code_small : (k : List Comp) → KeyFits k → length (key_code k) ≤ 265
key_code_small k fits = omega (arith, key_small k fits)

pub pos_code_small : (x : Pos) → KeyFits x.prefix → length (pos_code x) ≤ 266
pos_code_small x fits = omega (arith, key_small x.prefix fits)

-- a row's code is as long as its parts, and a byte that counts the cells
pub length-row_code : (r : Row) → length (row_code r) ≡ length (optional_code stamp_code r.marker) + (length (optional_code tomb_code r.tomb) + (1 + length (flat_map entry_code r.cells)))
length-row_code r =
    omega (arith, length-append (optional_code stamp_code r.marker) (optional_code tomb_code r.tomb ++ cells_code r.cells), length-append (optional_code tomb_code r.tomb) (cells_code r.cells))

pub row_code_small : (r : Row) → IsRow r → RowFits r → length (row_code r) ≤ 8599
row_code_small r ascends fits = omega (arith, length-row_code r, marker_code_small r.marker, tomb_code_small r.tomb, cells_small r.cells ascends fits)
