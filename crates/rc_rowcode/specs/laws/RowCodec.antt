-- Cells by ascending column, and rows: each reader reads the spellings and nothing else.
use Rattle.std.proofs.Common.{◌≡◌, ℕ, zero, suc, ◌+◌, ◌<◌, ◌≤◌, Bool, true, false, cond, ltb, eqb, List, [], ◌∷◌, ◌++◌, length, Some, None, refl, sym, ap, subst, ◌∙◌, append_assoc, arith, T}
use Rattle.std.specs.Prelude.{IsTrue}
use Rattle.std.specs.Option.{option_map, option_and_then}
use Rattle.std.specs.declared.cmp.Ordering.TheVariants.{Less, Equal, Greater}
use Rattle.std.specs.Ordering.{nat_cmp, is_lt}
use Rattle.std.specs.List.{flat_map, AllByRecursion}
use Rattle.std.specs.FinMap.{is_sorted}
use Rattle.std.specs.FinMap.Entries.{below_all}
use Rattle.std.proofs.lemmas.Bool.{ltb-false, le-ltb, ltb-true, lt-ltb}
use Rattle.rc_cell.specs.declared.writes.Cell.{Cell}
use Rattle.rc_cell.specs.declared.rows.Row.{Row}
use Rattle.rc_cell.specs.Columns.{ascending}
use Rattle.rc_cell.specs.laws.ByColumn.{holds, test_of, both, first, second}
use Rattle.rc_rowcode.specs.Spelling.{stamp_code, optional_code, tomb_code, entry_code, cells_code, row_code, IsEntry, IsCodedRow}
use Rattle.rc_rowcode.specs.calls.Reading.{parse_stamp, parse_optional, parse_tomb, parse_cell, parse_entry, parse_entries, parse_cells, parse_row}
use Rattle.rc_rowcode.specs.laws.Fields.{IsBytes, bytes_rest, Took, Codec, bind_some, map_some, guard_some, some_is, stamp_codec}
use Rattle.rc_rowcode.specs.laws.Codecs.{optional_codec, tomb_codec, cell_codec}

-- columns from a least one on, strictly ascending, below 32
abbrev pub FromColumn : ℕ → List (ℕ × Cell) → Type 0
FromColumn least [] = Unit {0}
FromColumn least (e ∷ es) = (least ≤ e.0) × IsEntry e × FromColumn (e.0 + 1) es

below_is : (x y : ℕ) → x < y → T (is_lt (nat_cmp x y))
below_is x y lt = rw (lt-ltb x y lt) tt

is_below : (x y : ℕ) → T (is_lt (nat_cmp x y)) → x < y
is_below x y = elim (ltb x y) as (λ b. ltb x y ≡ b → T (is_lt (cond b Less (cond (eqb x y) Equal Greater))) → x < y) [
  | true ↦ λ e h. ltb-true x y e
  | false ↦ λ e h. absurd (never (eqb x y) h)
] refl
  where
    never : (b : Bool) → T (is_lt (cond b Equal Greater)) → ⊥
    never true h = h
    never false h = h

from_below : (x least : ℕ) (es : List (ℕ × Cell)) → x < least → FromColumn least es → T (below_all nat_cmp x es)
from_below x least [] lt h = tt
from_below x least (e ∷ es) lt h = both (is_lt (nat_cmp x e.0)) (below_all nat_cmp x es) (below_is x e.0 (omega (arith, h.0))) (from_below x (e.0 + 1) es (omega (arith, h.0)) h.2)

from_sorted : (least : ℕ) (es : List (ℕ × Cell)) → FromColumn least es → T (is_sorted nat_cmp es)
from_sorted least [] h = tt
from_sorted least (e ∷ es) h = both (below_all nat_cmp e.0 es) (is_sorted nat_cmp es) (from_below e.0 (e.0 + 1) es (omega arith) h.2) (from_sorted (e.0 + 1) es h.2)

from_entries : (least : ℕ) (es : List (ℕ × Cell)) → FromColumn least es → AllByRecursion IsEntry es
from_entries least [] h = tt
from_entries least (e ∷ es) h = (h.1, from_entries (e.0 + 1) es h.2)

-- the cell's column is this one or a later one
abbrev pub Above : ℕ → ℕ × Cell → Type 0
Above least e = least ≤ e.0

pub all_above : (x : ℕ) (es : List (ℕ × Cell)) → T (below_all nat_cmp x es) → AllByRecursion (Above (x + 1)) es
all_above x [] h = tt
all_above x (e ∷ es) h =
    let lt = is_below x e.0 (first (is_lt (nat_cmp x e.0)) (below_all nat_cmp x es) h) in
    (omega arith, all_above x es (second (is_lt (nat_cmp x e.0)) (below_all nat_cmp x es) h))

sorted_from : (least : ℕ) (es : List (ℕ × Cell)) → AllByRecursion (Above least) es → T (is_sorted nat_cmp es) → AllByRecursion IsEntry es → FromColumn least es
sorted_from least [] a s h = tt
sorted_from least (e ∷ es) a s h =
    (a.0, h.0, sorted_from (e.0 + 1) es (all_above e.0 es (first (below_all nat_cmp e.0 es) (is_sorted nat_cmp es) s)) (second (below_all nat_cmp e.0 es) (is_sorted nat_cmp es) s) h.1)

pub above_zero : (es : List (ℕ × Cell)) → AllByRecursion (Above 0) es
above_zero [] = tt
above_zero (e ∷ es) = (omega arith, above_zero es)

pub from_zero : (es : List (ℕ × Cell)) → IsTrue (ascending es) → AllByRecursion IsEntry es → FromColumn 0 es
from_zero es s h = sorted_from 0 es (above_zero es) (test_of (is_sorted nat_cmp es) s) h

-- ---- one cell behind its column

entry_took : (least : ℕ) (bytes : List ℕ) (x : (ℕ × Cell) × List ℕ) → IsBytes bytes → parse_entry least bytes ≡ Some x → Took entry_code (λ e. (least ≤ e.0) × IsEntry e) bytes x.0 x.1
unfolding parse_entry
entry_took least [] x fits e = absurd cc
entry_took least (column ∷ rest) x fits e =
    let g = guard_some (ltb column least) (cond (ltb 31 column) None (option_map (λ c. ((column, c.0), c.1)) (parse_cell rest))) x e in
    let h = guard_some (ltb 31 column) (option_map (λ c. ((column, c.0), c.1)) (parse_cell rest)) x g.1 in
    let a = map_some (parse_cell rest) (λ c. ((column, c.0), c.1)) x h.1 in
    let low : least ≤ column = ltb-false _ _ g.0 in
    let high : column ≤ 31 = ltb-false _ _ h.0 in
    let t = cell_codec.took rest a.0 (bytes_rest column rest fits) a.1 in
    subst (λ (y : (ℕ × Cell) × List ℕ). Took entry_code (λ e. (least ≤ e.0) × IsEntry e) (column ∷ rest) y.0 y.1) a.2
    (record { parts = ap (λ (w : List ℕ). column ∷ w) t.parts; left = t.left; fits = (low, (omega arith, t.fits)) })

entry_again : (least : ℕ) (e : ℕ × Cell) (rest : List ℕ) → least ≤ e.0 → IsEntry e → parse_entry least (entry_code e ++ rest) ≡ Some (e, rest)
unfolding parse_entry
entry_again least e rest low fits =
    let a : ltb e.0 least ≡ false = le-ltb _ _ low in
    let b : ltb 31 e.0 ≡ false = le-ltb _ _ (omega (arith, fits.0)) in
    rw (a, b, cell_codec.again e.1 rest fits.1) refl

entries_took : (n least : ℕ) (bytes : List ℕ) (x : List (ℕ × Cell) × List ℕ) → IsBytes bytes → parse_entries n least bytes ≡ Some x
    → Took (flat_map entry_code) (λ es. (length es ≡ n) × FromColumn least es) bytes x.0 x.1
unfolding parse_entries
entries_took zero least bytes x fits e =
    subst (λ (y : List (ℕ × Cell) × List ℕ). Took (flat_map entry_code) (λ es. (length es ≡ 0) × FromColumn least es) bytes y.0 y.1) (some_is _ _ e) (record { parts = refl; left = fits; fits = (refl, tt) })
entries_took (suc n) least bytes x fits e =
    let a = bind_some (parse_entry least bytes) (λ c. option_map (λ es. (c.0 ∷ es.0, es.1)) (parse_entries n (c.0.0 + 1) c.1)) x e in
    let b = map_some (parse_entries n (a.0.0.0 + 1) a.0.1) (λ es. (a.0.0 ∷ es.0, es.1)) x a.2 in
    let t = entry_took least bytes a.0 fits a.1 in
    let u = entries_took n (a.0.0.0 + 1) a.0.1 b.0 t.left b.1 in
    subst (λ (y : List (ℕ × Cell) × List ℕ). Took (flat_map entry_code) (λ es. (length es ≡ suc n) × FromColumn least es) bytes y.0 y.1) b.2
    (record {
      parts = t.parts ∙ ap (λ (w : List ℕ). entry_code a.0.0 ++ w) u.parts ∙ sym (append_assoc (entry_code a.0.0) (flat_map entry_code b.0.0) b.0.1);
      left = u.left;
      fits = (ap suc u.fits.0, (t.fits.0, t.fits.1, u.fits.1));
    })

entries_again : (least : ℕ) (es : List (ℕ × Cell)) (rest : List ℕ) → FromColumn least es → parse_entries (length es) least (flat_map entry_code es ++ rest) ≡ Some (es, rest)
unfolding parse_entries
entries_again least [] rest fits = refl
entries_again least (e ∷ es) rest fits =
    ap (parse_entries (suc (length es)) least) (append_assoc (entry_code e) (flat_map entry_code es) rest)
    ∙ rw (entry_again least e (flat_map entry_code es ++ rest) fits.0 fits.1, entries_again (e.0 + 1) es rest fits.2) refl

-- cells of strictly ascending columns, each one that a code may have
abbrev AreCells : List (ℕ × Cell) → Type 0
AreCells es = IsTrue (ascending es) × AllByRecursion IsEntry es

cells_took : (bytes : List ℕ) (x : List (ℕ × Cell) × List ℕ) → IsBytes bytes → parse_cells bytes ≡ Some x → Took cells_code AreCells bytes x.0 x.1
unfolding parse_cells
cells_took [] x fits e = absurd cc
cells_took (n ∷ rest) x fits e =
    let t = entries_took n 0 rest x (bytes_rest n rest fits) e in
    record { parts = (λ i. sym t.fits.0 i ∷ t.parts i); left = t.left; fits = (holds (is_sorted nat_cmp x.0) (from_sorted 0 x.0 t.fits.1), from_entries 0 x.0 t.fits.1) }

cells_again : (es : List (ℕ × Cell)) (rest : List ℕ) → AreCells es → parse_cells (cells_code es ++ rest) ≡ Some (es, rest)
unfolding parse_cells
cells_again es rest fits = entries_again 0 es rest (from_zero es fits.0 fits.1)

-- what a reader of entries made ascends, and is at most 32 long
pub entries_ascend : (n : ℕ) (bytes : List ℕ) (x : List (ℕ × Cell) × List ℕ) → IsBytes bytes → parse_entries n 0 bytes ≡ Some x → IsTrue (ascending x.0)
entries_ascend n bytes x fits e = let t = entries_took n 0 bytes x fits e in holds (is_sorted nat_cmp x.0) (from_sorted 0 x.0 t.fits.1)

-- ---- rows

row_took : (bytes : List ℕ) (x : Row × List ℕ) → IsBytes bytes → parse_row bytes ≡ Some x → Took row_code IsCodedRow bytes x.0 x.1
unfolding parse_row
row_took bytes x fits e =
    let a = bind_some (parse_optional parse_stamp bytes) (λ m. option_and_then (λ t. option_map (λ cs. (record { marker = m.0; tomb = t.0; cells = cs.0 }, cs.1)) (parse_cells t.1)) (parse_optional parse_tomb m.1)) x e in
    let b = bind_some (parse_optional parse_tomb a.0.1) (λ t. option_map (λ cs. (record { marker = a.0.0; tomb = t.0; cells = cs.0 }, cs.1)) (parse_cells t.1)) x a.2 in
    let d = map_some (parse_cells b.0.1) (λ cs. (record { marker = a.0.0; tomb = b.0.0; cells = cs.0 }, cs.1)) x b.2 in
    let t = (optional_codec stamp_codec).took bytes a.0 fits a.1 in
    let u = (optional_codec tomb_codec).took a.0.1 b.0 t.left b.1 in
    let v = cells_took b.0.1 d.0 u.left d.1 in
    let m = optional_code stamp_code a.0.0 in
    let o = optional_code tomb_code b.0.0 in
    let s = cells_code d.0.0 in
    let inner : a.0.1 ≡ (o ++ s) ++ d.0.1 = u.parts ∙ ap (λ (w : List ℕ). o ++ w) v.parts ∙ sym (append_assoc o s d.0.1) in
    let all : bytes ≡ (m ++ (o ++ s)) ++ d.0.1 = t.parts ∙ ap (λ (w : List ℕ). m ++ w) inner ∙ sym (append_assoc m (o ++ s) d.0.1) in
    subst (λ (y : Row × List ℕ). Took row_code IsCodedRow bytes y.0 y.1) d.2
    (record { parts = all; left = v.left; fits = record { marker = t.fits; tomb = u.fits; ascending = v.fits.0; cells = v.fits.1 } })

row_again : (r : Row) (rest : List ℕ) → IsCodedRow r → parse_row (row_code r ++ rest) ≡ Some (r, rest)
unfolding parse_row
row_again r rest fits =
    let m = optional_code stamp_code r.marker in
    let o = optional_code tomb_code r.tomb in
    let s = cells_code r.cells in
    let regrouped : row_code r ++ rest ≡ m ++ (o ++ (s ++ rest)) = append_assoc m (o ++ s) rest ∙ ap (λ (w : List ℕ). m ++ w) (append_assoc o s rest) in
    ap parse_row regrouped
    ∙ rw ((optional_codec stamp_codec).again r.marker (o ++ (s ++ rest)) fits.marker, (optional_codec tomb_codec).again r.tomb (s ++ rest) fits.tomb, cells_again r.cells rest (fits.ascending, fits.cells)) refl

pub row_codec : Codec row_code IsCodedRow parse_row
row_codec = record { took = row_took; again = row_again }

-- ---- the parts of a row's code

pub marker_again : (r : Row) → IsCodedRow r → parse_optional parse_stamp (row_code r) ≡ Some (r.marker, optional_code tomb_code r.tomb ++ cells_code r.cells)
marker_again r fits = (optional_codec stamp_codec).again r.marker (optional_code tomb_code r.tomb ++ cells_code r.cells) fits.marker

pub row_tomb_again : (r : Row) → IsCodedRow r → parse_optional parse_tomb (optional_code tomb_code r.tomb ++ cells_code r.cells) ≡ Some (r.tomb, cells_code r.cells)
row_tomb_again r fits = (optional_codec tomb_codec).again r.tomb (cells_code r.cells) fits.tomb

pub first_again : (e : ℕ × Cell) (rest : List ℕ) → IsEntry e → parse_entry 0 (entry_code e ++ rest) ≡ Some (e, rest)
first_again e rest fits = entry_again 0 e rest (omega arith) fits
