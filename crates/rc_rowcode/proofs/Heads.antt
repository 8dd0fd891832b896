-- A row's code taken apart gives the parts of the row.
use Rattle.std.proofs.Common.{◌≡◌, ℕ, List, [], ◌∷◌, ◌++◌, length, Option, Some, None, refl, sym, ap, ◌∙◌, ℤ}
use Rattle.std.specs.List.{flat_map, AllByRecursion}
use Rattle.std.proofs.lemmas.Option.{none-some, some_pair_parts}
use Rattle.rc_cell.specs.declared.writes.Cell.{Cell}
use Rattle.rc_cell.specs.declared.writes.Tomb.{Tomb}
use Rattle.rc_cell.specs.declared.rows.Row.{Row}
use Rattle.rc_cell.specs.laws.{same_row}
use Rattle.rc_rowcode.specs.Spelling.{optional_code, tomb_code, entry_code, cells_code, row_code, IsEntry, IsCodedRow}
use Rattle.rc_rowcode.specs.calls.Reading.{parse_stamp, parse_optional, parse_tomb}
use Rattle.rc_rowcode.specs.calls.Joining.{listed_cells}
use Rattle.rc_rowcode.specs.laws.RowCodec.{marker_again, row_tomb_again, first_again}

listed_coded : (es : List (ℕ × Cell)) → AllByRecursion IsEntry es → listed_cells (length es) (flat_map entry_code es) ≡ es
unfolding listed_cells
listed_coded [] fits = refl
listed_coded (e ∷ es) fits = rw (first_again e (flat_map entry_code es) fits.0, listed_coded es fits.1) refl

pub no_marker : (bytes : List ℕ) (r : Row) → IsCodedRow r → bytes ≡ row_code r → None ≡ parse_optional parse_stamp bytes → ⊥
no_marker bytes r fits e h = none-some (r.marker, optional_code tomb_code r.tomb ++ cells_code r.cells) (h ∙ ap (parse_optional parse_stamp) e ∙ marker_again r fits)

marker_read : (bytes : List ℕ) (r : Row) (m : Option ℤ) (rest : List ℕ) → IsCodedRow r → bytes ≡ row_code r → Some (m, rest) ≡ parse_optional parse_stamp bytes → (m ≡ r.marker) × (rest ≡ optional_code tomb_code r.tomb ++ cells_code r.cells)
marker_read bytes r m rest fits e h = some_pair_parts m r.marker rest (optional_code tomb_code r.tomb ++ cells_code r.cells) (h ∙ ap (parse_optional parse_stamp) e ∙ marker_again r fits)

pub no_tomb : (bytes : List ℕ) (r : Row) (m : Option ℤ) (rest : List ℕ) → IsCodedRow r → bytes ≡ row_code r → Some (m, rest) ≡ parse_optional parse_stamp bytes → None ≡ parse_optional parse_tomb rest → ⊥
no_tomb bytes r m rest fits e h g = none-some (r.tomb, cells_code r.cells) (g ∙ ap (parse_optional parse_tomb) (marker_read bytes r m rest fits e h).1 ∙ row_tomb_again r fits)

tomb_read : (bytes : List ℕ) (r : Row) (m : Option ℤ) (rest : List ℕ) (t : Option Tomb) (behind : List ℕ) → IsCodedRow r → bytes ≡ row_code r → Some (m, rest) ≡ parse_optional parse_stamp bytes → Some (t, behind) ≡ parse_optional parse_tomb rest
    → (t ≡ r.tomb) × (behind ≡ cells_code r.cells)
tomb_read bytes r m rest t behind fits e h g = some_pair_parts t r.tomb behind (cells_code r.cells) (g ∙ ap (parse_optional parse_tomb) (marker_read bytes r m rest fits e h).1 ∙ row_tomb_again r fits)

not_empty : (n : ℕ) (l : List ℕ) → [] ≡ n ∷ l → ⊥
not_empty n l e = cc

pub no_count : (bytes : List ℕ) (r : Row) (m : Option ℤ) (rest : List ℕ) (t : Option Tomb) (behind : List ℕ) → IsCodedRow r → bytes ≡ row_code r → Some (m, rest) ≡ parse_optional parse_stamp bytes → Some (t, behind) ≡ parse_optional parse_tomb rest → behind ≡ [] → ⊥
no_count bytes r m rest t behind fits e h g none = not_empty (length r.cells) (flat_map entry_code r.cells) (sym none ∙ (tomb_read bytes r m rest t behind fits e h g).1)

first_same : (n k : ℕ) (l s : List ℕ) → n ∷ l ≡ k ∷ s → n ≡ k
first_same n k l s e = cc

rest_same : (n k : ℕ) (l s : List ℕ) → n ∷ l ≡ k ∷ s → l ≡ s
rest_same n k l s e = cc

pub whole_head : (bytes : List ℕ) (r : Row) (m : Option ℤ) (rest : List ℕ) (t : Option Tomb) (behind : List ℕ) (n : ℕ) (cells : List ℕ) → IsCodedRow r → bytes ≡ row_code r → Some (m, rest) ≡ parse_optional parse_stamp bytes → Some (t, behind) ≡ parse_optional parse_tomb rest
    → behind ≡ n ∷ cells → ◌≡◌ {A = Row} (record { marker = m; tomb = t; cells = listed_cells n cells }) r
whole_head bytes r m rest t behind n cells fits e h g b =
    let read = tomb_read bytes r m rest t behind fits e h g in
    let same : n ∷ cells ≡ length r.cells ∷ flat_map entry_code r.cells = sym b ∙ read.1 in
    same_row (marker_read bytes r m rest fits e h).0 read.0
    ((λ i. listed_cells (first_same n (length r.cells) cells (flat_map entry_code r.cells) same i) (rest_same n (length r.cells) cells (flat_map entry_code r.cells) same i)) ∙ listed_coded r.cells fits.cells)
