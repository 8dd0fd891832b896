-- Rows of which nothing was written.
use Rattle.std.specs.Prelude.{◌≡◌, Bool, true, false, ◌||◌, List, [], ◌∷◌, Option, Some, None, is_some}
use Rattle.std.proofs.Common.{refl}
use Rattle.rc_cell.specs.declared.rows.Row.{Row}
use Rattle.rc_cell.specs.Winner.{empty_row}
use Rattle.rc_mutation.specs.Fragments.{has_any, is_written}

or_first : (a b : Bool) → (a || b) ≡ false → a ≡ false
or_first true b e = e
or_first false b e = refl

or_second : (a b : Bool) → (a || b) ≡ false → b ≡ false
or_second true b e = absurd (cc)
or_second false b e = e

no_value : {X : Type 0} (o : Option X) → is_some o ≡ false → o ≡ None
no_value None e = refl
no_value (Some x) e = absurd (cc)

no_elements : {X : Type 0} (xs : List X) → has_any xs ≡ false → xs ≡ []
no_elements [] e = refl
no_elements (x ∷ xs) e = absurd (cc)

-- a row of which nothing was written is the empty one
pub unwritten : (row : Row) → is_written row ≡ false → row ≡ empty_row
unwritten row e =
    let later = or_second (is_some row.marker) (is_some row.tomb || has_any row.cells) e in
    let marker = no_value row.marker (or_first (is_some row.marker) (is_some row.tomb || has_any row.cells) e) in
    let tomb = no_value row.tomb (or_first (is_some row.tomb) (has_any row.cells) later) in
    let cells = no_elements row.cells (or_second (is_some row.tomb) (has_any row.cells) later) in
    λ i. record { marker = marker i; tomb = tomb i; cells = cells i }
