-- What a body of `join` has made is the joined row.
use Rattle.std.proofs.Common.{◌≡◌, ℕ, ℤ, List, [], ◌∷◌, ◌++◌, Option, sym, ◌∙◌}
use Rattle.std.specs.Ordering.{int_cmp}
use Rattle.std.specs.Cmp.{int_cmp_total}
use Rattle.std.specs.FinMap.{int_cmp-IsAntisymmetric}
use Rattle.rc_cell.specs.declared.writes.Cell.{Cell}
use Rattle.rc_cell.specs.declared.writes.Tomb.{Tomb}
use Rattle.rc_cell.specs.declared.rows.Row.{Row}
use Rattle.rc_cell.specs.Orders.{tomb_cmp, tomb_cmp_total}
use Rattle.rc_cell.specs.Winner.{winners, joined_row}
use Rattle.rc_cell.specs.Greatest.{greater}
use Rattle.rc_cell.specs.laws.Greatest.{greatest-two}
use Rattle.rc_cell.specs.laws.Beats.{tomb_cmp-IsAntisymmetric}
use Rattle.rc_cell.specs.laws.{same_row, joined_row-two}

-- a row of the greater marker, the greater tombstone and the winners is the joined row
pub joined_of : (r q : Row) {m : Option ℤ} {t : Option Tomb} {es : List (ℕ × Cell)} → m ≡ greater int_cmp r.marker q.marker → t ≡ greater tomb_cmp r.tomb q.tomb → es ≡ winners (r.cells ++ q.cells) → ◌≡◌ {A = Row} (record { marker = m; tomb = t; cells = es }) (joined_row (r ∷ q ∷ []))
joined_of r q e f g =
    same_row (e ∙ sym (greatest-two int_cmp_total int_cmp-IsAntisymmetric r.marker q.marker)) (f ∙ sym (greatest-two tomb_cmp_total tomb_cmp-IsAntisymmetric r.tomb q.tomb)) g
    ∙ sym (joined_row-two r q)
