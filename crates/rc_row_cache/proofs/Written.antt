-- A row that says nothing alone is the empty one.
use Rattle.std.proofs.Common.{◌≡◌, ◌==◌, ℕ, ℤ, cond, List, [], ◌∷◌, ◌++◌, Option, Some, None, append-nil, map, eq-eqb, refl, sym, ap, ◌∙◌}
use Rattle.std.specs.List.{cons_option, filter}
use Rattle.std.specs.Option.{option_to_list}
use Rattle.std.specs.Cmp.{int_cmp_total}
use Rattle.std.specs.FinMap.{int_cmp-IsAntisymmetric}
use Rattle.std.specs.Ordering.{int_cmp}
use Rattle.rc_cell.specs.declared.rows.Row.{Row}
use Rattle.rc_cell.specs.declared.writes.Cell.{Cell}
use Rattle.rc_cell.specs.declared.writes.Tomb.{Tomb}
use Rattle.rc_cell.specs.Greatest.{greater}
use Rattle.rc_cell.specs.Orders.{cell_cmp, tomb_cmp, tomb_cmp_total}
use Rattle.rc_cell.specs.Winner.{at_column, empty_row, greatest, joined_row, winner, winners}
use Rattle.rc_cell.specs.laws.Beats.{tomb_cmp-IsAntisymmetric, winner-append, winner-one, winner-two}
use Rattle.rc_cell.specs.laws.ByColumn.{at_column-winners}
use Rattle.rc_cell.specs.laws.Greatest.{greatest-one}

-- ---- cells

some-winner : (c : Cell) (cs : List Cell) → winner (c ∷ cs) ≡ None → ⊥
some-winner c cs e =
    let is : winner (c ∷ cs) ≡ greater cell_cmp (Some c) (winner cs) = winner-append (c ∷ []) cs ∙ ap (λ w. winner (option_to_list w ++ option_to_list (winner cs))) (winner-one (Some c)) ∙ winner-two (Some c) (winner cs) in
    not-none (winner cs) (sym is ∙ e)
  where
    not-none : (o : Option Cell) → greater cell_cmp (Some c) o ≡ None → ⊥
    not-none None f = cc
    not-none (Some d) f = cc

listed-none : (o : Option Cell) → option_to_list o ≡ [] → o ≡ None
listed-none None e = refl
listed-none (Some c) e = absurd (cc)

no-winners : (es : List (ℕ × Cell)) → winners es ≡ [] → es ≡ []
no-winners [] e = refl
no-winners ((q, c) ∷ es) e =
    let here : at_column q ((q, c) ∷ es) ≡ c ∷ at_column q es = ap (λ b. map (λ (d : ℕ × Cell). d.1) (cond b ((q, c) ∷ filter (λ d. q == d.0) es) (filter (λ d. q == d.0) es))) (eq-eqb q q refl) in
    let none : option_to_list (winner (at_column q ((q, c) ∷ es))) ≡ [] = sym (at_column-winners q ((q, c) ∷ es)) ∙ ap (at_column q) e in
    absurd (some-winner c (at_column q es) (ap winner (sym here) ∙ listed-none (winner (at_column q ((q, c) ∷ es))) none))

-- ---- all of it

greatest-marker : (m : Option ℤ) → greatest int_cmp (cons_option m []) ≡ m
greatest-marker None = greatest-one int_cmp_total int_cmp-IsAntisymmetric None
greatest-marker (Some x) = greatest-one int_cmp_total int_cmp-IsAntisymmetric (Some x)

greatest-tomb : (t : Option Tomb) → greatest tomb_cmp (cons_option t []) ≡ t
greatest-tomb None = greatest-one tomb_cmp_total tomb_cmp-IsAntisymmetric None
greatest-tomb (Some x) = greatest-one tomb_cmp_total tomb_cmp-IsAntisymmetric (Some x)

pub nothing-alone : (row : Row) → joined_row (row ∷ []) ≡ empty_row → row ≡ empty_row
unfolding joined_row
nothing-alone row e =
    let marker : row.marker ≡ None = sym (greatest-marker row.marker) ∙ ap (λ (r : Row). r.marker) e in
    let tomb : row.tomb ≡ None = sym (greatest-tomb row.tomb) ∙ ap (λ (r : Row). r.tomb) e in
    let cells : row.cells ≡ [] = sym (append-nil row.cells) ∙ no-winners (row.cells ++ []) (ap (λ (r : Row). r.cells) e) in
    λ i. record { marker = marker i; tomb = tomb i; cells = cells i }
