-- Pairs are the same where their columns are and their cells tie, which only equal cells do.
use Rattle.std.proofs.Common.{◌≡◌, ◌&&◌, ℕ, Bool, true, false, IsTrue, refl, ap}
use Rattle.std.specs.Bool.{Decides, ◌==◌}
use Rattle.std.specs.Ordering.{eq_by_cmp}
use Rattle.std.proofs.lemmas.Bool.Decides.{Decides-eqb}
use Rattle.std.proofs.lemmas.Slice.Eq.{slice_eq-Decides}
use Rattle.rc_cell.specs.declared.writes.Cell.{Cell}
use Rattle.rc_cell.specs.Orders.{cell_cmp, cell_cmp_total}
use Rattle.rc_cell.specs.laws.Beats.{cell_cmp-IsAntisymmetric}
use Rattle.rc_position.specs.laws.Orders.{eq_by_cmp-same}
use Rattle.rc_agreement.proofs.comparing.are_same_cells.Goals as goal

one : (a b : Bool) → IsTrue (a && b) → IsTrue a
one true b t = refl
one false b t = t

other : (a b : Bool) → IsTrue (a && b) → IsTrue b
other true b t = t
other false b t = absurd (cc)

together : (a b : Bool) → IsTrue a → IsTrue b → IsTrue (a && b)
together true b t u = u
together false b t u = t

same-pair : (p q : ℕ × Cell) → Decides ((p.0 == q.0) && eq_by_cmp cell_cmp p.1 q.1) (p ≡ q)
same-pair p q =
    let column = Decides-eqb p.0 q.0 in
    let cell = eq_by_cmp-same cell_cmp_total cell_cmp-IsAntisymmetric p.1 q.1 (eq_by_cmp cell_cmp p.1 q.1) refl in (
      λ t. (let k : p.0 ≡ q.0 = column.0 (one (p.0 == q.0) (eq_by_cmp cell_cmp p.1 q.1) t) in let c : p.1 ≡ q.1 = cell.0 (other (p.0 == q.0) (eq_by_cmp cell_cmp p.1 q.1) t) in λ i. (k i, c i)),
      λ e. together (p.0 == q.0) (eq_by_cmp cell_cmp p.1 q.1) (column.1 (ap (λ (z : ℕ × Cell). z.0) e)) (cell.1 (ap (λ (z : ℕ × Cell). z.1) e)),
    )

pub returns : goal.returns
returns c = slice_eq-Decides {E = λ (p q : ℕ × Cell). (p.0 == q.0) && eq_by_cmp cell_cmp p.1 q.1} same-pair c.args.cells.now c.args.others.now c.eq.result c.eq.ensures
