-- Rows of cells alone join to one.
use Rattle.std.specs.Prelude.{IsTrue, OnErr, OnOk, Ok, Err, Result}
use Rattle.std.proofs.Common.{◌≡◌, Bool, true, false, ◌&&◌, [], ◌∷◌, Option, Some, None, refl, sym, ◌∙◌, subst}
use Rattle.std.specs.Option.{is_none}
use Rattle.std.specs.List.{cons_option}
use Rattle.std.specs.Ordering.{int_cmp}
use Rattle.rc_cell.specs.declared.rows.Row.{Row}
use Rattle.rc_cell.specs.laws.Greatest.{greatest-none}
use Rattle.rc_cell.specs.Orders.{tomb_cmp}
use Rattle.rc_cell.specs.Winner.{greatest, joined_row}
use Rattle.rc_mutation.specs.Statics.{has_cells_alone}

none : {X : Type 0} (o : Option X) → is_none o ≡ true → o ≡ None
none None e = refl
none (Some x) e = absurd (cc)

first : (a b : Bool) → (a && b) ≡ true → a ≡ true
first true b e = refl
first false b e = e

second : (a b : Bool) → (a && b) ≡ true → b ≡ true
second true b e = e
second false b e = absurd (cc)

joined : (r s : Row) → IsTrue (has_cells_alone r) → IsTrue (has_cells_alone s) → IsTrue (has_cells_alone (joined_row (r ∷ s ∷ [])))
unfolding joined_row
joined r s g h =
    let marker : r.marker ≡ None = none r.marker (first (is_none r.marker) (is_none r.tomb) g) in
    let other_marker : s.marker ≡ None = none s.marker (first (is_none s.marker) (is_none s.tomb) h) in
    let tomb : r.tomb ≡ None = none r.tomb (second (is_none r.marker) (is_none r.tomb) g) in
    let other_tomb : s.tomb ≡ None = none s.tomb (second (is_none s.marker) (is_none s.tomb) h) in
    (λ i. is_none (greatest int_cmp (cons_option (marker i) (cons_option (other_marker i) []))) && is_none (greatest tomb_cmp (cons_option (tomb i) (cons_option (other_tomb i) []))))
    ∙ (λ i. is_none (greatest-none int_cmp i) && is_none (greatest-none tomb_cmp i))

-- what a join left of two static rows has cells alone, whether it went well or not
pub after_join : (old other new : Row) {X E : Type 0} (r : Result X E) → IsTrue (has_cells_alone old) → IsTrue (has_cells_alone other) → OnOk r (new ≡ joined_row (old ∷ other ∷ [])) → OnErr r (new ≡ old) → IsTrue (has_cells_alone new)
after_join old other new (Ok x) g h ok err = subst (λ s. IsTrue (has_cells_alone s)) (sym ok) (joined old other g h)
after_join old other new (Err x) g h ok err = subst (λ s. IsTrue (has_cells_alone s)) (sym err) g
