-- The rows and ranges are those of the mutation.
use Rattle.std.proofs.Common.{◌≡◌, ap, sym, ◌∙◌, Some, None, List, IsTrue, if◌then◌else◌}
use Rattle.rc_cell.specs.declared.rows.Row.{Row}
use Rattle.rc_position.specs.declared.comps.Comp.{Comp}
use Rattle.rc_ranges.specs.declared.pieces.Piece.{Piece}
use Rattle.rc_mutation.specs.declared.fragments.Head.{Head}
use Rattle.rc_mutation.specs.Statics.{has_cells_alone}
use Rattle.rc_tables.specs.calls.Rebuilt.{rows_among}
use Rattle.rc_tables.proofs.Apart.{rows_ready, ranges_ready, rows_between}
use Rattle.rc_tables.proofs.rebuilding.mutation_of.Goals as goal

same_rows : (xs ys : List (List Comp × Row)) → Some xs ≡ Some ys → xs ≡ ys
same_rows xs ys e = cc

same_ranges : (xs ys : List Piece) → Some xs ≡ Some ys → xs ≡ ys
same_ranges xs ys e = cc

pub returns-in_default : goal.returns-in_default
returns-in_default c = λ m is f h. absurd (let q = sym c.in_default.is ∙ c.in_ok-rows.ensures (rows_ready m c.args.frags.now is f) in cc)

pub returns-in_default-2 : goal.returns-in_default-2
returns-in_default-2 c = λ m is f h. absurd (let q = sym c.in_default-2.is ∙ c.in_ok-ranges.ensures m.ranges is.ranges (ranges_ready m c.args.frags.now is f) in cc)

-- the static row of a mutation has cells alone
made_of : (row : Row) → IsTrue (has_cells_alone row) → (if has_cells_alone row then Some row else None) ≡ Some row
made_of row e = ap (λ b. if b then Some row else None) e

same_row : (r s : Row) → Some r ≡ Some s → r ≡ s
same_row r s e = cc

pub returns-in_default-from_row : goal.returns-in_default-from_row
returns-in_default-from_row c = λ m is f h.
    let statics : c.args.head.statics ≡ m.statics = ap (λ (x : Head). x.statics) h in
    absurd (let q = sym c.in_default-from_row.is ∙ c.from_row.ensures ∙ made_of c.args.head.statics (ap has_cells_alone statics ∙ is.alone) in cc)

pub returns : goal.returns
returns c = λ m is f h.
    let rows : c.in-Some.rows ≡ m.rows = same_rows c.in-Some.rows (rows_among c.args.frags.now) (sym c.in-Some.is ∙ c.in_ok-rows.ensures (rows_ready m c.args.frags.now is f)) ∙ ap rows_among f ∙ rows_between m is in
    let ranges : c.in-Some-2.ranges ≡ m.ranges = same_ranges c.in-Some-2.ranges m.ranges (sym c.in-Some-2.is ∙ c.in_ok-ranges.ensures m.ranges is.ranges (ranges_ready m c.args.frags.now is f)) in
    let pt : c.args.head.pt ≡ m.pt = ap (λ (x : Head). x.pt) h in
    let given : c.args.head.statics ≡ m.statics = ap (λ (x : Head). x.statics) h in
    let statics : c.in-Some-from_row.statics ≡ m.statics = same_row c.in-Some-from_row.statics c.args.head.statics (sym c.in-Some-from_row.is ∙ c.from_row.ensures ∙ made_of c.args.head.statics (ap has_cells_alone given ∙ is.alone)) ∙ given in
    λ i. Some (record { pt = pt i; statics = statics i; rows = rows i; ranges = ranges i })
