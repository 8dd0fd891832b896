-- An empty row is refused, another is joined.
use Rattle.std.proofs.Common.{[], ◌∷◌, ◌++◌, ap, sym, subst, refl, ◌∙◌, arith}
use Rattle.rc_mutation.specs.declared.fragments.Frag.{Frag}
use Rattle.rc_mutation.specs.Rows.{joined_rows}
use Rattle.rc_mutation.specs.laws.JoinedRows.{joined_rows-again}
use Rattle.rc_tables.specs.calls.Rebuilt.{NoRowIsEmpty, rows_among}
use Rattle.rc_tables.proofs.rebuilding.take_row.Goals as goal

pub returns-then-is_empty-clause-written : goal.returns-then-is_empty-clause-written
returns-then-is_empty-clause-written c = λ written.
    let rows : NoRowIsEmpty ((c.in-Row.key, c.in-Row.row) ∷ []) = subst (λ (f : Frag). NoRowIsEmpty (rows_among (f ∷ []))) c.in-Row.is written in
    absurd (rows 0 (c.in-Row.key, c.in-Row.row) (omega arith) (c.if-is_empty.ensures.0 refl))

pub returns-in_ok-join_row-in-Row-clause-taken : goal.returns-in_ok-join_row-in-Row-clause-taken
returns-in_ok-join_row-in-Row-clause-taken c = λ _.
    ap joined_rows c.in_ok-join_row-in-Row.ensures.ok
    ∙ joined_rows-again (c.args.rows.now ++ (c.in-Row.key, c.in-Row.row) ∷ [])
    ∙ ap (λ (f : Frag). joined_rows (c.args.rows.now ++ rows_among (f ∷ []))) (sym c.in-Row.is)
