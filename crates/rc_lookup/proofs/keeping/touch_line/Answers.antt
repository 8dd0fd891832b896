-- A static line has no key; a row has one.
use Rattle.std.proofs.Common.{◌∷◌, [], sym, subst}
use Rattle.rc_query.specs.declared.lines.OutLine.{OutLine}
use Rattle.rc_lookup.specs.Touched.{AreTouched, IsLineOf}
use Rattle.rc_lookup.proofs.Given.{no-line, row-line}
use Rattle.rc_lookup.proofs.keeping.touch_line.Goals as goal

pub returns-in-Static : goal.returns-in-Static
returns-in-Static g c =
    let m = c.args.chains.now in
    subst (λ (l : OutLine). AreTouched (IsLineOf c.args.id (l ∷ [])) m m) (sym c.in-Static.is) (no-line c.args.id c.in-Static.field-0 m)

pub returns-in-Row : goal.returns-in-Row
returns-in-Row g c =
    let m = c.args.chains.now in let n = c.touch_row.new.chains in
    subst (λ (l : OutLine). AreTouched (IsLineOf c.args.id (l ∷ [])) m n) (sym c.in-Row.is) (row-line c.args.id c.in-Row.key c.in-Row.field-1 m n c.touch_row.ensures)
