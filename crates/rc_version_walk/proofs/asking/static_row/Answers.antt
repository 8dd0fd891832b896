use Rattle.std.proofs.Common.{arith, inl, subst}
use Rattle.std.specs.Prelude.{IfSome}
use Rattle.rc_cell.specs.declared.rows.Row.{Row}
use Rattle.rc_object.specs.Objects.{HoldsStatic}
use Rattle.rc_version_walk.proofs.asking.static_row.Goals as goal

pub row_code-requires : goal.row_code-requires
row_code-requires c =
    let held = subst (λ o. IfSome o (λ s. (row : Row) × HoldsStatic c.args.region.now s row)) c.in-Some.is c.statics_of.ensures in
    (omega arith, (held.0, inl held.1))
