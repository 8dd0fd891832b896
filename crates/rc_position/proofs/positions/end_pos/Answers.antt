use Rattle.std.proofs.Common.{rules, ◌≡◌, MatchBool, sym, subst}
use Rattle.rc_position.specs.declared.positions.Pos.{Pos}
use Rattle.rc_position.specs.Position.{end_bound, IsBeforeRows, IsAfterRows}
use Rattle.rc_position.specs.laws.Bounds.{end_bound-rows}
use Rattle.rc_position.proofs.positions.end_pos.Goals as goal

pub returns-clause-rows : goal.returns-clause-rows
returns-clause-rows c =
    let made : Pos = record { prefix = c.in_ok-copy.field-0; weight = c.if-inclusive.result } in
    let value : made ≡ end_bound c.args.prefix.now c.args.inclusive = search rules in
    subst (λ (x : Pos). MatchBool c.args.inclusive (IsAfterRows c.args.prefix.now x) (IsBeforeRows c.args.prefix.now x)) (sym value) (end_bound-rows c.args.prefix.now c.args.inclusive)
