use Rattle.std.proofs.Common.{rules, ◌≡◌, MatchBool, sym, subst}
use Rattle.rc_position.specs.declared.positions.Pos.{Pos}
use Rattle.rc_position.specs.Position.{start_bound, IsBeforeRows, IsAfterRows}
use Rattle.rc_position.specs.laws.Bounds.{start_bound-rows}
use Rattle.rc_position.proofs.positions.start_pos.Goals as goal

pub returns-clause-rows : goal.returns-clause-rows
returns-clause-rows c =
    let made : Pos = record { prefix = c.in_ok-copy.field-0; weight = c.if-inclusive.result } in
    let value : made ≡ start_bound c.args.prefix.now c.args.inclusive = search rules in
    subst (λ (x : Pos). MatchBool c.args.inclusive (IsBeforeRows c.args.prefix.now x) (IsAfterRows c.args.prefix.now x)) (sym value) (start_bound-rows c.args.prefix.now c.args.inclusive)
