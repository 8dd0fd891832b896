use Rattle.std.proofs.Common.{rules, ◌≡◌}
use Rattle.std.specs.Ordering.{eq_by_cmp}
use Rattle.rc_position.specs.Position.{comp_cmp}
use Rattle.rc_position.specs.laws.Orders.{comp_cmp_total, comp_cmp_same, eq_by_cmp-same}
use Rattle.rc_position.proofs.comps.CompPartialEq.eq.Goals as goal

pub returns-clause-same : goal.returns-clause-same
returns-clause-same c =
    let value : c.eq.result ≡ eq_by_cmp comp_cmp c.args.self.now c.args.other.now = search rules in
    eq_by_cmp-same comp_cmp_total comp_cmp_same c.args.self.now c.args.other.now c.eq.result value
