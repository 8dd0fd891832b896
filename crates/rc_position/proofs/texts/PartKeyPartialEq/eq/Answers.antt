use Rattle.std.proofs.Common.{rules, ◌≡◌}
use Rattle.std.specs.Ordering.{eq_by_cmp}
use Rattle.rc_position.specs.Position.{bytes_cmp}
use Rattle.rc_position.specs.laws.Orders.{bytes_cmp_total, bytes_cmp_same, eq_by_cmp-same}
use Rattle.rc_position.proofs.texts.PartKeyPartialEq.eq.Goals as goal

pub returns-clause-same : goal.returns-clause-same
returns-clause-same c =
    let value : c.eq.result ≡ eq_by_cmp bytes_cmp c.args.self.now c.args.other.now = search rules in
    eq_by_cmp-same bytes_cmp_total bytes_cmp_same c.args.self.now c.args.other.now c.eq.result value
