use Rattle.std.proofs.Common.{rules, ◌≡◌}
use Rattle.std.specs.Ordering.{eq_by_cmp}
use Rattle.rc_position.specs.Position.{key_cmp}
use Rattle.rc_position.specs.laws.Orders.{key_cmp_total, key_cmp_same, eq_by_cmp-same}
use Rattle.rc_position.proofs.keys.KeyPartialEq.eq.Goals as goal

pub returns-clause-same : goal.returns-clause-same
returns-clause-same c =
    let value : c.eq.result ≡ eq_by_cmp key_cmp c.args.self.now c.args.other.now = search rules in
    eq_by_cmp-same key_cmp_total key_cmp_same c.args.self.now c.args.other.now c.eq.result value
