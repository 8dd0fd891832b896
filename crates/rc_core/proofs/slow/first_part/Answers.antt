use Rattle.std.proofs.Common.{map, sym, ap, ◌∙◌}
use Rattle.rc_position.specs.laws.Orders.{pos_cmp_same}
use Rattle.rc_cell.specs.declared.rows.Row.{Row}
use Rattle.rc_cell.specs.declared.writes.Tomb.{Tomb}
use Rattle.std.specs.Prelude.{Option}
use Rattle.rc_core.specs.Slow.{plain}
use Rattle.rc_core.proofs.Reaching.{before_the_end, upto_before}
use Rattle.rc_core.proofs.Slowly.{bare_there}
use Rattle.rc_core.proofs.slow.first_part.Goals as goal

pub returns-in-Equal : goal.returns-in-Equal
returns-in-Equal c = pos_cmp_same c.args.x.now c.args.upto.now (sym c.cmp.ensures ∙ c.in-Equal.is)

pub returns-then-is_empty : goal.returns-then-is_empty
returns-then-is_empty c =
    let r = c.in_ok-to.ensures in
    let l = upto_before c.in_ok-to.to c.args.upto.now c.args.x.now r.within r.ahead in
    (l, c.in_ok-known.ensures.0 c.if-not-known.false, bare_there (map plain c.args.versions.now) c.args.x.now c.in_ok-seen.seen.row c.in_ok-seen.seen.tomb c.in_ok-seen.ensures.content (c.is_empty.ensures.0 c.if-is_empty.true) (before_the_end c.args.x.now c.args.upto.now l), r, ap (λ (a : Row × Option Tomb). a.1) (sym c.in_ok-seen.ensures.content))
