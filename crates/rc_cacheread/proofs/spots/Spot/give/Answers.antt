-- What is due first.
use Rattle.std.proofs.Common.{sym}
use Rattle.rc_cacheread.proofs.Idle.{gives-over, no-again, over-alike}
use Rattle.rc_cacheread.proofs.spots.Spot.give.Goals as goal

pub returns-then-is_some-clause-ok : goal.returns-then-is_some-clause-ok
returns-then-is_some-clause-ok c = c.give_again.ensures c.args.to.now

pub returns-then-not-same-clause-ok : goal.returns-then-not-same-clause-ok
returns-then-not-same-clause-ok c = c.give_change.ensures.ok c.args.to.now

pub returns-then-is_row_due-clause-ok : goal.returns-then-is_row_due-clause-ok
returns-then-is_row_due-clause-ok c = c.give_row.ensures.ok c.args.to.now

pub returns-clause-ok : goal.returns-clause-ok
returns-clause-ok c =
    let s = c.args.self.now in
    let e = c.step_over.ensures in
    gives-over c.args.to.now c.args.upto.now s c.step_over.new.self c.turn_here.new.self c.turn_here.result (over-alike s c.step_over.new.self (sym c.if-is_row_due.ensures) e.place e.row e.told e.again e.tomb e.since (sym c.if-not-same.ensures) (no-again s.again (sym c.if-is_some.ensures))) e.tomb c.turn_here.ensures
