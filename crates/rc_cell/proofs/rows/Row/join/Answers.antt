-- Each part of the row is the joined row's.
use Rattle.rc_cell.specs.laws.Joined.{joined_of}
use Rattle.rc_cell.proofs.rows.Row.join.Goals as goal

pub returns-clause-ok : goal.returns-clause-ok
returns-clause-ok c = joined_of c.args.self.now c.args.other.now c.greater_of-self.ensures c.greater_of-self-2.ensures c.in_ok-self.ensures.ok
