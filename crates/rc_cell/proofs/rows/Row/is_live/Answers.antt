-- The marker decides where it survives, and the live cells where it does not.
use Rattle.rc_cell.proofs.Deleted.{live_by_marker, live_by_cell}
use Rattle.rc_cell.proofs.rows.Row.is_live.Goals as goal

pub returns-then-is_some : goal.returns-then-is_some
returns-then-is_some c = live_by_marker c.args.cover c.args.self.now c.greater_of-tomb.ensures c.marker_surviving.ensures c.is_some.ensures c.if-is_some.true

pub returns-else-is_some : goal.returns-else-is_some
returns-else-is_some c = live_by_cell c.args.cover c.args.self.now c.greater_of-tomb.ensures c.marker_surviving.ensures c.is_some.ensures c.if-is_some.false c.has_live.ensures
