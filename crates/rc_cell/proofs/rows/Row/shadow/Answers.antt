-- Each part is the shadowed row's.
use Rattle.rc_cell.proofs.Deleted.{shadowed_of}
use Rattle.rc_cell.proofs.rows.Row.shadow.Goals as goal

pub returns : goal.returns
returns c = shadowed_of c.args.cover c.args.self.now c.greater_of-in_force.ensures c.marker_surviving-marker.ensures c.in_ok-cells.ensures
