use Rattle.rc_cell.specs.laws.Each.{joined_marker, joined_tomb}
use Rattle.rc_cell.proofs.laws.join_adds_no_marker_or_tombstone.Goals as goal

pub returns-clause-marker : goal.returns-clause-marker
returns-clause-marker c = joined_marker

pub returns-clause-tomb : goal.returns-clause-tomb
returns-clause-tomb c = joined_tomb
