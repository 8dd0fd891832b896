-- The second wins exactly where the first is less.
use Rattle.rc_rowcode.specs.calls.Views.{seen_cell}
use Rattle.rc_rowcode.proofs.Merging.{picked_by}
use Rattle.rc_rowcode.proofs.join.winning.Goals as goal

pub returns-in-Less-clause-value : goal.returns-in-Less-clause-value
returns-in-Less-clause-value c = picked_by (seen_cell c.args.ours) (seen_cell c.args.theirs) _ c.in-Less.ensures

pub returns-in-Equal-clause-value : goal.returns-in-Equal-clause-value
returns-in-Equal-clause-value c = picked_by (seen_cell c.args.ours) (seen_cell c.args.theirs) _ c.in-Equal.ensures

pub returns-in-Greater-clause-value : goal.returns-in-Greater-clause-value
returns-in-Greater-clause-value c = picked_by (seen_cell c.args.ours) (seen_cell c.args.theirs) _ c.in-Greater.ensures
