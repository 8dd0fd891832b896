-- The cell of the least column is the first of the winners.
use Rattle.std.proofs.Common.{sym}
use Rattle.rc_rowcode.specs.calls.Views.{seen_cell}
use Rattle.rc_rowcode.specs.calls.Joining.{seen_entries}
use Rattle.rc_rowcode.proofs.Merging.{none_left, ours_left, theirs_left, ours_first, theirs_first, both_first}
use Rattle.rc_rowcode.proofs.join.step.Goals as goal

pub returns-in-None-None-clause-value : goal.returns-in-None-None-clause-value
returns-in-None-None-clause-value c = none_left (seen_entries c.args.left.ours) (seen_entries c.args.left.theirs) c.in-None-None.ensures.value c.in-None-None.ensures'.value

pub returns-in-None-Some-clause-value : goal.returns-in-None-Some-clause-value
returns-in-None-Some-clause-value c =
    theirs_left (seen_entries c.args.left.ours) (seen_entries c.args.left.theirs) (c.in-None-Some.column, seen_cell c.in-None-Some.cell) (seen_entries c.in-None-Some.theirs)
    c.in-None-Some.ensures.value c.in-None-Some.ensures'.value c.requires.1

pub returns-in-Some-None-clause-value : goal.returns-in-Some-None-clause-value
returns-in-Some-None-clause-value c =
    ours_left (seen_entries c.args.left.ours) (seen_entries c.args.left.theirs) (c.in-Some-None.column, seen_cell c.in-Some-None.cell) (seen_entries c.in-Some-None.ours)
    c.in-Some-None.ensures.value c.in-Some-None.ensures'.value c.requires.0

pub returns-in-Less-clause-value : goal.returns-in-Less-clause-value
returns-in-Less-clause-value c =
    ours_first (seen_entries c.args.left.ours) (seen_entries c.args.left.theirs) (c.in-Some-Some.column, seen_cell c.in-Some-Some.cell) (c.in-Some-Some.their_column, seen_cell c.in-Some-Some.their_cell)
    (seen_entries c.in-Some-Some.ours) (seen_entries c.in-Some-Some.theirs) c.in-Some-Some.ensures.value c.in-Some-Some.ensures'.value (sym c.in-Less.ensures) c.requires.0 c.requires.1

pub returns-in-Equal-clause-value : goal.returns-in-Equal-clause-value
returns-in-Equal-clause-value c =
    both_first (seen_entries c.args.left.ours) (seen_entries c.args.left.theirs) (c.in-Some-Some.column, seen_cell c.in-Some-Some.cell) (c.in-Some-Some.their_column, seen_cell c.in-Some-Some.their_cell)
    (seen_entries c.in-Some-Some.ours) (seen_entries c.in-Some-Some.theirs) (seen_cell c.winning.result) c.in-Some-Some.ensures.value c.in-Some-Some.ensures'.value (sym c.in-Equal.ensures) c.winning.ensures.value c.requires.0 c.requires.1

pub returns-in-Equal-clause-fits : goal.returns-in-Equal-clause-fits
returns-in-Equal-clause-fits c = c.winning.ensures.fits c.in-Some-Some.ensures.fits c.in-Some-Some.ensures'.fits

pub returns-in-Greater-clause-value : goal.returns-in-Greater-clause-value
returns-in-Greater-clause-value c =
    theirs_first (seen_entries c.args.left.ours) (seen_entries c.args.left.theirs) (c.in-Some-Some.column, seen_cell c.in-Some-Some.cell) (c.in-Some-Some.their_column, seen_cell c.in-Some-Some.their_cell)
    (seen_entries c.in-Some-Some.ours) (seen_entries c.in-Some-Some.theirs) c.in-Some-Some.ensures.value c.in-Some-Some.ensures'.value (sym c.in-Greater.ensures) c.requires.0 c.requires.1
