use Rattle.rc_ranges.specs.laws.Covering.{cover-none}
use Rattle.rc_ranges.specs.laws.Determined.{cover-one}
use Rattle.rc_ranges.proofs.laws.a_piece_deletes_what_it_covers.Goals as goal

pub returns-clause-one : goal.returns-clause-one
returns-clause-one c = cover-one

pub returns-clause-none : goal.returns-clause-none
returns-clause-none c = cover-none
