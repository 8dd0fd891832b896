use Rattle.rc_partition.specs.laws.Changed.{stands-changed, stands-settled, rewritten-weighed, rewritten-fresh, rewritten-row}
use Rattle.rc_partition.proofs.laws.a_changed_version_changes_nothing_else.Goals as goal

pub returns-clause-changed : goal.returns-clause-changed
returns-clause-changed c = λ slots old new front root older s newer back listed now d well summed kept h is weigh rows fresh. stands-changed slots old new front root older s newer back listed well kept h now d is summed weigh rows fresh

pub returns-clause-settled : goal.returns-clause-settled
returns-clause-settled c = λ slots old new front root older s newer back listed now d well summed well_new summed_new kept h is weigh. stands-settled slots old new front root older s newer back listed well summed well_new summed_new kept h now d is weigh

pub returns-clause-rewritten : goal.returns-clause-rewritten
returns-clause-rewritten c = λ slots old new front root older s newer back listed d r well summed kept h is rewritten same.
    stands-changed slots old new front root older s newer back listed well kept h s.entries d is summed (rewritten-weighed old new r rewritten s.version d same) (λ q on row. rewritten-row old new r rewritten s d q row) (rewritten-fresh old new r rewritten well)
