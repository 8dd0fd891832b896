use Rattle.rc_partition.specs.laws.Roots.{stands-with_empty, stands-without_empty, empty-unset}
use Rattle.rc_partition.proofs.laws.an_empty_partition_comes_and_goes.Goals as goal

pub returns-clause-added : goal.returns-clause-added
returns-clause-added c = λ slots old new front r back listed added same well h. stands-with_empty slots old new front back r listed added same well h

pub returns-clause-dropped : goal.returns-clause-dropped
returns-clause-dropped c = λ slots old new front r back listed dropped same h. stands-without_empty slots old new front back r listed dropped same h

pub returns-clause-unset : goal.returns-clause-unset
returns-clause-unset c = λ slots v front r back listed h. empty-unset slots v v front back r listed h
