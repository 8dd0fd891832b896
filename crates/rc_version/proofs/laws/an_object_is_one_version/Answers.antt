use Rattle.rc_version.specs.laws.Moving.{version-once}
use Rattle.rc_version.proofs.laws.an_object_is_one_version.Goals as goal

pub returns-clause-objects : goal.returns-clause-objects
returns-clause-objects c = λ v n refs others d k h j. (version-once v n refs others d k h j).0

pub returns-clause-value : goal.returns-clause-value
returns-clause-value c = λ v n refs others d k h j. (version-once v n refs others d k h j).1
