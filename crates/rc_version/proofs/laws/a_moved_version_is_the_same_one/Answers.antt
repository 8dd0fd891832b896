use Rattle.rc_version.specs.laws.Moving.{version-renamed}
use Rattle.rc_version.proofs.laws.a_moved_version_is_the_same_one.Goals as goal

pub returns : goal.returns
returns c = λ old new names n refs d renamed well h. version-renamed old new names renamed well n refs d h
