use Rattle.std.proofs.Common.{subst}
use Rattle.lsa_tree.specs.Search.{IsFound}
use Rattle.rc_version.specs.laws.Found.{found-before, found-here, found-last}
use Rattle.rc_version.proofs.finding.here.Goals as goal

pub returns-in-Here : goal.returns-in-Here
returns-in-Here c = λ v n refs d x h f. found-here v n refs d x h c.in-Here.r (subst (IsFound v refs x) c.in-Here.is f)

pub returns-in-Before : goal.returns-in-Before
returns-in-Before c = λ v n refs d x h f. found-before v n refs d x h c.in-Before._next (subst (IsFound v refs x) c.in-Before.is f)

pub returns-in-Last : goal.returns-in-Last
returns-in-Last c = λ v n refs d x h f. found-last v n refs d x h (subst (IsFound v refs x) c.in-Last.is f)
