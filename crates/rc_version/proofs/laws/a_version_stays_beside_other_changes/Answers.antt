use Rattle.rc_version.specs.laws.Staying.{made-version, version-outward}
use Rattle.rc_version.proofs.laws.a_version_stays_beside_other_changes.Goals as goal

pub returns-clause-links : goal.returns-clause-links
returns-clause-links c = version-outward

pub returns-clause-made : goal.returns-clause-made
returns-clause-made c = λ S old new r size n refs d made h. made-version S old new r size made n refs d h
