use Rattle.rc_memory.specs.laws.Used.{held-used, held-detached, held-updating, held-passed, held-pinned, held-released}
use Rattle.rc_memory.proofs.laws.a_use_may_change.Goals as goal

pub returns-clause-changed : goal.returns-clause-changed
returns-clause-changed c = λ slots v registry counts m id f g h there root does. held-used slots v registry counts m id h there f g root does

pub returns-clause-detached : goal.returns-clause-detached
returns-clause-detached c = λ slots v registry counts m id h there. held-detached slots v registry counts m id h there

pub returns-clause-updating : goal.returns-clause-updating
returns-clause-updating c = λ slots v registry counts m id updating h there. held-updating slots v registry counts m id h there updating

pub returns-clause-passed : goal.returns-clause-passed
returns-clause-passed c = λ slots v registry counts m id passed h there. held-passed slots v registry counts m id h there passed

pub returns-clause-pinned : goal.returns-clause-pinned
returns-clause-pinned c = λ slots v registry counts m id version h there. held-pinned slots v registry counts m id h there version

pub returns-clause-released : goal.returns-clause-released
returns-clause-released c = λ slots v registry counts m id pin h there. held-released slots v registry counts m id h there pin
