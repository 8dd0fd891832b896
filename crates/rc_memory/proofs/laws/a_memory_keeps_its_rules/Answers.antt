use Rattle.rc_memory.specs.laws.Keeping.{memory-moved, memory-passed, memory-pinned, memory-pushed, memory-released, memory-taken, memory-touched}
use Rattle.rc_memory.proofs.laws.a_memory_keeps_its_rules.Goals as goal

pub returns-clause-passed : goal.returns-clause-passed
returns-clause-passed c = λ s slots v registry counts m id passed h there. memory-passed s slots v registry counts m id h there passed

pub returns-clause-pinned : goal.returns-clause-pinned
returns-clause-pinned c = λ s slots v registry counts m id version h there low inner. memory-pinned s slots v registry counts m id h there version low inner

pub returns-clause-released : goal.returns-clause-released
returns-clause-released c = λ s slots v registry counts m id pin h there. memory-released s slots v registry counts m id h there pin

pub returns-clause-moved : goal.returns-clause-moved
returns-clause-moved c = λ s slots old new registry counts m names h renamed well. memory-moved s slots old new registry counts m h names renamed well

pub returns-clause-pushed : goal.returns-clause-pushed
returns-clause-pushed c = λ s slots old new registry counts m r w h elsewhere objects well here off may list unset. memory-pushed s slots old new registry counts m h elsewhere objects well r w here off may list unset

pub returns-clause-taken : goal.returns-clause-taken
returns-clause-taken c = λ s slots old new registry counts m r front w back h elsewhere objects well is here free list first second unset. memory-taken s slots old new registry counts m h elsewhere objects well r front w back is here free list first second unset

pub returns-clause-touched : goal.returns-clause-touched
returns-clause-touched c = λ s slots old new registry counts m r front w back h elsewhere objects well is here list unset. memory-touched s slots old new registry counts m h elsewhere objects well r front w back is here list unset
