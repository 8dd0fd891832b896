use Rattle.rc_memory.specs.laws.Chains.{memory-begun, memory-detached, memory-ended, memory-fewer, memory-gone, memory-made, memory-more}
use Rattle.rc_memory.proofs.laws.a_memory_keeps_its_rules_as_chains_change.Goals as goal

pub returns-clause-made : goal.returns-clause-made
returns-clause-made c = λ size slots old mid new registry counts m id root kind n flag pt phase h none rooted same well_mid well slots_kept room added statics. memory-made size slots old mid new registry counts m h id root kind none rooted same well_mid well slots_kept n flag pt phase room added statics

pub returns-clause-more : goal.returns-clause-more
returns-clause-more c = λ size slots old new registry counts m id p n flag pt phase h there memtable well slots_kept room added statics. memory-more size slots old new registry counts m h well slots_kept id p there n flag pt phase room added statics memtable

pub returns-clause-begun : goal.returns-clause-begun
returns-clause-begun c = λ size slots old new registry counts m id p n flag pt phase h there ready well slots_kept room added statics. memory-begun size slots old new registry counts m h well slots_kept id p there n flag pt phase room added statics ready

pub returns-clause-ended : goal.returns-clause-ended
returns-clause-ended c = λ size slots v registry counts m id h there last. memory-ended size slots v registry counts m id h there last

pub returns-clause-detached : goal.returns-clause-detached
returns-clause-detached c = λ size slots v registry counts m id h there last. memory-detached size slots v registry counts m id h there last

pub returns-clause-fewer : goal.returns-clause-fewer
returns-clause-fewer c = λ size slots old new registry counts m id j p s h there number can free well slots_kept dropped statics. memory-fewer size slots old new registry counts m h well slots_kept id j p s there number dropped statics can free

pub returns-clause-gone : goal.returns-clause-gone
returns-clause-gone c = λ size slots old mid new registry counts m id root s h there free well_mid slots_kept dropped statics gone same well. memory-gone size slots old mid new registry counts m h id root s there free well_mid slots_kept dropped statics gone same well
