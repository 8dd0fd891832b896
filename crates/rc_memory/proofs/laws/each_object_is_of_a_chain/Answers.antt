use Rattle.rc_memory.specs.laws.Each.{bytes-told, each-told, objects-told}
use Rattle.rc_memory.proofs.laws.each_object_is_of_a_chain.Goals as goal

pub returns-clause-each : goal.returns-clause-each
returns-clause-each c = λ slots v registry counts m r h summed live. each-told slots v registry counts m h summed r live

pub returns-clause-bytes : goal.returns-clause-bytes
returns-clause-bytes c = λ slots v registry counts m h. bytes-told slots v registry counts m h

pub returns-clause-objects : goal.returns-clause-objects
returns-clause-objects c = λ slots v registry counts m h summed. objects-told slots v registry counts m h summed
