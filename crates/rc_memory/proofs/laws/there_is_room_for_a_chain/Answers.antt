use Rattle.rc_memory.specs.laws.Counted.{room-for}
use Rattle.rc_memory.proofs.laws.there_is_room_for_a_chain.Goals as goal

pub returns : goal.returns
returns c = λ s slots v registry counts m h sound books few small. room-for slots v registry counts m h s sound books few small
