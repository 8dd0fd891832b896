use Rattle.rc_memory.specs.laws.Listed.{one-object}
use Rattle.rc_memory.specs.laws.Places.{one-place}
use Rattle.rc_memory.proofs.laws.an_object_stands_at_one_place.Goals as goal

pub returns-clause-place : goal.returns-clause-place
returns-clause-place c = λ slots v registry counts m r w x h a b. one-place slots v h.well m.standing h.listed h.stands r w x a b

pub returns-clause-object : goal.returns-clause-object
returns-clause-object c = λ slots v registry counts m r o w h a b. one-object slots v h.well m.standing h.listed h.stands r o w a b
