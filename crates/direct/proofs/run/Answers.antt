-- The machine as it is opened stands for a state.
use Rattle.rc_machine.specs.State.{opened_state}
use Rattle.direct.proofs.run.Goals as goal

pub serve-requires : goal.serve-requires
serve-requires g c = let s = c.in-Ok.ensures.stands in (opened_state 32 _ _ s.0 s.1, s.4)
