-- Tables are ready over a folder, which tells nothing, and may be sought to any position.
use Rattle.rc_flow_cases.proofs.readings.read_alone.Goals as goal

pub read_head-requires : goal.read_head-requires
read_head-requires c = tt

pub read_on-requires-clause-ready : goal.read_on-requires-clause-ready
read_on-requires-clause-ready c = tt

pub read_on-requires-clause-ahead : goal.read_on-requires-clause-ahead
read_on-requires-clause-ahead c = tt
