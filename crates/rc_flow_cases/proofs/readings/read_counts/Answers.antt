-- Tables are ready over a folder, which tells nothing.
use Rattle.rc_flow_cases.proofs.readings.read_counts.Goals as goal

pub counts-requires : goal.counts-requires
counts-requires c = tt
