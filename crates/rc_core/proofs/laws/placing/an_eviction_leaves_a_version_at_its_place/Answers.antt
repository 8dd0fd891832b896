use Rattle.rc_core.specs.laws.Placed.{evicted-at-place, statics-evicted-at-place}
use Rattle.rc_core.proofs.laws.placing.an_eviction_leaves_a_version_at_its_place.Goals as goal

pub returns : goal.returns
returns c = record { entry = evicted-at-place; statics = statics-evicted-at-place }
