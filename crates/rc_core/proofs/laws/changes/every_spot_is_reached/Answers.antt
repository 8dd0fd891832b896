use Rattle.rc_core.specs.laws.Spots.{position-reached, gap-reached}
use Rattle.rc_core.proofs.laws.changes.every_spot_is_reached.Goals as goal

pub returns : goal.returns
returns c = record { position = position-reached; gap = gap-reached }
