use Rattle.lsa_region.specs.declared.end.End.TheVariants.{Slot}
use Rattle.rc_version_walk.proofs.pair.Pair.open.Goals as goal

pub settle_first-requires-clause-there : goal.settle_first-requires-clause-there
settle_first-requires-clause-there c = c.in_ok-other.ensures.added.ends (Slot c.in_ok-this.this) c.in_ok-this.ensures.added.here
