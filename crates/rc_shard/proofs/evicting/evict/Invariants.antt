-- What was written stays, and so does what the row cache has; so many objects went.
use Rattle.rc_schema.specs.SchemaValue.{SchemaValue}
use Rattle.rc_shard.specs.calls.Storing.{KeepsUnstored}
use Rattle.rc_shard.proofs.Evicted.{IsUnderway}
use Rattle.rc_shard.proofs.evicting.evict.Given as goal

abbrev pub invariant-loop-left : goal.invariant-loop-left
invariant-loop-left l = ((schema : SchemaValue) → KeepsUnstored schema l.fn.unstored l.unstored) × IsUnderway l.fn.count l.left l.fn.unstored.chains l.unstored.chains

abbrev pub decreases-loop-left : goal.decreases-loop-left
decreases-loop-left l = l.left
