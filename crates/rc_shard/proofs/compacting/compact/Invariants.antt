-- What was written stays, and so does what the row cache has; so many segments were emptied.
use Rattle.rc_schema.specs.SchemaValue.{SchemaValue}
use Rattle.rc_shard.specs.calls.Storing.{KeepsUnstored}
use Rattle.rc_shard.proofs.Compacted.{IsCompacting}
use Rattle.rc_shard.proofs.compacting.compact.Given as goal

abbrev pub invariant-loop-left : goal.invariant-loop-left
invariant-loop-left l = ((schema : SchemaValue) → KeepsUnstored schema l.fn.unstored l.unstored) × IsCompacting l.fn.count l.left l.fn.unstored.chains l.unstored.chains

abbrev pub decreases-loop-left : goal.decreases-loop-left
decreases-loop-left l = l.left
