use Rattle.std.proofs.Common.{refl}
use Rattle.rc_core.proofs.Heads.{joined-head}
use Rattle.rc_core.proofs.laws.changes.a_joined_partition_tombstone_raises_the_head.Goals as goal

pub returns : goal.returns
returns c = record { head = joined-head; elsewhere = λ v tomb s. refl; statics = λ v tomb. refl }
