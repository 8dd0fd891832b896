-- The chain leads on to the version that is wanted.
use Rattle.std.proofs.Common.{List}
use Rattle.lsa_store.specs.declared.place.Ref.{Ref}
use Rattle.rc_partition.proofs.Passing.{IsSeeking}
use Rattle.rc_partition.proofs.walks.below_newer.Given as goal

abbrev pub invariant-loop-passed : goal.invariant-loop-passed
invariant-loop-passed g l = (xs : List Ref) × (n : Ref) × (ys : List Ref) × IsSeeking l.region l.fn.root l.at l.newer l._passed xs n ys
