-- What is left of the chain has so many versions less as were passed.
use Rattle.std.proofs.Common.{List}
use Rattle.lsa_store.specs.declared.place.Ref.{Ref}
use Rattle.rc_partition.proofs.Passing.{IsPassing}
use Rattle.rc_partition.proofs.walks.chained.Given as goal

abbrev pub invariant-loop-passed : goal.invariant-loop-passed
invariant-loop-passed g l = (left : List Ref) × IsPassing l.region l.fn.start l.at l.passed left
