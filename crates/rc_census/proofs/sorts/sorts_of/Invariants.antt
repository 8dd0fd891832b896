-- The entries up to the next one are counted.
use Rattle.std.proofs.Common.{List}
use Rattle.lsa_store.specs.declared.place.Ref.{Ref}
use Rattle.rc_core.specs.Version.{Version}
use Rattle.rc_version.specs.Versions.{IsVersionOf}
use Rattle.rc_census.proofs.Walked.{IsWalked}
use Rattle.rc_census.proofs.sorts.sorts_of.Given as goal

abbrev pub invariant-loop-steps : goal.invariant-loop-steps
invariant-loop-steps g l = (refs : List Ref) (c : Version) → IsVersionOf l.region l.fn.v refs c → IsWalked l.region refs c.entries l.next l.sorts l.steps
