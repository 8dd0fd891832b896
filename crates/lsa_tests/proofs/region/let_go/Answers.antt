use Rattle.std.proofs.Common.{subst}
use Rattle.std.specs.Prelude.{IsSome, IfSome}
use Rattle.lsa_region.specs.declared.end.End.TheVariants.{Obj, Slot}
use Rattle.lsa_region.specs.Region.{body}
use Rattle.lsa_tests.proofs.region.let_go.Goals as goal

pub free-requires : goal.free-requires
free-requires c = c.untie.ensures (Obj c.in-Some.object 0) (subst (λ o. IfSome o (λ r. IsSome (body c.args.region.now r))) c.in-Some.is c.object_at.ensures)

pub returns : goal.returns
returns c = λ s there. c.free.ensures.slots s (c.untie.ensures (Slot s) there)
