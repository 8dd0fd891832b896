use Rattle.std.proofs.Common.{Some, subst}
use Rattle.lsa_tests.specs.Listed.{IsOneOf}
use Rattle.lsa_tests.proofs.list.remove_at.Goals as goal

pub discard-requires : goal.discard-requires
discard-requires c =
    let one : IsOneOf c.args.list c.args.region.now (Some c.in-Some.r) = subst (IsOneOf c.args.list c.args.region.now) c.in-Some.is c.nth.ensures in
    one
