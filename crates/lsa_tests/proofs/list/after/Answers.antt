use Rattle.std.proofs.Common.{Some, subst}
use Rattle.lsa_tests.specs.Listed.{IsOneOf}
use Rattle.lsa_tests.proofs.Listed.{one-next}
use Rattle.lsa_tests.proofs.list.after.Goals as goal

pub returns-in-Some : goal.returns-in-Some
returns-in-Some c =
    let one : IsOneOf c.args.list c.args.region.now (Some c.in-Some.r) = subst (IsOneOf c.args.list c.args.region.now) c.in-Some.is c.requires in
    one-next c.args.list c.args.region.now one.0 one.1 c.in-Some.r one.2 c.next.result (c.next.ensures one.0 one.1 one.2)
