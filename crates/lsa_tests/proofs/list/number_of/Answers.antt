use Rattle.std.proofs.Common.{Some, subst, arith}
use Rattle.lsa_tests.specs.Listed.{IsOneOf}
use Rattle.lsa_tests.proofs.Listed.{one-there}
use Rattle.lsa_tests.proofs.list.number_of.Goals as goal

pub bytes-requires : goal.bytes-requires
bytes-requires c =
    let one : IsOneOf c.args.list c.args.region.now (Some c.in-Some.r) = subst (IsOneOf c.args.list c.args.region.now) c.in-Some.is c.requires in
    (omega arith, one-there c.args.list c.args.region.now one.0 one.1 c.in-Some.r one.2)
