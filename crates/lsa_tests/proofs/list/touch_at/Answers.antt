use Rattle.std.proofs.Common.{Some, [], ◌∷◌, ◌++◌, subst, arith}
use Rattle.lsa_tests.specs.Listed.{IsOneOf}
use Rattle.lsa_tests.proofs.list.touch_at.Goals as goal

pub touch-requires : goal.touch-requires
touch-requires c =
    let one : IsOneOf c.args.list c.args.region.now (Some c.in-Some.r) = subst (IsOneOf c.args.list c.args.region.now) c.in-Some.is c.nth.ensures in
    (omega arith, one)

pub returns-in-Some : goal.returns-in-Some
returns-in-Some c =
    let one : IsOneOf c.args.list c.args.region.now (Some c.in-Some.r) = subst (IsOneOf c.args.list c.args.region.now) c.in-Some.is c.nth.ensures in
    ((one.0 ++ one.1) ++ (c.in-Some.r ∷ []), c.touch.ensures.touched one.0 one.1 one.2)
