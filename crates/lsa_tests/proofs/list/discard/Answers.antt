use Rattle.std.proofs.Common.{IsSome, ◌++◌, sym, subst, arith}
use Rattle.lsa_list.specs.laws.Lists.{list-freed}
use Rattle.lsa_tests.proofs.Listed.{one-there}
use Rattle.lsa_tests.proofs.list.discard.Goals as goal

pub is_loose-requires : goal.is_loose-requires
is_loose-requires c = subst IsSome (sym (c.remove.ensures.objects.bodies c.args.r)) (one-there c.args.list c.args.region.now c.requires.0 c.requires.1 c.args.r c.requires.2)

pub free_obj-requires : goal.free_obj-requires
free_obj-requires c =
    (omega arith, (subst IsSome (sym (c.remove.ensures.objects.bodies c.args.r)) (one-there c.args.list c.args.region.now c.requires.0 c.requires.1 c.args.r c.requires.2), c.is_loose.ensures c.if-not-is_loose.false))

pub returns-then-not-is_loose : goal.returns-then-not-is_loose
returns-then-not-is_loose c = (c.requires.0 ++ c.requires.1, c.remove.ensures.removed c.requires.0 c.requires.1 c.requires.2)

pub returns : goal.returns
returns c = let refs = c.requires.0 ++ c.requires.1 in
    (refs, list-freed c.remove.new.region c.free_obj.new.self c.args.r c.free_obj.ensures.freed c.remove.ensures.well c.remove.ensures.first_unset c.args.list refs (c.remove.ensures.removed c.requires.0 c.requires.1 c.requires.2))
