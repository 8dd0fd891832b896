use Rattle.std.proofs.Common.{arith}
use Rattle.lsa_kinds.specs.declared.kind.Kind.TheVariants.{Dummy}
use Rattle.lsa_region.specs.Region.{body}
use Rattle.lsa_path.specs.laws.Members.{member-first}
use Rattle.lsa_tree_tests.proofs.Furnished.{kind_there}
use Rattle.lsa_tree_tests.proofs.rooms.number_of.Goals as goal

pub bytes-requires : goal.bytes-requires
bytes-requires c = (omega arith, kind_there (body c.args.region.now c.args.r) Dummy (c.requires.3.dummies c.args.r (member-first c.args.r c.requires.1)))
