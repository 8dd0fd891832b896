use Rattle.std.proofs.Common.{arith}
use Rattle.lsa_region.specs.declared.end.End.TheVariants.{Obj}
use Rattle.lsa_region.specs.Region.{body}
use Rattle.lsa_region.specs.laws.Ends.{no-end}
use Rattle.lsa_tests.proofs.Listed.{past}
use Rattle.lsa_tests.proofs.list.is_unset.Goals as goal

pub returns-then-field-links : goal.returns-then-field-links
returns-then-field-links c = λ _. no-end c.args.region.now c.known.ensures.well (Obj c.args.r c.args.field) (past (body c.args.region.now c.args.r) c.args.field c.links.result c.kind.result c.kind.ensures c.links.ensures (omega (arith, c.if-field-links.true)))
