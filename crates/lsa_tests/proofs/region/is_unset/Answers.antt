use Rattle.lsa_region.specs.laws.Ends.{no-end}
use Rattle.lsa_tests.proofs.region.is_unset.Goals as goal

pub returns-then-not-is_end : goal.returns-then-not-is_end
returns-then-not-is_end c = λ _. no-end c.args.region.now c.known.ensures.well c.args.end (c.is_end.ensures.no c.if-not-is_end.true)
