use Rattle.lsa_tests.proofs.Seated.{freed-slots}
use Rattle.lsa_tests.proofs.region.free.Goals as goal

pub returns-clause-slots : goal.returns-clause-slots
returns-clause-slots c = freed-slots c.args.region.now c.free_obj.new.self c.args.r c.free_obj.ensures.freed
