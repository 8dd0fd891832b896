use Rattle.lsa_tests.proofs.Seated.{same-kept}
use Rattle.lsa_tests.proofs.region.untie.Goals as goal

pub returns-in-Some : goal.returns-in-Some
returns-in-Some c = same-kept c.args.region.now c.unlink.new.self c.unlink.ensures.objects
