use Rattle.rc_chain_tests.proofs.Alone.{alone-freed}
use Rattle.rc_chain_tests.proofs.sizes.+spare_with.Goals as goal

pub returns-in-Some : goal.returns-in-Some
returns-in-Some t c = λ r h. alone-freed c.args.region.now c.spare_with.new.region c.free_obj.new.self c.in-Some.e c.free_obj.ensures.freed c.in-Some.ensures.fresh r h (c.spare_with.ensures r (c.in-Some.ensures.kept r h))
