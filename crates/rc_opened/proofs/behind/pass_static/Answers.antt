-- The first line is let go where it is the static one.
use Rattle.rc_opened.proofs.InFront.{passed_first}
use Rattle.rc_opened.proofs.behind.pass_static.Goals as goal

pub returns-in-Ok-clause-gives : goal.returns-in-Ok-clause-gives
returns-in-Ok-clause-gives g c = λ lines left. passed_first _ c.read.new.chains c.read.new.self c.args.settled c.rows_of.result c.in-Ok.first lines c.read.result _ c.in-Ok.is (c.in-Ok.ensures.gives lines left) c.rows_of.ensures (c.read.ensures.left lines left)
