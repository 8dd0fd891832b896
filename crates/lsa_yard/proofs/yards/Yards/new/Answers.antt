use Rattle.lsa_yard.proofs.Segments.{none-stands}
use Rattle.lsa_yard.proofs.yards.Yards.new.Goals as goal

pub invariant_of-result : goal.invariant_of-result
invariant_of-result g c = (none-stands g.row.S c.args.count c.in_ok-new.field-0 c.in_ok-new.ensures c.requires.small).0

pub returns : goal.returns
returns g c = (none-stands g.row.S c.args.count c.in_ok-new.field-0 c.in_ok-new.ensures c.requires.small).1
