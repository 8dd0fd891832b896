use Rattle.rc_unstored.proofs.Keeping.{both_in, both-none}
use Rattle.rc_unstored.proofs.unstored.Unstored.open.Goals as goal

pub returns-clause-none : goal.returns-clause-none
returns-clause-none g c schema = both-none schema (both_in g.row.S c.in_ok-open.field-0 c.new.result c.new-2.result) (c.new.ensures schema c.in_ok-open.field-0) (c.new-2.ensures schema c.in_ok-open.field-0)
