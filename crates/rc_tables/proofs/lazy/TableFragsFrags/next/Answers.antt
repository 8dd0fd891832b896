-- What is named are tables of the set.
use Rattle.rc_tables.proofs.Blamed.{blames_tables}
use Rattle.rc_tables.proofs.lazy.TableFragsFrags.next.Goals as goal

pub returns-clause-damage : goal.returns-clause-damage
returns-clause-damage g c = blames_tables c.args.self.now c.next.new.self c.next.result c.next.ensures.tables c.next.ensures.damaged
