-- The head shows what was read.
use Rattle.rc_tables.proofs.Blamed.{blames_tables, fresh_on, shown_read}
use Rattle.rc_tables.proofs.lazy.TableFragsFrags.head.Goals as goal

pub returns-clause-shown : goal.returns-clause-shown
returns-clause-shown g c = λ fresh. shown_read c.the_stream_of_a_mutation.ensures.whole (g.W.Store.files c.head.new.store) c.args.self.now c.head.new.self c.head.result fresh c.head.ensures.some

pub returns-clause-fresh : goal.returns-clause-fresh
returns-clause-fresh g c = λ fresh. fresh_on c.the_stream_of_a_mutation.ensures.whole c.args.self.now c.head.new.self fresh c.head.ensures.might

pub returns-clause-might : goal.returns-clause-might
returns-clause-might g c = c.head.ensures.might

pub returns-clause-damage : goal.returns-clause-damage
returns-clause-damage g c = blames_tables c.args.self.now c.head.new.self c.head.result c.head.ensures.tables c.head.ensures.damaged
