use Rattle.rc_outside.proofs.Shelved.{insert-from_entries}
use Rattle.rc_outside.proofs.files.Shelf.put.Goals as goal

pub returns-clause-ok : goal.returns-clause-ok
returns-clause-ok c = rw (← c.self.view_is) (insert-from_entries c.self.inside.files.entries c.insert.new.self.entries c.args.n c.args.contents c.in_ok-insert.ensures.updates.0)
