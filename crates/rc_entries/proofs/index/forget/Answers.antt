use Rattle.std.proofs.Common.{sym}
use Rattle.rc_entries.proofs.Ways.{index-less, less-forgotten}
use Rattle.rc_entries.proofs.index.forget.Goals as goal

pub returns-in-Some-clause-forgotten : goal.returns-in-Some-clause-forgotten
returns-in-Some-clause-forgotten c =
    less-forgotten c.args.numbers.now.entries c.remove-in-Some.new.self.entries c.args.keys.now.entries c.remove.new.self.entries c.in-Some.key c.args.id c.requires.index (c.requires.index.back c.in-Some.key c.args.id (sym c.in-Some.ensures.value)) c.remove-in-Some.ensures.updates.0

pub returns-in-Some-clause-index : goal.returns-in-Some-clause-index
returns-in-Some-clause-index c =
    index-less c.args.numbers.now.entries c.remove-in-Some.new.self.entries c.args.keys.now.entries c.remove.new.self.entries c.in-Some.key c.args.id c.requires.index (c.requires.index.back c.in-Some.key c.args.id (sym c.in-Some.ensures.value)) c.remove-in-Some.ensures.updates.0 c.remove.ensures.updates.0
