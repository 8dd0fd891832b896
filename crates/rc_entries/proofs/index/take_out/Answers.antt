use Rattle.std.proofs.Common.{sym}
use Rattle.rc_entries.proofs.Ways.{index-less}
use Rattle.rc_entries.proofs.index.take_out.Goals as goal

pub returns-clause-index : goal.returns-clause-index
returns-clause-index c =
    index-less c.args.numbers.now.entries c.remove.new.self.entries c.args.keys.now.entries c.remove-2.new.self.entries c.args.key.now c.in_ok-id.id c.requires.index (sym c.in_ok-id.ensures.value) c.remove.ensures.updates.0 c.remove-2.ensures.updates.0
