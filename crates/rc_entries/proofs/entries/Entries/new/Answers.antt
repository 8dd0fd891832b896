use Rattle.rc_entries.proofs.Leaving.{empty-entries}
use Rattle.rc_entries.proofs.entries.Entries.new.Goals as goal

pub returns-clause-entries : goal.returns-clause-entries
returns-clause-entries c m none = empty-entries c.new.result.entries m c.new.ensures.ordered c.new.ensures.empty none
