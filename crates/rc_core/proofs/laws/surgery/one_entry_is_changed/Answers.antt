use Rattle.rc_core.specs.laws.Surgery.{entry-at}
use Rattle.rc_core.proofs.laws.surgery.one_entry_is_changed.Goals as goal

pub returns : goal.returns
returns c = entry-at
