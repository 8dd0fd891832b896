use Rattle.rc_core.specs.laws.Memtables.{left-alone}
use Rattle.rc_core.proofs.laws.memtables.a_write_is_not_seen_below.Goals as goal

pub returns : goal.returns
returns c = left-alone
