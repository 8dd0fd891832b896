use Rattle.rc_core.specs.laws.Freeing.{freed-state}
use Rattle.rc_core.proofs.laws.pinning.a_freed_entry_is_said_no_more.Goals as goal

pub returns : goal.returns
returns c = freed-state
