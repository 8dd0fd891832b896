use Rattle.rc_core.specs.laws.Surgery.{seen-on, seen-behind}
use Rattle.rc_core.proofs.laws.surgery.an_entry_is_seen_at_its_position.Goals as goal

pub returns : goal.returns
returns c = record { at = seen-on; behind = seen-behind }
