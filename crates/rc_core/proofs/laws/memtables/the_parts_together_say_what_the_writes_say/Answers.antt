use Rattle.rc_core.proofs.Together.{parts-together}
use Rattle.rc_core.proofs.laws.memtables.the_parts_together_say_what_the_writes_say.Goals as goal

pub returns : goal.returns
returns c = parts-together
