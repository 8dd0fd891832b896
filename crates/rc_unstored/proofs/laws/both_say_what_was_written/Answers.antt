use Rattle.rc_unstored.proofs.Together.{changes-both, names-both}
use Rattle.rc_unstored.proofs.laws.both_say_what_was_written.Goals as goal

pub returns : goal.returns
returns c = record { changes = changes-both; named = names-both }
