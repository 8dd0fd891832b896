use Rattle.rc_units.proofs.Chaining.{shown-updating}
use Rattle.rc_units.proofs.laws.chaining.a_shown_chain_says_whether_it_is_under_update.Goals as goal

pub returns : goal.returns
returns c = shown-updating
