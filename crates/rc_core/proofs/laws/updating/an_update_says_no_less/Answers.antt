use Rattle.rc_core.specs.laws.Updates.{more-says}
use Rattle.rc_core.proofs.laws.updating.an_update_says_no_less.Goals as goal

pub returns : goal.returns
returns c = more-says
