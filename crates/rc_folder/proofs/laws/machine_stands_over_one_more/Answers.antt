use Rattle.rc_folder.specs.laws.Over.{over_added}
use Rattle.rc_folder.proofs.laws.machine_stands_over_one_more.Goals as goal

pub returns : goal.returns
returns c = over_added
