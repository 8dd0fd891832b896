use Rattle.rc_folder.specs.laws.Over.{fresh}
use Rattle.rc_folder.proofs.laws.next_number_is_no_files.Goals as goal

pub returns : goal.returns
returns c = fresh
