use Rattle.rc_core.proofs.Parting.{one-part}
use Rattle.rc_core.proofs.laws.reading.a_first_part_is_the_only_one.Goals as goal

pub returns : goal.returns
returns c = one-part
