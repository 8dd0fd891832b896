use Rattle.rc_core.specs.laws.Surgery.{last-gap-lost}
use Rattle.rc_core.specs.laws.Spots.{taken_out}
use Rattle.rc_core.proofs.laws.surgery.one_entry_is_taken_out.Goals as goal

pub returns : goal.returns
returns c = record { entry = taken_out; last = last-gap-lost }
