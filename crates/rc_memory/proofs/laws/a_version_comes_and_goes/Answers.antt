use Rattle.rc_memory.specs.laws.Versions.{held-added, held-dropped}
use Rattle.rc_memory.proofs.laws.a_version_comes_and_goes.Goals as goal

pub returns-clause-added : goal.returns-clause-added
returns-clause-added c = λ slots old new registry counts m id p n d h well slots_kept there added statics. held-added slots old new registry counts m h well slots_kept id p there n d added statics

pub returns-clause-dropped : goal.returns-clause-dropped
returns-clause-dropped c = λ slots old new registry counts m id j p s h well slots_kept there number dropped statics. held-dropped slots old new registry counts m h well slots_kept id p there j s number dropped statics
