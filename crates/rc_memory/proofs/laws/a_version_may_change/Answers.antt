use Rattle.rc_memory.specs.laws.Changed.{held-changed}
use Rattle.rc_memory.specs.laws.Statics.{held-entries}
use Rattle.rc_memory.proofs.laws.a_version_may_change.Goals as goal

pub returns-clause-changed : goal.returns-clause-changed
returns-clause-changed c = λ slots old new registry counts m id j p s now d h summed well summed_new there number kept_but is weigh rows. held-changed slots old new registry counts m h id j p s there number now d kept_but is rows summed well summed_new weigh

pub returns-clause-entries : goal.returns-clause-entries
returns-clause-entries c = λ slots old new registry counts m id j p s now d h summed well summed_new there number kept_but is weigh parts entries. held-entries slots old new registry counts m h id j p s there number now d kept_but is summed well summed_new weigh parts entries
