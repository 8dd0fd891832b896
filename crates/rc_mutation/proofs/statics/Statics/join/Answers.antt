use Rattle.rc_mutation.proofs.Alone.{after_join}
use Rattle.rc_mutation.proofs.statics.Statics.join.Goals as goal

pub invariant_of-self : goal.invariant_of-self
invariant_of-self c = after_join c.self.inside.row c.other.inside.row c.join.new.self c.join.result c.self.invariant c.other.invariant c.join.ensures.ok c.join.ensures.err
