use Rattle.rc_core.specs.laws.Opening.{newest-form, added-form}
use Rattle.rc_core.proofs.laws.keeping.what_leaves_a_chain.Goals as goal

pub returns : goal.returns
returns c = record { newest = newest-form; added = added-form }
