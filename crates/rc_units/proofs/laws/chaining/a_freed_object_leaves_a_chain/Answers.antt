use Rattle.rc_units.proofs.Freed.{entry-form, statics-form, version-form}
use Rattle.rc_units.proofs.laws.chaining.a_freed_object_leaves_a_chain.Goals as goal

pub returns : goal.returns
returns c = record { entry = entry-form; statics = statics-form; version = version-form }
