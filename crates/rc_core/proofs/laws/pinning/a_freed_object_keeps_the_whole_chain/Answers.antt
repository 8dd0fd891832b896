use Rattle.rc_core.specs.laws.Freeing.{entry-freed, statics-freed, version-freed}
use Rattle.rc_core.proofs.laws.pinning.a_freed_object_keeps_the_whole_chain.Goals as goal

pub returns : goal.returns
returns c = record { entry = entry-freed; statics = statics-freed; version = version-freed }
