use Rattle.rc_units.proofs.Freed.{entry-less, statics-less, version-less}
use Rattle.rc_units.proofs.laws.chaining.a_freed_object_leaves_less.Goals as goal

pub returns : goal.returns
returns c = record { entry = entry-less; statics = statics-less; version = version-less }
