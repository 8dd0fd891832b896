use Rattle.lsa_region.specs.Region.{body}
use Rattle.rc_object.specs.laws.OneValue.{heads_same, entries_same, statics_same}
use Rattle.rc_object.proofs.laws.an_object_holds_one_value.Goals as goal

pub returns-clause-head : goal.returns-clause-head
returns-clause-head c = λ v r x y h k. heads_same (body v r) x y h k

pub returns-clause-entry : goal.returns-clause-entry
returns-clause-entry c = λ v r x y h k. entries_same (body v r) x y h k

pub returns-clause-statics : goal.returns-clause-statics
returns-clause-statics c = λ v r x y h k. statics_same (body v r) x y h.0 k.0 h.1 k.1
