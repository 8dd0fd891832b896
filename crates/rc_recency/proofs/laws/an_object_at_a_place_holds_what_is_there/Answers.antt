use Rattle.rc_recency.specs.laws.Placed.{placed-entry, placed-static}
use Rattle.rc_recency.proofs.laws.an_object_at_a_place_holds_what_is_there.Goals as goal

pub returns-clause-entry : goal.returns-clause-entry
returns-clause-entry c = λ slots v registry counts m id j k d n r x h here. placed-entry slots v registry counts m id j k d n h r x here

pub returns-clause-statics : goal.returns-clause-statics
returns-clause-statics c = λ slots v registry counts m id j k d n r h here. placed-static slots v registry counts m id j k d n h r here
