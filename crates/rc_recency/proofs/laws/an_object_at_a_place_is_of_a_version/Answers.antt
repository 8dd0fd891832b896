use Rattle.rc_recency.specs.laws.Held.{version-of-member}
use Rattle.rc_recency.proofs.laws.an_object_at_a_place_is_of_a_version.Goals as goal

pub returns : goal.returns
returns c = λ slots v registry counts m id j at e h here. let a = version-of-member slots v registry counts m h id j at e here in (a.0, here.version.version, here.version.object, a.1)
