use Rattle.lsa_region.specs.Region.{body}
use Rattle.rc_object.specs.laws.OneValue.{level_kept}
use Rattle.rc_object.proofs.laws.an_object_stays_where_its_bytes_stay.Goals as goal

pub returns-clause-level : goal.returns-clause-level
returns-clause-level c = λ old new r e h same. level_kept (body old r) (body new r) e h same
