use Rattle.rc_position.specs.laws.Bounds.{place_cmp_total, place_cmp_same}
use Rattle.rc_position.proofs.laws.places_are_totally_ordered.Goals as goal

pub returns-clause-total : goal.returns-clause-total
returns-clause-total c = place_cmp_total

pub returns-clause-same : goal.returns-clause-same
returns-clause-same c = place_cmp_same
