-- The law is a lemma.
use Rattle.rc_writes.specs.laws.OnePlace.{single-place}
use Rattle.rc_writes.proofs.laws.a_single_write_is_to_one_place.Goals as goal

pub returns : goal.returns
returns c = single-place
