use Rattle.rc_position.specs.laws.Bounds.{first_pos-least, last_pos-greatest}
use Rattle.rc_position.proofs.laws.no_bound_is_the_whole_partition.Goals as goal

pub returns-clause-first : goal.returns-clause-first
returns-clause-first c = first_pos-least

pub returns-clause-last : goal.returns-clause-last
returns-clause-last c = last_pos-greatest
