use Rattle.rc_units.proofs.Cleaned.{cleaned-seen, cleaned-needed, pins-left}
use Rattle.rc_units.proofs.laws.chaining.a_unit_of_the_cleaner_changes_nothing_that_is_read.Goals as goal

pub returns : goal.returns
returns c = record { seen = cleaned-seen; needed = cleaned-needed; pins = pins-left }
