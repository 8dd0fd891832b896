use Rattle.rc_units.proofs.Units.{whole-one, times-seen}
use Rattle.rc_units.proofs.laws.cleaning.a_whole_merge_drops_the_older_version.Goals as goal

pub returns : goal.returns
returns c = record { alone = whole-one; seen = times-seen }
