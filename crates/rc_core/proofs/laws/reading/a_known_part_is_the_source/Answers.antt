use Rattle.rc_core.proofs.Parting.{gap-is-source, row-is-source}
use Rattle.rc_core.proofs.laws.reading.a_known_part_is_the_source.Goals as goal

pub returns : goal.returns
returns c = record { gap = gap-is-source; row = row-is-source }
