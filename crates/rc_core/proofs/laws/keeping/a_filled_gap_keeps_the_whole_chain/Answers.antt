use Rattle.rc_core.specs.laws.Populating.{gap-populated, gap-form}
use Rattle.rc_core.proofs.laws.keeping.a_filled_gap_keeps_the_whole_chain.Goals as goal

pub returns : goal.returns
returns c = record { chain = gap-populated; form = gap-form }
