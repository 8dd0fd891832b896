use Rattle.rc_core.specs.laws.Populating.{row-populated, row-form}
use Rattle.rc_core.proofs.laws.keeping.a_filled_row_keeps_the_whole_chain.Goals as goal

pub returns : goal.returns
returns c = record { chain = row-populated; form = row-form }
