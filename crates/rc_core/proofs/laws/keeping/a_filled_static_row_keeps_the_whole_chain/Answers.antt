use Rattle.rc_core.specs.laws.Populating.{statics-populated, statics-form}
use Rattle.rc_core.proofs.laws.keeping.a_filled_static_row_keeps_the_whole_chain.Goals as goal

pub returns : goal.returns
returns c = record { chain = statics-populated; form = statics-form }
