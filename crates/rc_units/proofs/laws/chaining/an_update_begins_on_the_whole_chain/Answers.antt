use Rattle.rc_units.proofs.Chaining.{begin-chain, begin-form, begin-carried}
use Rattle.rc_units.proofs.laws.chaining.an_update_begins_on_the_whole_chain.Goals as goal

pub returns : goal.returns
returns c = record { chain = begin-chain; form = begin-form; carried = begin-carried }
