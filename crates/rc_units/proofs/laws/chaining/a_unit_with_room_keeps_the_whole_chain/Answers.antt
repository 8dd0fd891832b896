use Rattle.rc_units.proofs.Chaining.{unit-chain, unit-form, unit-carried-in}
use Rattle.rc_units.proofs.laws.chaining.a_unit_with_room_keeps_the_whole_chain.Goals as goal

pub returns : goal.returns
returns c = record { chain = unit-chain; form = unit-form; carried = unit-carried-in }
