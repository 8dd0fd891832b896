use Rattle.rc_units.proofs.Chaining.{lost-chain, lost-form}
use Rattle.rc_units.proofs.laws.chaining.a_unit_without_room_keeps_the_whole_chain.Goals as goal

pub returns : goal.returns
returns c = record { chain = lost-chain; form = lost-form }
