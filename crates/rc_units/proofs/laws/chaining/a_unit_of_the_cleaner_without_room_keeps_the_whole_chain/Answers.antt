use Rattle.rc_units.proofs.Cleaned.{lost-cleaned-chain, lost-cleaned-form, lost-known-each, lost-needed}
use Rattle.rc_units.proofs.laws.chaining.a_unit_of_the_cleaner_without_room_keeps_the_whole_chain.Goals as goal

pub returns : goal.returns
returns c = record { chain = lost-cleaned-chain; form = lost-cleaned-form; known = lost-known-each; needed = lost-needed }
