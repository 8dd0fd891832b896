use Rattle.rc_units.proofs.Cleaned.{cleaned-chain, cleaned-form, cleaned-carried, cleaned-memtable, cleaned-stands}
use Rattle.rc_units.proofs.laws.chaining.a_unit_of_the_cleaner_keeps_the_whole_chain.Goals as goal

pub returns : goal.returns
returns c = record { chain = cleaned-chain; form = cleaned-form; carried = cleaned-carried; memtable = cleaned-memtable; stands = cleaned-stands }
