use Rattle.rc_core.specs.laws.Merged.{merged-whole, merged-form, merged-seen-each}
use Rattle.rc_core.proofs.laws.keeping.a_merged_unit_keeps_the_whole_chain.Goals as goal

pub returns : goal.returns
returns c = record { chain = merged-whole; form = merged-form; seen = merged-seen-each }
