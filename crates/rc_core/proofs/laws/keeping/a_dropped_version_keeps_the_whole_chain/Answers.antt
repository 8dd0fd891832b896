use Rattle.rc_core.specs.laws.Merged.{dropped-whole, dropped-form, dropped-seen-each}
use Rattle.rc_core.proofs.laws.keeping.a_dropped_version_keeps_the_whole_chain.Goals as goal

pub returns : goal.returns
returns c = record { chain = dropped-whole; form = dropped-form; seen = dropped-seen-each }
