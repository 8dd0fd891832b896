use Rattle.lsa_store.specs.laws.Written.{set-here, set-others, set-bodies}
use Rattle.lsa_store.proofs.laws.a_written_word_reads_back.Goals as goal

pub returns-clause-here : goal.returns-clause-here
returns-clause-here c = set-here

pub returns-clause-others : goal.returns-clause-others
returns-clause-others c = set-others

pub returns-clause-bodies : goal.returns-clause-bodies
returns-clause-bodies c = set-bodies
