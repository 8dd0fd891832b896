use Rattle.lsa_store.specs.laws.Written.{written-here, written-others, written-words}
use Rattle.lsa_store.proofs.laws.written_bytes_read_back.Goals as goal

pub returns-clause-here : goal.returns-clause-here
returns-clause-here c = written-here

pub returns-clause-others : goal.returns-clause-others
returns-clause-others c = written-others

pub returns-clause-words : goal.returns-clause-words
returns-clause-words c = written-words
