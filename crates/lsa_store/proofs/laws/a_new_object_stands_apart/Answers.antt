use Rattle.lsa_store.specs.laws.Written.{made-fresh, made-here, made-others, made-words, made-count}
use Rattle.lsa_store.proofs.laws.a_new_object_stands_apart.Goals as goal

pub returns-clause-fresh : goal.returns-clause-fresh
returns-clause-fresh c = made-fresh

pub returns-clause-here : goal.returns-clause-here
returns-clause-here c = made-here

pub returns-clause-others : goal.returns-clause-others
returns-clause-others c = made-others

pub returns-clause-words : goal.returns-clause-words
returns-clause-words c = made-words

pub returns-clause-count : goal.returns-clause-count
returns-clause-count c = made-count
