use Rattle.lsa_store.specs.laws.Written.{gone-here, gone-unset, gone-others, gone-count}
use Rattle.lsa_store.proofs.laws.a_freed_object_is_gone.Goals as goal

pub returns-clause-here : goal.returns-clause-here
returns-clause-here c = gone-here

pub returns-clause-unset : goal.returns-clause-unset
returns-clause-unset c = gone-unset

pub returns-clause-others : goal.returns-clause-others
returns-clause-others c = gone-others

pub returns-clause-count : goal.returns-clause-count
returns-clause-count c = gone-count
