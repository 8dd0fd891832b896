-- The law is a lemma.
use Rattle.rc_mutation.specs.laws.CanonicalListed.{listed}
use Rattle.rc_mutation.proofs.canonical.a_mutation_has_a_canonical_list.Goals as goal

pub returns : goal.returns
returns c = listed
