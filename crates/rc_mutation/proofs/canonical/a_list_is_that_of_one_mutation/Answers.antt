-- The law is a lemma.
use Rattle.rc_mutation.proofs.Same.{same_clustered}
use Rattle.rc_mutation.proofs.canonical.a_list_is_that_of_one_mutation.Goals as goal

pub returns : goal.returns
returns c = same_clustered
