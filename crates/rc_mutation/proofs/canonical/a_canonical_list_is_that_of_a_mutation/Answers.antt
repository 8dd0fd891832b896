-- The law is two lemmas.
use Rattle.rc_mutation.specs.laws.Rebuilt.{is-rebuilt}
use Rattle.rc_mutation.proofs.Same.{same_list}
use Rattle.rc_mutation.proofs.canonical.a_canonical_list_is_that_of_a_mutation.Goals as goal

pub returns : goal.returns
returns c = record { is_of_one = is-rebuilt; and_no_other = same_list }
