use Rattle.rc_spliced.proofs.Splicing.{one_splice, spliced}
use Rattle.rc_spliced.proofs.laws.two_mutations_have_a_splice.Goals as goal

pub returns-clause-splice : goal.returns-clause-splice
returns-clause-splice c = spliced

pub returns-clause-one : goal.returns-clause-one
returns-clause-one c = one_splice
