use Rattle.lsa_store.specs.laws.Sums.{weigh-most, weigh-whole}
use Rattle.lsa_store.proofs.laws.objects_are_weighed_once.Goals as goal

pub returns-clause-most : goal.returns-clause-most
returns-clause-most c = weigh-most

pub returns-clause-whole : goal.returns-clause-whole
returns-clause-whole c = weigh-whole
