use Rattle.lsa_yard.specs.laws.Objects.{body-fresh, link-fresh}
use Rattle.lsa_yard.proofs.laws.a_fresh_object_has_its_bytes.Goals as goal

pub returns-clause-body : goal.returns-clause-body
returns-clause-body c = body-fresh

pub returns-clause-unset : goal.returns-clause-unset
returns-clause-unset c = link-fresh
