use Rattle.lsa_yard.specs.laws.Objects.{body-linked, link-here, link-others}
use Rattle.lsa_yard.proofs.laws.a_set_link_reads_back.Goals as goal

pub returns-clause-here : goal.returns-clause-here
returns-clause-here c = link-here

pub returns-clause-others : goal.returns-clause-others
returns-clause-others c = link-others

pub returns-clause-body : goal.returns-clause-body
returns-clause-body c = body-linked
