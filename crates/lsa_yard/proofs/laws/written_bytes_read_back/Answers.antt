use Rattle.lsa_yard.specs.laws.Objects.{body-written, link-written}
use Rattle.lsa_yard.proofs.laws.written_bytes_read_back.Goals as goal

pub returns-clause-body : goal.returns-clause-body
returns-clause-body c = body-written

pub returns-clause-links : goal.returns-clause-links
returns-clause-links c = link-written
