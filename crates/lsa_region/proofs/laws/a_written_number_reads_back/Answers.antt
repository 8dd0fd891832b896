use Rattle.lsa_region.specs.laws.Fields.{number-written}
use Rattle.lsa_region.proofs.laws.a_written_number_reads_back.Goals as goal

pub returns : goal.returns
returns c = number-written
