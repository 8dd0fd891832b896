use Rattle.lsa_kinds.specs.laws.Fields.{number-spelled}
use Rattle.lsa_kinds.proofs.laws.a_spelled_number_reads_back.Goals as goal

pub returns : goal.returns
returns c = number-spelled
