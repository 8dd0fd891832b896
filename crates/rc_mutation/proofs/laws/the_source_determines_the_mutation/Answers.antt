use Rattle.rc_mutation.specs.laws.Sources.{source-determined}
use Rattle.rc_mutation.proofs.laws.the_source_determines_the_mutation.Goals as goal

pub returns : goal.returns
returns c = source-determined
