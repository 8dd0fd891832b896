use Rattle.rc_units.proofs.Fragmented.{are-stretches}
use Rattle.rc_units.proofs.laws.updating.canonical_fragments_say_what_the_mutation_says.Goals as goal

pub returns : goal.returns
returns c = are-stretches
