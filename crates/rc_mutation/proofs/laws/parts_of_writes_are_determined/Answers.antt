-- The law is two lemmas.
use Rattle.rc_mutation.specs.laws.Parts.{parts-determined, units-determined}
use Rattle.rc_mutation.proofs.laws.parts_of_writes_are_determined.Goals as goal

pub returns : goal.returns
returns c = record { parts = parts-determined; units = units-determined }
