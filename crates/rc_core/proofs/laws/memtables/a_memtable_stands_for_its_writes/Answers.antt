use Rattle.rc_core.specs.laws.Written.{nothing-stands, added-stands, alike-stands, same-stands}
use Rattle.rc_core.proofs.laws.memtables.a_memtable_stands_for_its_writes.Goals as goal

pub returns : goal.returns
returns c = record { fresh = nothing-stands; added = added-stands; alike = alike-stands; same = same-stands }
