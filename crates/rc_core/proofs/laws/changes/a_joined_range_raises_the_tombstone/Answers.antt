use Rattle.std.specs.Prelude.{Some}
use Rattle.rc_core.specs.Change.{raised_mark}
use Rattle.rc_core.specs.laws.Spots.{change-seen}
use Rattle.rc_core.proofs.laws.changes.a_joined_range_raises_the_tombstone.Goals as goal

pub returns : goal.returns
returns c = λ s from to tomb es b. change-seen (raised_mark (Some tomb)) s from to es b
