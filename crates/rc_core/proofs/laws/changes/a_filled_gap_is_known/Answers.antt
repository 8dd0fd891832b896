use Rattle.rc_core.specs.declared.entries.Flag.TheVariants.{Known}
use Rattle.rc_core.specs.Change.{mark}
use Rattle.rc_core.specs.laws.Spots.{change-seen}
use Rattle.rc_core.proofs.laws.changes.a_filled_gap_is_known.Goals as goal

pub returns : goal.returns
returns c = λ s from to tomb es b. change-seen (λ m. mark Known tomb) s from to es b
