use Rattle.rc_core.specs.Change.{gap_split}
use Rattle.rc_core.specs.Continuity.{with_entries}
use Rattle.rc_core.specs.laws.Spots.{split-seen}
use Rattle.rc_version.proofs.laws.a_split_changes_no_answer.Goals as goal

pub returns : goal.returns
returns c = λ S old new n x r refs d one h. let k = one.entries refs d h in (k.0, with_entries (gap_split x d.entries) d, k.2, λ s. split-seen s x d.entries)
