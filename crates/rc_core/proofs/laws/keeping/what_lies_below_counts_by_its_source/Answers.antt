use Rattle.rc_core.specs.laws.Populating.{same-below}
use Rattle.rc_core.proofs.laws.keeping.what_lies_below_counts_by_its_source.Goals as goal

pub returns : goal.returns
returns c = same-below
