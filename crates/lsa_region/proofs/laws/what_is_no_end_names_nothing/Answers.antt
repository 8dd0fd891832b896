use Rattle.lsa_region.specs.laws.Ends.{no-end}
use Rattle.lsa_region.proofs.laws.what_is_no_end_names_nothing.Goals as goal

pub returns : goal.returns
returns c = λ v e well gone. no-end v well e gone
