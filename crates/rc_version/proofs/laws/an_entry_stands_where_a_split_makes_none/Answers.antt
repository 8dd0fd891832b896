use Rattle.rc_version.specs.laws.Found.{split-standing, standing-split}
use Rattle.rc_version.proofs.laws.an_entry_stands_where_a_split_makes_none.Goals as goal

pub returns : goal.returns
returns c = λ d x is. (split-standing x d.entries is.ascend, standing-split x d is)
