use Rattle.lsa_store.specs.laws.Places.{changed-here, changed-others, changed-total}
use Rattle.lsa_store.proofs.laws.one_cell_is_changed.Goals as goal

pub returns-clause-here : goal.returns-clause-here
returns-clause-here c = λ old new r change c w here. changed-here old new r change w c here

pub returns-clause-others : goal.returns-clause-others
returns-clause-others c = λ old new r change c w here. changed-others old new r change w c here

pub returns-clause-sums : goal.returns-clause-sums
returns-clause-sums c = λ old new r change c w here. changed-total old new r change w c here
