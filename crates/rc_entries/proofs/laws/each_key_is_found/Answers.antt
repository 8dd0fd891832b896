use Rattle.rc_entries.proofs.Keys.{added-found, gone-found}
use Rattle.rc_entries.proofs.laws.each_key_is_found.Goals as goal

pub returns : goal.returns
returns c = record { added = λ entries key id q absent. added-found key id entries q absent; gone = gone-found }
