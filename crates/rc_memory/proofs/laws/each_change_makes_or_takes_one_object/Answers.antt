use Rattle.rc_memory.specs.laws.Entries.{here-joined, here-split, keeps-dropped, keeps-joined, keeps-split, only-dropped, only-joined, only-split}
use Rattle.rc_memory.proofs.laws.each_change_makes_or_takes_one_object.Goals as goal

pub returns-clause-split : goal.returns-clause-split
returns-clause-split c = λ v x ends. (here-split v x ends, keeps-split v x, only-split v x)

pub returns-clause-joined : goal.returns-clause-joined
returns-clause-joined c = λ v x row ends. (here-joined v x ends row, keeps-joined v x row, only-joined v x row)

pub returns-clause-dropped : goal.returns-clause-dropped
returns-clause-dropped c = λ v x a. (keeps-dropped v x, only-dropped v x a)
