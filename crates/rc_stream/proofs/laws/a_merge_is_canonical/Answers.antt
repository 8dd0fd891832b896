-- The law is a lemma.
use Rattle.rc_stream.proofs.MergeLaws.{ordered-merged, telling-merged}
use Rattle.rc_stream.proofs.laws.a_merge_is_canonical.Goals as goal

pub returns-clause-ordered : goal.returns-clause-ordered
returns-clause-ordered c = ordered-merged

pub returns-clause-telling : goal.returns-clause-telling
returns-clause-telling c = telling-merged
