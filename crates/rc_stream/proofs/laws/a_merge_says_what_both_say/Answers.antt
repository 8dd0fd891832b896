-- The law is a lemma.
use Rattle.rc_stream.proofs.MergeLaws.{head-merged, rows-merged, tomb-merged, tombs-merged}
use Rattle.rc_stream.proofs.laws.a_merge_says_what_both_say.Goals as goal

pub returns-clause-head : goal.returns-clause-head
returns-clause-head c = head-merged

pub returns-clause-rows : goal.returns-clause-rows
returns-clause-rows c = rows-merged

pub returns-clause-first : goal.returns-clause-first
returns-clause-first c = tomb-merged

pub returns-clause-tombs : goal.returns-clause-tombs
returns-clause-tombs c = tombs-merged
