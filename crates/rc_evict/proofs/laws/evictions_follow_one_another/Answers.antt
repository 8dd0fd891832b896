use Rattle.rc_evict.proofs.Rounds.{one_budget, one_moved}
use Rattle.rc_evict.proofs.Together.{both-evicted, none-evicted, one-evicted}
use Rattle.rc_evict.proofs.laws.evictions_follow_one_another.Goals as goal

pub returns : goal.returns
returns c = record { one = one-evicted; region = λ sort old new e. (one_budget sort old new e, one_moved sort old new e); none = none-evicted; both = both-evicted }
