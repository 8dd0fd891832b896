-- What was done so far to make room.
use Rattle.std.proofs.Common.{length}
use Rattle.rc_evict.proofs.Rounds.{IsRound}
use Rattle.rc_evict.proofs.making.make_room.Given as goal

abbrev pub invariant-loop-chains : goal.invariant-loop-chains
invariant-loop-chains g l = IsRound g.row.S l.need l.initial.chains l.chains

abbrev pub decreases-loop-chains : goal.decreases-loop-chains
decreases-loop-chains g l = length l.chains.recency
