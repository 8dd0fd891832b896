use Rattle.std.proofs.Common.{◌-◌}
use Rattle.lsa_pool.specs.Room.{spare_of}
use Rattle.lsa_move.proofs.Rounds.{IsMakingRoom}
use Rattle.lsa_move.proofs.room.ensure.Given as goal

abbrev pub invariant-loop-region : goal.invariant-loop-region
invariant-loop-region g l = IsMakingRoom g.row.S l.need l.fn.region l.region

abbrev pub decreases-loop-region : goal.decreases-loop-region
decreases-loop-region g l = l.need - spare_of g.row.S l.region.usages
