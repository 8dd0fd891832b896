use Rattle.std.proofs.Common.{arith}
use Rattle.rc_entries.proofs.index.make_room.Goals as goal

pub returns-clause-room : goal.returns-clause-room
returns-clause-room c = let room = c.in_ok-reserve.ensures.ok in omega (arith, room)
