use Rattle.std.proofs.Common.{arith}
use Rattle.lsa_yard.proofs.Segments.{long-at, counted}
use Rattle.lsa_yard.proofs.yards.Yards.room.Goals as goal

pub room-requires : goal.room-requires
room-requires g c = omega (arith, c.requires, counted c.self.inside.segments c.args.self.now c.self.view_is)

pub returns : goal.returns
returns g c = omega (arith, c.room.ensures, long-at g.row.S c.self.inside.segments c.args.self.now c.args.n c.self.invariant c.self.view_is)
