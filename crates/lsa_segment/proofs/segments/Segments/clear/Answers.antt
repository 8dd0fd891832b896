use Rattle.std.proofs.Common.{arith}
use Rattle.lsa_segment.proofs.Held.{known-used, cleared}
use Rattle.lsa_segment.proofs.segments.Segments.clear.Goals as goal

pub index_mut-requires : goal.index_mut-requires
index_mut-requires g c = omega (arith, c.requires, known-used g.row.S c.self.inside.used.items c.self.inside.block c.args.self.now c.self.view_is, c.self.inside.used.ok.0)

pub invariant_of-self : goal.invariant_of-self
invariant_of-self g c = (cleared g.row.S c.self.inside.used.items c.self.inside.block c.args.self.now c.args.n c.self.invariant c.self.view_is c.requires).0

pub returns : goal.returns
returns g c = (cleared g.row.S c.self.inside.used.items c.self.inside.block c.args.self.now c.args.n c.self.invariant c.self.view_is c.requires).1
