use Rattle.std.proofs.Common.{arith}
use Rattle.lsa_segment.proofs.Held.{segment, known-used, counted}
use Rattle.lsa_segment.proofs.segments.Segments.room.Goals as goal

pub index-requires : goal.index-requires
index-requires g c = omega (arith, c.requires, known-used g.row.S c.self.inside.used.items c.self.inside.block c.args.self.now c.self.view_is, c.self.inside.used.ok.0)

pub overflow_sub-result : goal.overflow_sub-result
overflow_sub-result g c = let s = segment g.row.S c.self.inside.used.items c.self.inside.block c.args.self.now c.args.n c.self.invariant c.self.view_is c.requires in let u = counted g.row.S c.self.inside.used.items c.self.inside.block c.args.self.now c.args.n c.self.inside.used.len c.index.result.now c.self.invariant c.self.view_is c.requires c.self.inside.used.ok.0 c.index.ensures in omega (arith, s.most, u.0)

pub returns : goal.returns
returns g c = let s = segment g.row.S c.self.inside.used.items c.self.inside.block c.args.self.now c.args.n c.self.invariant c.self.view_is c.requires in let u = counted g.row.S c.self.inside.used.items c.self.inside.block c.args.self.now c.args.n c.self.inside.used.len c.index.result.now c.self.invariant c.self.view_is c.requires c.self.inside.used.ok.0 c.index.ensures in omega (arith, s.most, u.0, u.1)
