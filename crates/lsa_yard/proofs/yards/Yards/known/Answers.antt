use Rattle.std.proofs.Common.{subst, arith}
use Rattle.std.specs.Prelude.{All}
use Rattle.lsa_yard.specs.Spelled.{IsProper}
use Rattle.lsa_yard.proofs.Segments.{long-at, seen-at}
use Rattle.lsa_yard.proofs.yards.Yards.known.Goals as goal

pub returns-clause-proper : goal.returns-clause-proper
returns-clause-proper g c n = subst (All IsProper) (seen-at c.self.inside.segments c.args.self.now n c.self.view_is) (c.self.invariant.each n).proper

pub returns-clause-within : goal.returns-clause-within
returns-clause-within g c n = omega (arith, long-at g.row.S c.self.inside.segments c.args.self.now n c.self.invariant c.self.view_is, (c.self.invariant.each n).within)

pub returns-clause-small : goal.returns-clause-small
returns-clause-small g c = (c.self.invariant.each 0).small
