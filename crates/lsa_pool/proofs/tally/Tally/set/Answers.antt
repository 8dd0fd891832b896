use Rattle.std.proofs.Common.{◌<◌, length, ap, arith}
use Rattle.lsa_pool.proofs.Tallies.{live-within}
use Rattle.lsa_pool.proofs.tally.Tally.set.Goals as goal

pub overflow_add-self : goal.overflow_add-self
overflow_add-self g c =
    let i = c.self.inside in let us = i.usages.items in let n = c.args.n in
    let lt : n < length us = omega (arith, c.requires.inside, ap length c.self.view_is) in
    let bound = live-within g.row.S i.live i.sparse us c.self.invariant n c.args.usage lt in
    omega (arith, bound.1, c.requires.small)
