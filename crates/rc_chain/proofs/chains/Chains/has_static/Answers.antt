use Rattle.std.proofs.Common.{◌∙◌, arith}
use Rattle.rc_chain.proofs.Ending.{held-whole, static-there}
use Rattle.rc_chain.proofs.Reading.{memory-now}
use Rattle.rc_chain.proofs.chains.Chains.has_static.Goals as goal

pub static_row-requires : goal.static_row-requires
static_row-requires g c =
    let s = c.self.inside in let n = memory-now g.row.S s.recency s.region s.registry s.counts s.memory c.args.self.now c.self.view_is c.self.invariant.0 c.self.invariant.1 in
    (omega arith, held-whole s.recency s.region s.registry s.counts c.args.self.now n.held c.args.id c.args.number c.version-v.result c.requires c.version-v.ensures)

pub returns : goal.returns
returns g c =
    λ k v e at. let s = c.self.inside in let n = memory-now g.row.S s.recency s.region s.registry s.counts s.memory c.args.self.now c.self.view_is c.self.invariant.0 c.self.invariant.1 in
    c.is_some.ensures ∙ static-there s.recency s.region s.registry s.counts c.args.self.now n.held c.args.id c.args.number c.version-v.result c.requires c.version-v.ensures c.static_row.result c.static_row.ensures.held k v e at
