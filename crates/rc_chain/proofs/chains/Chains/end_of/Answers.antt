use Rattle.std.proofs.Common.{arith}
use Rattle.rc_chain.proofs.Ending.{end-member, held-whole}
use Rattle.rc_chain.proofs.Reading.{memory-now}
use Rattle.rc_chain.proofs.chains.Chains.end_of.Goals as goal

pub end_entry-requires : goal.end_entry-requires
end_entry-requires g c =
    let s = c.self.inside in let n = memory-now g.row.S s.recency s.region s.registry s.counts s.memory c.args.self.now c.self.view_is c.self.invariant.0 c.self.invariant.1 in
    (omega arith, held-whole s.recency s.region s.registry s.counts c.args.self.now n.held c.args.id c.args.number c.version-v.result c.requires c.version-v.ensures)

pub returns : goal.returns
returns g c =
    let s = c.self.inside in let n = memory-now g.row.S s.recency s.region s.registry s.counts s.memory c.args.self.now c.self.view_is c.self.invariant.0 c.self.invariant.1 in
    end-member s.recency s.region s.registry s.counts c.args.self.now n.held c.args.id c.args.number c.version-v.result c.requires c.version-v.ensures c.end_entry.result c.end_entry.ensures
