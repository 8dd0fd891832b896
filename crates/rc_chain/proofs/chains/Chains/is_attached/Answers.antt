use Rattle.std.proofs.Common.{sym, ap}
use Rattle.rc_memory.specs.Memory.{KeptChain}
use Rattle.rc_chain.proofs.Reading.{chain-used, memory-now, there}
use Rattle.rc_chain.proofs.chains.Chains.is_attached.Goals as goal

pub get-requires : goal.get-requires
get-requires g c =
    let s = c.self.inside in let n = memory-now g.row.S s.recency s.region s.registry s.counts s.memory c.args.self.now c.self.view_is c.self.invariant.0 c.self.invariant.1 in
    there s.recency s.region s.registry s.counts c.args.self.now n.held c.args.id c.requires

pub returns : goal.returns
returns g c = λ k e.
    let s = c.self.inside in let n = memory-now g.row.S s.recency s.region s.registry s.counts s.memory c.args.self.now c.self.view_is c.self.invariant.0 c.self.invariant.1 in
    ap (λ (x : KeptChain). x.chain.attached) (sym (chain-used s.recency s.region s.registry s.counts c.args.self.now n.held c.args.id k c.get.result.now e c.get.ensures).3)
