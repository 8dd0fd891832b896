use Rattle.std.proofs.Common.{sym, ◌∙◌, arith}
use Rattle.rc_chain.proofs.Reading.{chain-stands, kept-length, memory-now, some_of, there}
use Rattle.rc_memory.specs.Memory.{chain_at}
use Rattle.rc_chain.proofs.chains.Chains.versions.Goals as goal

pub get-requires : goal.get-requires
get-requires g c =
    let s = c.self.inside in let n = memory-now g.row.S s.recency s.region s.registry s.counts s.memory c.args.self.now c.self.view_is c.self.invariant.0 c.self.invariant.1 in
    there s.recency s.region s.registry s.counts c.args.self.now n.held c.args.id c.requires

pub count-requires : goal.count-requires
count-requires g c =
    let s = c.self.inside in let n = memory-now g.row.S s.recency s.region s.registry s.counts s.memory c.args.self.now c.self.view_is c.self.invariant.0 c.self.invariant.1 in
    let k = some_of (chain_at c.args.self.now c.args.id) c.requires in let a = chain-stands s.recency s.region s.registry s.counts c.args.self.now n.held c.args.id k.0 c.get.result.now k.1 c.get.ensures in
    (omega arith, (s.recency, a.front, a.partition.versions, a.back, n.held.listed, a.stands))

pub returns : goal.returns
returns g c = λ k e.
    let s = c.self.inside in let n = memory-now g.row.S s.recency s.region s.registry s.counts s.memory c.args.self.now c.self.view_is c.self.invariant.0 c.self.invariant.1 in
    let a = chain-stands s.recency s.region s.registry s.counts c.args.self.now n.held c.args.id k c.get.result.now e c.get.ensures in
    c.count.ensures s.recency a.front a.partition.versions a.back n.held.listed a.stands ∙ sym (kept-length k c.get.result.now a.partition a.same)
