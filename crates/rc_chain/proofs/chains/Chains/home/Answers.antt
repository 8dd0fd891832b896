use Rattle.std.proofs.Common.{sym, ap, ◌∙◌, arith}
use Rattle.rc_memory.specs.Kept.{present}
use Rattle.rc_chain.proofs.Reading.{home-place, memory-now, rooted, row-any}
use Rattle.rc_chain.proofs.chains.Chains.home.Goals as goal

pub home-number-requires : goal.home-number-requires
home-number-requires g c =
    let s = c.self.inside in let n = memory-now g.row.S s.recency s.region s.registry s.counts s.memory c.args.self.now c.self.view_is c.self.invariant.0 c.self.invariant.1 in
    let a = home-place s.recency s.region s.registry s.counts c.args.self.now n.held c.args.r c.requires.0 c.requires.1 in
    (omega arith, (s.recency, present c.args.self.now.standing, n.held.listed, n.held.stands, row-any s.recency s.region s.registry s.counts c.args.self.now n.held c.args.r c.requires.0 a))

pub owner-requires : goal.owner-requires
owner-requires g c =
    let s = c.self.inside in let n = memory-now g.row.S s.recency s.region s.registry s.counts s.memory c.args.self.now c.self.view_is c.self.invariant.0 c.self.invariant.1 in
    let w = c.requires.0 in let a = home-place s.recency s.region s.registry s.counts c.args.self.now n.held c.args.r w c.requires.1 in
    let told = c.home-number.ensures s.recency a.front a.used.root a.number.older a.version a.number.newer a.back n.held.listed a.stands a.row in
    (w.chain, rooted s.registry w.chain a.used c.home-number.result.0 a.at (sym (ap (λ x. x.0) told)))

pub returns : goal.returns
returns g c = λ w here.
    let s = c.self.inside in let n = memory-now g.row.S s.recency s.region s.registry s.counts s.memory c.args.self.now c.self.view_is c.self.invariant.0 c.self.invariant.1 in
    let a = home-place s.recency s.region s.registry s.counts c.args.self.now n.held c.args.r w here in
    let told = c.home-number.ensures s.recency a.front a.used.root a.number.older a.version a.number.newer a.back n.held.listed a.stands a.row in
    let id = c.owner.ensures w.chain (rooted s.registry w.chain a.used c.home-number.result.0 a.at (sym (ap (λ x. x.0) told))) in
    λ i. (id i, (ap (λ x. x.1) told ∙ a.number.number) i)
