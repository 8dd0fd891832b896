use Rattle.std.proofs.Common.{◌↔◌, IsTrue, sym, subst, arith}
use Rattle.std.specs.Prelude.{Contains}
use Rattle.lsa_list.specs.laws.Lists.{recency-ends}
use Rattle.rc_chain.proofs.Ending.{listed-either}
use Rattle.rc_chain.proofs.Reading.{memory-now, recency-at}
use Rattle.rc_chain.proofs.chains.Chains.is_listed.Goals as goal

pub link_of-requires : goal.link_of-requires
link_of-requires g c =
    let s = c.self.inside in let n = memory-now g.row.S s.recency s.region s.registry s.counts s.memory c.args.self.now c.self.view_is c.self.invariant.0 c.self.invariant.1 in
    (omega arith, (recency-ends s.region c.args.r (recency-at s.recency s.region s.registry s.counts c.args.self.now n.held c.args.r c.requires.0 c.requires.1)).0)

pub returns : goal.returns
returns g c =
    λ w at.
    let s = c.self.inside in let n = memory-now g.row.S s.recency s.region s.registry s.counts s.memory c.args.self.now c.self.view_is c.self.invariant.0 c.self.invariant.1 in
    subst (λ b. IsTrue b ↔ Contains c.args.self.now.recency w) (sym c.is_some.ensures) (listed-either s.recency s.region s.registry s.counts c.args.self.now n.held c.args.r w at c.link_of.result (sym c.link_of.ensures))
