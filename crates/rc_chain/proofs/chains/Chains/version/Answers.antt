use Rattle.std.proofs.Common.{sym, arith}
use Rattle.rc_chain.proofs.Reading.{memory-now, there, version-found, version-has, version-stands}
use Rattle.rc_chain.proofs.chains.Chains.version.Goals as goal

pub get-requires : goal.get-requires
get-requires g c =
    let s = c.self.inside in let n = memory-now g.row.S s.recency s.region s.registry s.counts s.memory c.args.self.now c.self.view_is c.self.invariant.0 c.self.invariant.1 in
    there s.recency s.region s.registry s.counts c.args.self.now n.held c.args.id (version-has c.args.self.now c.args.id c.args.number c.requires)

pub version-requires : goal.version-requires
version-requires g c =
    let s = c.self.inside in let n = memory-now g.row.S s.recency s.region s.registry s.counts s.memory c.args.self.now c.self.view_is c.self.invariant.0 c.self.invariant.1 in
    let a = version-stands s.recency s.region s.registry s.counts c.args.self.now n.held c.args.id c.args.number c.get.result.now c.requires c.get.ensures in
    (omega arith, (s.recency, a.front, a.number.older, a.version, a.number.newer, a.back, n.held.listed, a.stands, a.number.number))

pub returns : goal.returns
returns g c =
    let s = c.self.inside in let n = memory-now g.row.S s.recency s.region s.registry s.counts s.memory c.args.self.now c.self.view_is c.self.invariant.0 c.self.invariant.1 in
    let a = version-stands s.recency s.region s.registry s.counts c.args.self.now n.held c.args.id c.args.number c.get.result.now c.requires c.get.ensures in
    version-found c.args.self.now c.args.id c.args.number a.partition a.version c.version.result a.at a.number (sym (c.version.ensures s.recency a.front a.number.older a.version a.number.newer a.back n.held.listed a.stands a.number.number))
