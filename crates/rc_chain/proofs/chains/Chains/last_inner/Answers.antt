use Rattle.std.proofs.Common.{[], sym, subst, arith}
use Rattle.rc_version.specs.Versions.{IsVersionOf}
use Rattle.rc_chain.proofs.Ending.{held-whole, inner-either}
use Rattle.rc_chain.proofs.Reading.{memory-now}
use Rattle.rc_chain.proofs.chains.Chains.last_inner.Goals as goal

pub end_entry-end-requires : goal.end_entry-end-requires
end_entry-end-requires g c =
    let s = c.self.inside in let n = memory-now g.row.S s.recency s.region s.registry s.counts s.memory c.args.self.now c.self.view_is c.self.invariant.0 c.self.invariant.1 in
    (omega arith, held-whole s.recency s.region s.registry s.counts c.args.self.now n.held c.args.id c.args.number c.version-v.result c.requires c.version-v.ensures)

pub entry_before-requires : goal.entry_before-requires
entry_before-requires g c =
    let s = c.self.inside in let n = memory-now g.row.S s.recency s.region s.registry s.counts s.memory c.args.self.now c.self.view_is c.self.invariant.0 c.self.invariant.1 in
    let w = held-whole s.recency s.region s.registry s.counts c.args.self.now n.held c.args.id c.args.number c.version-v.result c.requires c.version-v.ensures in let e = c.end_entry-end.ensures w.0 w.1 w.2 in (omega arith, (e.0, [], w.1, subst (λ l. IsVersionOf s.region c.version-v.result l w.1) e.1 w.2))

pub returns-clause-some : goal.returns-clause-some
returns-clause-some g c =
    let s = c.self.inside in let n = memory-now g.row.S s.recency s.region s.registry s.counts s.memory c.args.self.now c.self.view_is c.self.invariant.0 c.self.invariant.1 in
    (inner-either s.recency s.region s.registry s.counts c.args.self.now n.held c.args.id c.args.number c.version-v.result c.requires c.version-v.ensures c.end_entry-end.result c.end_entry-end.ensures c.entry_before.result (λ f b d is. sym (c.entry_before.ensures f b d is))).0

pub returns-clause-none : goal.returns-clause-none
returns-clause-none g c =
    let s = c.self.inside in let n = memory-now g.row.S s.recency s.region s.registry s.counts s.memory c.args.self.now c.self.view_is c.self.invariant.0 c.self.invariant.1 in
    (inner-either s.recency s.region s.registry s.counts c.args.self.now n.held c.args.id c.args.number c.version-v.result c.requires c.version-v.ensures c.end_entry-end.result c.end_entry-end.ensures c.entry_before.result (λ f b d is. sym (c.entry_before.ensures f b d is))).1
