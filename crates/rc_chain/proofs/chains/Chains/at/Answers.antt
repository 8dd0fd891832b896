use Rattle.std.proofs.Common.{◌≡◌, ◌↔◌, List, IsTrue, sym, subst, arith}
use Rattle.std.specs.Prelude.{IfOk}
use Rattle.rc_core.specs.declared.entries.ChainKind.{ChainKind}
use Rattle.rc_core.specs.Chain.{IsKnown, content, states_at}
use Rattle.rc_core.specs.Chains.{upto}
use Rattle.rc_core.specs.Version.{On, Version}
use Rattle.rc_reading.specs.Reading.{IsRowGiven}
use Rattle.rc_chain.proofs.Read.{read-stands}
use Rattle.rc_chain.proofs.Living.{pin-there}
use Rattle.rc_chain.proofs.Reading.{memory-now, there}
use Rattle.rc_chain.proofs.chains.Chains.at.Goals as goal

pub get-used-requires : goal.get-used-requires
get-used-requires g c =
    let s = c.self.inside in let n = memory-now g.row.S s.recency s.region s.registry s.counts s.memory c.args.self.now c.self.view_is c.self.invariant.0 c.self.invariant.1 in
    there s.recency s.region s.registry s.counts c.args.self.now n.held c.args.s.now.chain (pin-there c.args.self.now c.args.s.now.chain c.args.s.now.pin c.requires)

pub at-requires : goal.at-requires
at-requires g c =
    let s = c.self.inside in let n = memory-now g.row.S s.recency s.region s.registry s.counts s.memory c.args.self.now c.self.view_is c.self.invariant.0 c.self.invariant.1 in
    let r = read-stands g.row.S s.recency s.region s.registry s.counts c.args.self.now n c.args.s.now.chain c.args.s.now.pin c.get-used.result.now c.get-used.ensures c.pinned_at-number.result (λ k e. c.pinned_at-number.ensures k e) c.requires in (omega arith, (r.0, r.1))

pub returns-clause-known : goal.returns-clause-known
returns-clause-known g c =
    λ k j e pinned.
    let s = c.self.inside in let n = memory-now g.row.S s.recency s.region s.registry s.counts s.memory c.args.self.now c.self.view_is c.self.invariant.0 c.self.invariant.1 in
    let r = read-stands g.row.S s.recency s.region s.registry s.counts c.args.self.now n c.args.s.now.chain c.args.s.now.pin c.get-used.result.now c.get-used.ensures c.pinned_at-number.result (λ k e. c.pinned_at-number.ensures k e) c.requires in let w = r.2 k j e pinned in
    subst (λ (q : ChainKind). IfOk c.at.result (λ a. IsTrue a.known ↔ IsKnown q (upto k.chain.versions j) c.args.x.now)) (sym w.1) (subst (λ (vs : List Version). IfOk c.at.result (λ a. IsTrue a.known ↔ IsKnown c.get-used.result.now.kind vs c.args.x.now)) w.0 (c.at.ensures.known r.0 r.1))

pub returns-clause-row : goal.returns-clause-row
returns-clause-row g c =
    λ k j e pinned.
    let s = c.self.inside in let n = memory-now g.row.S s.recency s.region s.registry s.counts s.memory c.args.self.now c.self.view_is c.self.invariant.0 c.self.invariant.1 in
    let r = read-stands g.row.S s.recency s.region s.registry s.counts c.args.self.now n c.args.s.now.chain c.args.s.now.pin c.get-used.result.now c.get-used.ensures c.pinned_at-number.result (λ k e. c.pinned_at-number.ensures k e) c.requires in let w = r.2 k j e pinned in
    subst (λ (vs : List Version). IfOk c.at.result (λ a. IsRowGiven a.row (content (states_at (On c.args.x.now) vs)).0)) (w.0) (c.at.ensures.row r.0 r.1)

pub returns-clause-tomb : goal.returns-clause-tomb
returns-clause-tomb g c =
    λ k j e pinned.
    let s = c.self.inside in let n = memory-now g.row.S s.recency s.region s.registry s.counts s.memory c.args.self.now c.self.view_is c.self.invariant.0 c.self.invariant.1 in
    let r = read-stands g.row.S s.recency s.region s.registry s.counts c.args.self.now n c.args.s.now.chain c.args.s.now.pin c.get-used.result.now c.get-used.ensures c.pinned_at-number.result (λ k e. c.pinned_at-number.ensures k e) c.requires in let w = r.2 k j e pinned in
    subst (λ (vs : List Version). IfOk c.at.result (λ a. a.tomb ≡ (content (states_at (On c.args.x.now) vs)).1)) (w.0) (c.at.ensures.tomb r.0 r.1)
