use Rattle.std.proofs.Common.{◌≡◌, List, sym, subst, arith}
use Rattle.std.specs.Prelude.{IfOk}
use Rattle.rc_core.specs.declared.entries.ChainKind.{ChainKind}
use Rattle.rc_core.specs.Chain.{content, has_flag}
use Rattle.rc_core.specs.Chains.{upto}
use Rattle.rc_core.specs.Version.{Version}
use Rattle.rc_core.specs.Continuity.{static_states}
use Rattle.rc_core.specs.Continuity.{version_tombs}
use Rattle.rc_cell.specs.Orders.{tomb_cmp}
use Rattle.rc_cell.specs.Winner.{greatest}
use Rattle.rc_reading.specs.Reading.{IsRowGiven}
use Rattle.rc_chain.proofs.Read.{read-stands}
use Rattle.rc_chain.proofs.Living.{pin-there}
use Rattle.rc_chain.proofs.Reading.{memory-now, there}
use Rattle.rc_chain.proofs.chains.Chains.head.Goals as goal

pub get-used-requires : goal.get-used-requires
get-used-requires g c =
    let s = c.self.inside in let n = memory-now g.row.S s.recency s.region s.registry s.counts s.memory c.args.self.now c.self.view_is c.self.invariant.0 c.self.invariant.1 in
    there s.recency s.region s.registry s.counts c.args.self.now n.held c.args.s.now.chain (pin-there c.args.self.now c.args.s.now.chain c.args.s.now.pin c.requires)

pub head-requires : goal.head-requires
head-requires g c =
    let s = c.self.inside in let n = memory-now g.row.S s.recency s.region s.registry s.counts s.memory c.args.self.now c.self.view_is c.self.invariant.0 c.self.invariant.1 in
    let r = read-stands g.row.S s.recency s.region s.registry s.counts c.args.self.now n c.args.s.now.chain c.args.s.now.pin c.get-used.result.now c.get-used.ensures c.pinned_at-number.result (λ k e. c.pinned_at-number.ensures k e) c.requires in (omega arith, (r.0, r.1))

pub returns-clause-pt : goal.returns-clause-pt
returns-clause-pt g c =
    λ k j e pinned.
    let s = c.self.inside in let n = memory-now g.row.S s.recency s.region s.registry s.counts s.memory c.args.self.now c.self.view_is c.self.invariant.0 c.self.invariant.1 in
    let r = read-stands g.row.S s.recency s.region s.registry s.counts c.args.self.now n c.args.s.now.chain c.args.s.now.pin c.get-used.result.now c.get-used.ensures c.pinned_at-number.result (λ k e. c.pinned_at-number.ensures k e) c.requires in let w = r.2 k j e pinned in
    subst (λ (vs : List Version). IfOk c.head.result (λ h. h.pt ≡ greatest tomb_cmp (version_tombs vs))) (w.0) (c.head.ensures.pt r.0 r.1)

pub returns-clause-known : goal.returns-clause-known
returns-clause-known g c =
    λ k j e pinned.
    let s = c.self.inside in let n = memory-now g.row.S s.recency s.region s.registry s.counts s.memory c.args.self.now c.self.view_is c.self.invariant.0 c.self.invariant.1 in
    let r = read-stands g.row.S s.recency s.region s.registry s.counts c.args.self.now n c.args.s.now.chain c.args.s.now.pin c.get-used.result.now c.get-used.ensures c.pinned_at-number.result (λ k e. c.pinned_at-number.ensures k e) c.requires in let w = r.2 k j e pinned in
    subst (λ (q : ChainKind). IfOk c.head.result (λ h. h.known ≡ has_flag q (static_states (upto k.chain.versions j)))) (sym w.1) (subst (λ (vs : List Version). IfOk c.head.result (λ h. h.known ≡ has_flag c.get-used.result.now.kind (static_states vs))) w.0 (c.head.ensures.known r.0 r.1))

pub returns-clause-row : goal.returns-clause-row
returns-clause-row g c =
    λ k j e pinned.
    let s = c.self.inside in let n = memory-now g.row.S s.recency s.region s.registry s.counts s.memory c.args.self.now c.self.view_is c.self.invariant.0 c.self.invariant.1 in
    let r = read-stands g.row.S s.recency s.region s.registry s.counts c.args.self.now n c.args.s.now.chain c.args.s.now.pin c.get-used.result.now c.get-used.ensures c.pinned_at-number.result (λ k e. c.pinned_at-number.ensures k e) c.requires in let w = r.2 k j e pinned in
    subst (λ (vs : List Version). IfOk c.head.result (λ h. IsRowGiven h.row (content (static_states vs)).0)) (w.0) (c.head.ensures.row r.0 r.1)
