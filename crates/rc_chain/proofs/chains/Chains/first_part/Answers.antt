use Rattle.std.proofs.Common.{List, sym, subst, arith}
use Rattle.std.specs.Prelude.{IfOk}
use Rattle.rc_core.specs.declared.entries.ChainKind.{ChainKind}
use Rattle.rc_core.specs.Chains.{upto}
use Rattle.rc_core.specs.Parts.{IsFirstPart}
use Rattle.rc_core.specs.Version.{Version}
use Rattle.rc_chain.proofs.Read.{read-stands}
use Rattle.rc_chain.proofs.Living.{pin-there}
use Rattle.rc_chain.proofs.Reading.{memory-now, there}
use Rattle.rc_chain.proofs.chains.Chains.first_part.Goals as goal

pub get-used-requires : goal.get-used-requires
get-used-requires g c =
    let s = c.self.inside in let n = memory-now g.row.S s.recency s.region s.registry s.counts s.memory c.args.self.now c.self.view_is c.self.invariant.0 c.self.invariant.1 in
    there s.recency s.region s.registry s.counts c.args.self.now n.held c.args.s.now.chain (pin-there c.args.self.now c.args.s.now.chain c.args.s.now.pin c.requires.pin)

pub first_part-requires : goal.first_part-requires
first_part-requires g c =
    let s = c.self.inside in let n = memory-now g.row.S s.recency s.region s.registry s.counts s.memory c.args.self.now c.self.view_is c.self.invariant.0 c.self.invariant.1 in
    let r = read-stands g.row.S s.recency s.region s.registry s.counts c.args.self.now n c.args.s.now.chain c.args.s.now.pin c.get-used.result.now c.get-used.ensures c.pinned_at-number.result (λ k e. c.pinned_at-number.ensures k e) c.requires.pin in (omega arith, ((r.0, r.1), c.requires.ahead))

pub returns : goal.returns
returns g c =
    λ k j e pinned.
    let s = c.self.inside in let n = memory-now g.row.S s.recency s.region s.registry s.counts s.memory c.args.self.now c.self.view_is c.self.invariant.0 c.self.invariant.1 in
    let r = read-stands g.row.S s.recency s.region s.registry s.counts c.args.self.now n c.args.s.now.chain c.args.s.now.pin c.get-used.result.now c.get-used.ensures c.pinned_at-number.result (λ k e. c.pinned_at-number.ensures k e) c.requires.pin in let w = r.2 k j e pinned in
    subst (λ (q : ChainKind). IfOk c.first_part.result (IsFirstPart q (upto k.chain.versions j) c.args.x.now c.args.bound.now)) (sym w.1) (subst (λ (vs : List Version). IfOk c.first_part.result (IsFirstPart c.get-used.result.now.kind vs c.args.x.now c.args.bound.now)) w.0 (c.first_part.ensures r.0 r.1))
