use Rattle.std.proofs.Common.{sym, subst}
use Rattle.rc_memory.specs.Memory.{IsTold, Memory, with_dropped}
use Rattle.rc_memory.specs.laws.One.{kept-is}
use Rattle.rc_chain.proofs.Reading.{memory-now}
use Rattle.rc_chain.proofs.Snapshots.{told, told-memory}
use Rattle.rc_chain.proofs.chains.Chains.take_dropped.Goals as goal

pub invariant_of-self-inside : goal.invariant_of-self-inside
invariant_of-self-inside g c =
    let s = c.self.inside in let n = memory-now g.row.S s.recency s.region s.registry s.counts s.memory c.args.self.now c.self.view_is c.self.invariant.0 c.self.invariant.1 in
    ((with_dropped c.take_dropped.new.self.dropped c.args.self.now, ∣ told-memory g.row.S s.recency s.region s.registry c.take_dropped.new.self s.counts c.args.self.now c.take_dropped.result n c.take_dropped.ensures ∣₁), tt)

pub invariant_of-self : goal.invariant_of-self
invariant_of-self g c =
    let s = c.self.inside in let n = memory-now g.row.S s.recency s.region s.registry s.counts s.memory c.args.self.now c.self.view_is c.self.invariant.0 c.self.invariant.1 in
    (with_dropped c.take_dropped.new.self.dropped c.args.self.now, told-memory g.row.S s.recency s.region s.registry c.take_dropped.new.self s.counts c.args.self.now c.take_dropped.result n c.take_dropped.ensures, c.self.invariant.2, c.self.invariant.3, c.self.invariant.4)

pub returns : goal.returns
returns g c =
    let s = c.self.inside in let n = memory-now g.row.S s.recency s.region s.registry s.counts s.memory c.args.self.now c.self.view_is c.self.invariant.0 c.self.invariant.1 in
    let is = kept-is g.row.S s.recency s.region c.take_dropped.new.self s.counts c.self-1.given.0 (with_dropped c.take_dropped.new.self.dropped c.args.self.now) (told-memory g.row.S s.recency s.region s.registry c.take_dropped.new.self s.counts c.args.self.now c.take_dropped.result n c.take_dropped.ensures).held in
    subst (λ (m : Memory). IsTold c.args.self.now m c.take_dropped.result) (sym is) (told s.recency s.region s.registry c.take_dropped.new.self s.counts c.args.self.now c.take_dropped.result n.held c.take_dropped.ensures)
