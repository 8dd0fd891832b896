use Rattle.std.proofs.Common.{refl, sym, ◌∙◌, subst, arith}
use Rattle.rc_memory.specs.Kept.{IsMemory}
use Rattle.rc_memory.specs.laws.One.{kept-is}
use Rattle.rc_chain.proofs.Reading.{memory-now, there}
use Rattle.rc_chain.proofs.Snapshots.{after-pin, has-chain, memory-snapped, on-err, pinned_memory, snapped-now, snapped-number, snapped-version}
use Rattle.rc_chain.proofs.chains.Chains.snapshot.Goals as goal

pub snapshot_number-number-requires : goal.snapshot_number-number-requires
snapshot_number-number-requires g c = (omega arith, has-chain c.args.self.now c.args.id c.requires)

pub phase-phase-requires : goal.phase-phase-requires
phase-phase-requires g c = (omega arith, c.snapshot_number-number.ensures.there)

pub pin-requires : goal.pin-requires
pin-requires g c =
    let s = c.self.inside in let n = memory-now g.row.S s.recency s.region s.registry s.counts s.memory c.args.self.now c.self.view_is c.self.invariant.0 c.self.invariant.1 in
    there s.recency s.region s.registry s.counts c.args.self.now n.held c.args.id (has-chain c.args.self.now c.args.id c.requires)

pub invariant_of-self-inside : goal.invariant_of-self-inside
invariant_of-self-inside g c =
    let s = c.self.inside in let n = memory-now g.row.S s.recency s.region s.registry s.counts s.memory c.args.self.now c.self.view_is c.self.invariant.0 c.self.invariant.1 in
    let x = after-pin g.row.S s.recency s.region s.registry s.counts c.args.self.now n c.args.id c.snapshot_number-number.result (has-chain c.args.self.now c.args.id c.requires) c.snapshot_number-number.ensures.value c.pin.result c.pin.new.self c.pin.ensures.pinned c.pin.ensures.err in ((x.0, ∣ x.1 ∣₁), tt)

pub invariant_of-self : goal.invariant_of-self
invariant_of-self g c =
    let s = c.self.inside in let n = memory-now g.row.S s.recency s.region s.registry s.counts s.memory c.args.self.now c.self.view_is c.self.invariant.0 c.self.invariant.1 in
    let x = after-pin g.row.S s.recency s.region s.registry s.counts c.args.self.now n c.args.id c.snapshot_number-number.result (has-chain c.args.self.now c.args.id c.requires) c.snapshot_number-number.ensures.value c.pin.result c.pin.new.self c.pin.ensures.pinned c.pin.ensures.err in (x.0, x.1, c.self.invariant.2, c.self.invariant.3, c.self.invariant.4)

pub returns-in_err-pin-clause-err : goal.returns-in_err-pin-clause-err
returns-in_err-pin-clause-err g c =
    let s = c.self.inside in let n = memory-now g.row.S s.recency s.region s.registry s.counts s.memory c.args.self.now c.self.view_is c.self.invariant.0 c.self.invariant.1 in
    on-err _ c.from_residual.result (kept-is g.row.S s.recency s.region c.pin.new.self s.counts c.self-1.given.0 c.args.self.now (subst (λ r. IsMemory g.row.S s.recency s.region r s.counts c.args.self.now) (sym c.in_err-pin.ensures.err) n).held)

pub invariant_of-self-2 : goal.invariant_of-self-2
invariant_of-self-2 g c =
    let s = c.self.inside in let n = memory-now g.row.S s.recency s.region s.registry s.counts s.memory c.args.self.now c.self.view_is c.self.invariant.0 c.self.invariant.1 in
    let x = after-pin g.row.S s.recency s.region s.registry s.counts c.args.self.now n c.args.id c.snapshot_number-number.result (has-chain c.args.self.now c.args.id c.requires) c.snapshot_number-number.ensures.value c.pin.result c.pin.new.self c.pin.ensures.pinned c.pin.ensures.err in (x.0, x.1, c.self.invariant.2, c.self.invariant.3, c.self.invariant.4)

pub returns-clause-taken : goal.returns-clause-taken
returns-clause-taken g c =
    let s = c.self.inside in let n = memory-now g.row.S s.recency s.region s.registry s.counts s.memory c.args.self.now c.self.view_is c.self.invariant.0 c.self.invariant.1 in
    let is = kept-is g.row.S s.recency s.region c.pin.new.self s.counts c.self-1.given.0 (pinned_memory g.row.S s.recency s.region s.registry s.counts c.args.self.now n c.args.id c.snapshot_number-number.result (has-chain c.args.self.now c.args.id c.requires) c.snapshot_number-number.ensures.value) (memory-snapped g.row.S s.recency s.region s.registry s.counts c.args.self.now n c.args.id c.snapshot_number-number.result (has-chain c.args.self.now c.args.id c.requires) c.snapshot_number-number.ensures.value c.pin.new.self c.in_ok-pin.ensures.pinned).held in (
      refl,
      record {
        number = snapped-number g.row.S s.recency s.region s.registry s.counts c.args.self.now n c.args.id c.snapshot_number-number.result (has-chain c.args.self.now c.args.id c.requires) c.snapshot_number-number.ensures.value c.in_ok-pin.pin c.in_ok-pin.ensures.number;
        version = snapped-version g.row.S s.recency s.region s.registry s.counts c.args.self.now n c.args.id c.snapshot_number-number.result (has-chain c.args.self.now c.args.id c.requires) c.snapshot_number-number.ensures.value c.phase-phase.result c.phase-phase.ensures;
        now = is ∙ snapped-now g.row.S s.recency s.region s.registry s.counts c.args.self.now n c.args.id c.snapshot_number-number.result (has-chain c.args.self.now c.args.id c.requires) c.snapshot_number-number.ensures.value;
      },
    )
