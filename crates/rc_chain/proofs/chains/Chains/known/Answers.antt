use Rattle.std.proofs.Common.{◌≡◌, inl, inr, sym, subst, sum_by}
use Rattle.std.specs.Prelude.{IsSome}
use Rattle.lsa_region.specs.Region.{View, HasLayout, IsWell, body, live_bytes, objects}
use Rattle.rc_registry.specs.Registry.{AreOnce, IsNumberIn}
use Rattle.rc_memory.specs.Memory.{IsObjectAt}
use Rattle.rc_memory.specs.Room.{chain_bytes, chain_objects}
use Rattle.rc_memory.specs.Kept.{present}
use Rattle.rc_memory.specs.laws.At.{version-is}
use Rattle.rc_memory.specs.laws.Each.{bytes-told, each-told, objects-told}
use Rattle.rc_memory.specs.laws.Places.{one-place}
use Rattle.rc_chain.proofs.Held.{held-at}
use Rattle.rc_chain.proofs.Reading.{at-place, memory-now, unused}
use Rattle.rc_chain.proofs.chains.Chains.known.Goals as goal

pub returns-clause-sound : goal.returns-clause-sound
returns-clause-sound g c =
    let s = c.self.inside in let n = memory-now g.row.S s.recency s.region s.registry s.counts s.memory c.args.self.now c.self.view_is c.self.invariant.0 c.self.invariant.1 in
    n.sound

pub returns-clause-rule : goal.returns-clause-rule
returns-clause-rule g c =
    let s = c.self.inside in let n = memory-now g.row.S s.recency s.region s.registry s.counts s.memory c.args.self.now c.self.view_is c.self.invariant.0 c.self.invariant.1 in
    n.rule

pub returns-clause-fit : goal.returns-clause-fit
returns-clause-fit g c =
    let s = c.self.inside in let n = memory-now g.row.S s.recency s.region s.registry s.counts s.memory c.args.self.now c.self.view_is c.self.invariant.0 c.self.invariant.1 in
    n.fit

pub returns-clause-versions : goal.returns-clause-versions
returns-clause-versions g c =
    let s = c.self.inside in let n = memory-now g.row.S s.recency s.region s.registry s.counts s.memory c.args.self.now c.self.view_is c.self.invariant.0 c.self.invariant.1 in
    λ id j k v e at. version-is s.recency s.region s.registry s.counts c.args.self.now n.held id j k v e at

pub returns-clause-live : goal.returns-clause-live
returns-clause-live g c =
    let s = c.self.inside in let n = memory-now g.row.S s.recency s.region s.registry s.counts s.memory c.args.self.now c.self.view_is c.self.invariant.0 c.self.invariant.1 in
    subst (λ (v : View). live_bytes v ≡ sum_by chain_bytes (present c.args.self.now.chains)) (sym n.held.region) (bytes-told s.recency s.region s.registry s.counts c.args.self.now n.held)

pub returns-clause-objects : goal.returns-clause-objects
returns-clause-objects g c =
    let s = c.self.inside in let n = memory-now g.row.S s.recency s.region s.registry s.counts s.memory c.args.self.now c.self.view_is c.self.invariant.0 c.self.invariant.1 in
    subst (λ (v : View). objects v ≡ sum_by chain_objects (present c.args.self.now.chains)) (sym n.held.region) (objects-told s.recency s.region s.registry s.counts c.args.self.now n.held c.known.ensures.summed)

pub returns-clause-each : goal.returns-clause-each
returns-clause-each g c =
    let s = c.self.inside in let n = memory-now g.row.S s.recency s.region s.registry s.counts s.memory c.args.self.now c.self.view_is c.self.invariant.0 c.self.invariant.1 in
    λ r live. elim (each-told s.recency s.region s.registry s.counts c.args.self.now n.held c.known.ensures.summed r (subst (λ (v : View). IsSome (body v r)) n.held.region live)) [
      | inl version ↦ inl version
      | inr row ↦ inr (row.0, subst (λ (v : View). IsObjectAt v c.args.self.now.standing r row.0) (sym n.held.region) row.1)
    ]

pub returns-clause-held : goal.returns-clause-held
returns-clause-held g c =
    let s = c.self.inside in let n = memory-now g.row.S s.recency s.region s.registry s.counts s.memory c.args.self.now c.self.view_is c.self.invariant.0 c.self.invariant.1 in
    held-at s.recency s.region s.registry s.counts c.args.self.now n.held

pub returns-clause-place : goal.returns-clause-place
returns-clause-place g c =
    let s = c.self.inside in let n = memory-now g.row.S s.recency s.region s.registry s.counts s.memory c.args.self.now c.self.view_is c.self.invariant.0 c.self.invariant.1 in
    λ r w x a b. one-place s.recency s.region n.held.well c.args.self.now.standing n.held.listed n.held.stands r w x (at-place s.recency s.region s.registry s.counts c.args.self.now n.held r w a) (at-place s.recency s.region s.registry s.counts c.args.self.now n.held r x b)

pub returns-clause-told : goal.returns-clause-told
returns-clause-told g c =
    let s = c.self.inside in let n = memory-now g.row.S s.recency s.region s.registry s.counts s.memory c.args.self.now c.self.view_is c.self.invariant.0 c.self.invariant.1 in
    λ id on. unused s.recency s.region s.registry s.counts c.args.self.now n.held id (c.known-2.ensures.gone id (subst (λ l. IsNumberIn l id) n.held.dropped on))

pub returns-clause-once : goal.returns-clause-once
returns-clause-once g c =
    let s = c.self.inside in let n = memory-now g.row.S s.recency s.region s.registry s.counts s.memory c.args.self.now c.self.view_is c.self.invariant.0 c.self.invariant.1 in
    subst AreOnce (sym n.held.dropped) c.known-2.ensures.once

pub returns-clause-well : goal.returns-clause-well
returns-clause-well g c =
    let s = c.self.inside in let n = memory-now g.row.S s.recency s.region s.registry s.counts s.memory c.args.self.now c.self.view_is c.self.invariant.0 c.self.invariant.1 in
    subst IsWell (sym n.held.region) n.held.well

pub returns-clause-layout : goal.returns-clause-layout
returns-clause-layout g c =
    let s = c.self.inside in let n = memory-now g.row.S s.recency s.region s.registry s.counts s.memory c.args.self.now c.self.view_is c.self.invariant.0 c.self.invariant.1 in
    subst HasLayout (sym n.held.region) c.known.ensures.layout
