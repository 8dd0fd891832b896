use Rattle.std.proofs.Common.{◌+◌, ◌/◌, ◌<◌, ◌≤◌, refl, sym, ap, ◌∙◌, subst}
use Rattle.lsa_pool.specs.Room.{spare_of}
use Rattle.lsa_region.specs.Region.{View, Renamed}
use Rattle.lsa_move.specs.Room.{Compactions, Tight}
use Rattle.rc_memory.specs.Memory.{IsUntouched, Memory, under_new_names}
use Rattle.rc_memory.specs.Kept.{HoldMemory}
use Rattle.rc_memory.specs.laws.One.{kept-is, one-memory}
use Rattle.rc_chain.proofs.Reading.{memory-now}
use Rattle.rc_memory.specs.laws.Keeping.{memory-moved}
use Rattle.rc_chain.proofs.chains.Chains.ensure.Goals as goal

pub invariant_of-self-inside : goal.invariant_of-self-inside
invariant_of-self-inside g c =
    let s = c.self.inside in let n = memory-now g.row.S s.recency s.region s.registry s.counts s.memory c.args.self.now c.self.view_is c.self.invariant.0 c.self.invariant.1 in
    ((under_new_names c.ensure.ensures.renamed.0 c.ensure.new.region c.args.self.now, ∣ memory-moved g.row.S s.recency s.region c.ensure.new.region s.registry s.counts c.args.self.now n c.ensure.ensures.renamed.0 c.ensure.ensures.renamed.1 c.ensure.ensures.well ∣₁), tt)

pub invariant_of-self : goal.invariant_of-self
invariant_of-self g c =
    let s = c.self.inside in let n = memory-now g.row.S s.recency s.region s.registry s.counts s.memory c.args.self.now c.self.view_is c.self.invariant.0 c.self.invariant.1 in
    (under_new_names c.ensure.ensures.renamed.0 c.ensure.new.region c.args.self.now, memory-moved g.row.S s.recency s.region c.ensure.new.region s.registry s.counts c.args.self.now n c.ensure.ensures.renamed.0 c.ensure.ensures.renamed.1 c.ensure.ensures.well, c.self.invariant.2, c.self.invariant.3, c.self.invariant.4)

pub returns-clause-untouched : goal.returns-clause-untouched
returns-clause-untouched g c =
    let s = c.self.inside in let n = memory-now g.row.S s.recency s.region s.registry s.counts s.memory c.args.self.now c.self.view_is c.self.invariant.0 c.self.invariant.1 in
    let is = kept-is g.row.S s.recency c.ensure.new.region s.registry s.counts c.self-1.given.0 (under_new_names c.ensure.ensures.renamed.0 c.ensure.new.region c.args.self.now) (memory-moved g.row.S s.recency s.region c.ensure.new.region s.registry s.counts c.args.self.now n c.ensure.ensures.renamed.0 c.ensure.ensures.renamed.1 c.ensure.ensures.well).held in
    subst (IsUntouched c.args.self.now) (sym is) (record { chains = refl; recency = refl; dropped = refl; counts = refl })

pub returns-clause-ready : goal.returns-clause-ready
returns-clause-ready g c =
    let s = c.self.inside in let n = memory-now g.row.S s.recency s.region s.registry s.counts s.memory c.args.self.now c.self.view_is c.self.invariant.0 c.self.invariant.1 in
    let is = kept-is g.row.S s.recency c.ensure.new.region s.registry s.counts c.self-1.given.0 (under_new_names c.ensure.ensures.renamed.0 c.ensure.new.region c.args.self.now) (memory-moved g.row.S s.recency s.region c.ensure.new.region s.registry s.counts c.args.self.now n c.ensure.ensures.renamed.0 c.ensure.ensures.renamed.1 c.ensure.ensures.well).held in
    λ e. subst (λ (m : Memory). c.args.need ≤ spare_of g.row.S m.region.usages) (sym is) (c.ensure.ensures.ready e)

pub returns-clause-full : goal.returns-clause-full
returns-clause-full g c =
    let s = c.self.inside in let n = memory-now g.row.S s.recency s.region s.registry s.counts s.memory c.args.self.now c.self.view_is c.self.invariant.0 c.self.invariant.1 in
    let is = kept-is g.row.S s.recency c.ensure.new.region s.registry s.counts c.self-1.given.0 (under_new_names c.ensure.ensures.renamed.0 c.ensure.new.region c.args.self.now) (memory-moved g.row.S s.recency s.region c.ensure.new.region s.registry s.counts c.args.self.now n c.ensure.ensures.renamed.0 c.ensure.ensures.renamed.1 c.ensure.ensures.well).held in
    λ e. subst (λ (m : Memory). spare_of g.row.S m.region.usages < c.args.need) (sym is) (c.ensure.ensures.full e)

pub returns-clause-tight : goal.returns-clause-tight
returns-clause-tight g c =
    let s = c.self.inside in let n = memory-now g.row.S s.recency s.region s.registry s.counts s.memory c.args.self.now c.self.view_is c.self.invariant.0 c.self.invariant.1 in
    let is = kept-is g.row.S s.recency c.ensure.new.region s.registry s.counts c.self-1.given.0 (under_new_names c.ensure.ensures.renamed.0 c.ensure.new.region c.args.self.now) (memory-moved g.row.S s.recency s.region c.ensure.new.region s.registry s.counts c.args.self.now n c.ensure.ensures.renamed.0 c.ensure.ensures.renamed.1 c.ensure.ensures.well).held in
    λ e. subst (λ (m : Memory). Tight g.row.S m.region.usages) (sym is) (c.ensure.ensures.tight e)

pub returns-clause-idle : goal.returns-clause-idle
returns-clause-idle g c =
    let s = c.self.inside in let n = memory-now g.row.S s.recency s.region s.registry s.counts s.memory c.args.self.now c.self.view_is c.self.invariant.0 c.self.invariant.1 in
    let is = kept-is g.row.S s.recency c.ensure.new.region s.registry s.counts c.self-1.given.0 (under_new_names c.ensure.ensures.renamed.0 c.ensure.new.region c.args.self.now) (memory-moved g.row.S s.recency s.region c.ensure.new.region s.registry s.counts c.args.self.now n c.ensure.ensures.renamed.0 c.ensure.ensures.renamed.1 c.ensure.ensures.well).held in
    λ e. is ∙ one-memory s.recency c.ensure.new.region s.registry s.counts (under_new_names c.ensure.ensures.renamed.0 c.ensure.new.region c.args.self.now) c.args.self.now (memory-moved g.row.S s.recency s.region c.ensure.new.region s.registry s.counts c.args.self.now n c.ensure.ensures.renamed.0 c.ensure.ensures.renamed.1 c.ensure.ensures.well).held (subst (λ w. HoldMemory s.recency w s.registry s.counts c.args.self.now) (sym (c.ensure.ensures.idle (subst (λ (w : View). c.args.need ≤ spare_of g.row.S w.usages) n.held.region e))) n.held)

pub returns-clause-compacted : goal.returns-clause-compacted
returns-clause-compacted g c =
    let s = c.self.inside in let n = memory-now g.row.S s.recency s.region s.registry s.counts s.memory c.args.self.now c.self.view_is c.self.invariant.0 c.self.invariant.1 in
    let is = kept-is g.row.S s.recency c.ensure.new.region s.registry s.counts c.self-1.given.0 (under_new_names c.ensure.ensures.renamed.0 c.ensure.new.region c.args.self.now) (memory-moved g.row.S s.recency s.region c.ensure.new.region s.registry s.counts c.args.self.now n c.ensure.ensures.renamed.0 c.ensure.ensures.renamed.1 c.ensure.ensures.well).held in
    subst (λ (m : Memory). m.region.compacted ≤ c.args.self.now.region.compacted + (c.args.need / (g.row.S / 8) + 1)) (sym is) (subst (λ (w : View). c.ensure.new.region.compacted ≤ w.compacted + (c.args.need / (g.row.S / 8) + 1)) (sym n.held.region) c.ensure.ensures.compacted)

pub returns-clause-moved : goal.returns-clause-moved
returns-clause-moved g c =
    let s = c.self.inside in let n = memory-now g.row.S s.recency s.region s.registry s.counts s.memory c.args.self.now c.self.view_is c.self.invariant.0 c.self.invariant.1 in
    let is = kept-is g.row.S s.recency c.ensure.new.region s.registry s.counts c.self-1.given.0 (under_new_names c.ensure.ensures.renamed.0 c.ensure.new.region c.args.self.now) (memory-moved g.row.S s.recency s.region c.ensure.new.region s.registry s.counts c.args.self.now n c.ensure.ensures.renamed.0 c.ensure.ensures.renamed.1 c.ensure.ensures.well).held in
    subst (λ (m : Memory). c.args.self.now.region.moved ≤ m.region.moved) (sym is) (subst (λ (w : View). w.moved ≤ c.ensure.new.region.moved) (sym n.held.region) c.ensure.ensures.moved)

pub returns-clause-renamed : goal.returns-clause-renamed
returns-clause-renamed g c =
    let s = c.self.inside in let n = memory-now g.row.S s.recency s.region s.registry s.counts s.memory c.args.self.now c.self.view_is c.self.invariant.0 c.self.invariant.1 in
    let is = kept-is g.row.S s.recency c.ensure.new.region s.registry s.counts c.self-1.given.0 (under_new_names c.ensure.ensures.renamed.0 c.ensure.new.region c.args.self.now) (memory-moved g.row.S s.recency s.region c.ensure.new.region s.registry s.counts c.args.self.now n c.ensure.ensures.renamed.0 c.ensure.ensures.renamed.1 c.ensure.ensures.well).held in (
      c.ensure.ensures.renamed.0,
      subst (λ (m : Memory). Renamed c.args.self.now.region m.region c.ensure.ensures.renamed.0) (sym is) (subst (λ (v : View). Renamed v c.ensure.new.region c.ensure.ensures.renamed.0) (sym n.held.region) c.ensure.ensures.renamed.1),
      is ∙ ap (λ (v : View). under_new_names c.ensure.ensures.renamed.0 v c.args.self.now) (sym (ap (λ (m : Memory). m.region) is)),
    )

pub returns-clause-rounds : goal.returns-clause-rounds
returns-clause-rounds g c =
    let s = c.self.inside in let n = memory-now g.row.S s.recency s.region s.registry s.counts s.memory c.args.self.now c.self.view_is c.self.invariant.0 c.self.invariant.1 in
    let is = kept-is g.row.S s.recency c.ensure.new.region s.registry s.counts c.self-1.given.0 (under_new_names c.ensure.ensures.renamed.0 c.ensure.new.region c.args.self.now) (memory-moved g.row.S s.recency s.region c.ensure.new.region s.registry s.counts c.args.self.now n c.ensure.ensures.renamed.0 c.ensure.ensures.renamed.1 c.ensure.ensures.well).held in
    (c.ensure.ensures.rounds.0, subst (λ (m : Memory). Compactions g.row.S c.args.need c.ensure.ensures.rounds.0 c.args.self.now.region m.region) (sym is) (subst (λ (v : View). Compactions g.row.S c.args.need c.ensure.ensures.rounds.0 v c.ensure.new.region) (sym n.held.region) c.ensure.ensures.rounds.1), c.ensure.ensures.rounds.2)
