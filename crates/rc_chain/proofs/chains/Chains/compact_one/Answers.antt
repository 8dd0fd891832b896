use Rattle.std.proofs.Common.{is_some, refl, sym, ap, ◌∙◌, subst}
use Rattle.std.specs.Prelude.{IfSome}
use Rattle.lsa_store.specs.Stock.{sparse_of}
use Rattle.lsa_region.specs.Region.{View, Renamed}
use Rattle.lsa_move.specs.Room.{IsCompacted}
use Rattle.rc_memory.specs.Memory.{IsUntouched, Memory, under_new_names}
use Rattle.rc_memory.specs.Kept.{HoldMemory}
use Rattle.rc_memory.specs.laws.One.{kept-is, one-memory}
use Rattle.rc_chain.proofs.Reading.{memory-now}
use Rattle.rc_memory.specs.laws.Keeping.{memory-moved}
use Rattle.rc_chain.proofs.chains.Chains.compact_one.Goals as goal

pub invariant_of-self-inside : goal.invariant_of-self-inside
invariant_of-self-inside g c =
    let s = c.self.inside in let n = memory-now g.row.S s.recency s.region s.registry s.counts s.memory c.args.self.now c.self.view_is c.self.invariant.0 c.self.invariant.1 in
    ((under_new_names c.compact_one.ensures.renamed.0 c.compact_one.new.region c.args.self.now, ∣ memory-moved g.row.S s.recency s.region c.compact_one.new.region s.registry s.counts c.args.self.now n c.compact_one.ensures.renamed.0 c.compact_one.ensures.renamed.1 c.compact_one.ensures.well ∣₁), tt)

pub invariant_of-self : goal.invariant_of-self
invariant_of-self g c =
    let s = c.self.inside in let n = memory-now g.row.S s.recency s.region s.registry s.counts s.memory c.args.self.now c.self.view_is c.self.invariant.0 c.self.invariant.1 in
    (under_new_names c.compact_one.ensures.renamed.0 c.compact_one.new.region c.args.self.now, memory-moved g.row.S s.recency s.region c.compact_one.new.region s.registry s.counts c.args.self.now n c.compact_one.ensures.renamed.0 c.compact_one.ensures.renamed.1 c.compact_one.ensures.well, c.self.invariant.2, c.self.invariant.3, c.self.invariant.4)

pub returns-clause-untouched : goal.returns-clause-untouched
returns-clause-untouched g c =
    let s = c.self.inside in let n = memory-now g.row.S s.recency s.region s.registry s.counts s.memory c.args.self.now c.self.view_is c.self.invariant.0 c.self.invariant.1 in
    let is = kept-is g.row.S s.recency c.compact_one.new.region s.registry s.counts c.self-1.given.0 (under_new_names c.compact_one.ensures.renamed.0 c.compact_one.new.region c.args.self.now) (memory-moved g.row.S s.recency s.region c.compact_one.new.region s.registry s.counts c.args.self.now n c.compact_one.ensures.renamed.0 c.compact_one.ensures.renamed.1 c.compact_one.ensures.well).held in
    subst (IsUntouched c.args.self.now) (sym is) (record { chains = refl; recency = refl; dropped = refl; counts = refl })

pub returns-clause-tells : goal.returns-clause-tells
returns-clause-tells g c =
    let s = c.self.inside in let n = memory-now g.row.S s.recency s.region s.registry s.counts s.memory c.args.self.now c.self.view_is c.self.invariant.0 c.self.invariant.1 in
    let is = kept-is g.row.S s.recency c.compact_one.new.region s.registry s.counts c.self-1.given.0 (under_new_names c.compact_one.ensures.renamed.0 c.compact_one.new.region c.args.self.now) (memory-moved g.row.S s.recency s.region c.compact_one.new.region s.registry s.counts c.args.self.now n c.compact_one.ensures.renamed.0 c.compact_one.ensures.renamed.1 c.compact_one.ensures.well).held in
    c.compact_one.ensures.tells ∙ ap (λ (w : View). is_some (sparse_of g.row.S w.usages)) (sym n.held.region)

pub returns-clause-same : goal.returns-clause-same
returns-clause-same g c =
    let s = c.self.inside in let n = memory-now g.row.S s.recency s.region s.registry s.counts s.memory c.args.self.now c.self.view_is c.self.invariant.0 c.self.invariant.1 in
    let is = kept-is g.row.S s.recency c.compact_one.new.region s.registry s.counts c.self-1.given.0 (under_new_names c.compact_one.ensures.renamed.0 c.compact_one.new.region c.args.self.now) (memory-moved g.row.S s.recency s.region c.compact_one.new.region s.registry s.counts c.args.self.now n c.compact_one.ensures.renamed.0 c.compact_one.ensures.renamed.1 c.compact_one.ensures.well).held in
    λ e. is ∙ one-memory s.recency c.compact_one.new.region s.registry s.counts (under_new_names c.compact_one.ensures.renamed.0 c.compact_one.new.region c.args.self.now) c.args.self.now (memory-moved g.row.S s.recency s.region c.compact_one.new.region s.registry s.counts c.args.self.now n c.compact_one.ensures.renamed.0 c.compact_one.ensures.renamed.1 c.compact_one.ensures.well).held (subst (λ w. HoldMemory s.recency w s.registry s.counts c.args.self.now) (sym (c.compact_one.ensures.same e)) n.held)

pub returns-clause-compacted : goal.returns-clause-compacted
returns-clause-compacted g c =
    let s = c.self.inside in let n = memory-now g.row.S s.recency s.region s.registry s.counts s.memory c.args.self.now c.self.view_is c.self.invariant.0 c.self.invariant.1 in
    let is = kept-is g.row.S s.recency c.compact_one.new.region s.registry s.counts c.self-1.given.0 (under_new_names c.compact_one.ensures.renamed.0 c.compact_one.new.region c.args.self.now) (memory-moved g.row.S s.recency s.region c.compact_one.new.region s.registry s.counts c.args.self.now n c.compact_one.ensures.renamed.0 c.compact_one.ensures.renamed.1 c.compact_one.ensures.well).held in
    subst (λ (m : Memory). IfSome (sparse_of g.row.S c.args.self.now.region.usages) (IsCompacted g.row.S c.args.self.now.region m.region)) (sym is) (subst (λ (w : View). IfSome (sparse_of g.row.S w.usages) (IsCompacted g.row.S w c.compact_one.new.region)) (sym n.held.region) c.compact_one.ensures.compacted)

pub returns-clause-renamed : goal.returns-clause-renamed
returns-clause-renamed g c =
    let s = c.self.inside in let n = memory-now g.row.S s.recency s.region s.registry s.counts s.memory c.args.self.now c.self.view_is c.self.invariant.0 c.self.invariant.1 in
    let is = kept-is g.row.S s.recency c.compact_one.new.region s.registry s.counts c.self-1.given.0 (under_new_names c.compact_one.ensures.renamed.0 c.compact_one.new.region c.args.self.now) (memory-moved g.row.S s.recency s.region c.compact_one.new.region s.registry s.counts c.args.self.now n c.compact_one.ensures.renamed.0 c.compact_one.ensures.renamed.1 c.compact_one.ensures.well).held in (
      c.compact_one.ensures.renamed.0,
      subst (λ (m : Memory). Renamed c.args.self.now.region m.region c.compact_one.ensures.renamed.0) (sym is) (subst (λ (v : View). Renamed v c.compact_one.new.region c.compact_one.ensures.renamed.0) (sym n.held.region) c.compact_one.ensures.renamed.1),
      is ∙ ap (λ (v : View). under_new_names c.compact_one.ensures.renamed.0 v c.args.self.now) (sym (ap (λ (m : Memory). m.region) is)),
    )
