use Rattle.std.proofs.Common.{◌≤◌, None, sym, ap, ◌∙◌, subst, arith}
use Rattle.lsa_pool.specs.Room.{spare_of}
use Rattle.lsa_region.specs.Region.{View}
use Rattle.rc_core.specs.declared.entries.Flag.TheVariants.{Inherit}
use Rattle.rc_memory.specs.Memory.{Memory}
use Rattle.rc_memory.specs.Kept.{IsMemory}
use Rattle.rc_memory.specs.laws.One.{kept-is}
use Rattle.rc_chain.specs.Lives.{IsChainChanged, with_version_over}
use Rattle.rc_memory.specs.Memory.{chain_at, on_shown}
use Rattle.rc_chain.proofs.Making.{IsPut, over-cached, over-memtable}
use Rattle.rc_chain.proofs.Living.{kind-used}
use Rattle.rc_chain.proofs.Reading.{chain-stands, memory-now, some_of, there}
use Rattle.rc_chain.proofs.chains.Chains.add_version.Goals as goal

pub get-requires : goal.get-requires
get-requires g c =
    let s = c.self.inside in let n = memory-now g.row.S s.recency s.region s.registry s.counts s.memory c.args.self.now c.self.view_is c.self.invariant.0 c.self.invariant.1 in
    there s.recency s.region s.registry s.counts c.args.self.now n.held c.args.id c.requires.there

pub set_updating-requires : goal.set_updating-requires
set_updating-requires g c =
    let s = c.self.inside in let n = memory-now g.row.S s.recency s.region s.registry s.counts s.memory c.args.self.now c.self.view_is c.self.invariant.0 c.self.invariant.1 in
    there s.recency s.region s.registry s.counts c.args.self.now n.held c.args.id c.requires.there

pub add_version-requires : goal.add_version-requires
add_version-requires g c =
    let s = c.self.inside in let n = memory-now g.row.S s.recency s.region s.registry s.counts s.memory c.args.self.now c.self.view_is c.self.invariant.0 c.self.invariant.1 in
    let k = some_of (chain_at c.args.self.now c.args.id) c.requires.there in let st = chain-stands s.recency s.region s.registry s.counts c.args.self.now n.held c.args.id k.0 _ k.1 c.get.ensures in
    (omega arith, ((s.recency, st.front, st.partition.versions, st.back, n.held.listed, st.stands), (c.requires.fits, subst (λ (v : View). 152 ≤ spare_of g.row.S v.usages) n.held.region c.requires.spare)))

pub invariant_of-self-inside : goal.invariant_of-self-inside
invariant_of-self-inside g c =
    let s = c.self.inside in let n = memory-now g.row.S s.recency s.region s.registry s.counts s.memory c.args.self.now c.self.view_is c.self.invariant.0 c.self.invariant.1 in
    let k = some_of (chain_at c.args.self.now c.args.id) c.requires.there in let st = chain-stands s.recency s.region s.registry s.counts c.args.self.now n.held c.args.id k.0 _ k.1 c.get.ensures in let it = over-cached g.row.S s.recency s.region s.registry s.counts c.args.self.now n c.add_version.new.region c.args.id st.partition st.at c.args.phase c.add_version.result c.requires.fits (subst (λ r. IsPut s.region c.add_version.new.region r c.add_version.result Inherit None c.args.phase) (sym st.root) (record { added = c.add_version.ensures.added; statics = c.add_version.ensures.statics; epoch = c.add_version.ensures.epoch; slots = c.add_version.ensures.slots; budget = c.add_version.ensures.budget; moved = c.add_version.ensures.moved; compacted = c.add_version.ensures.compacted; well = c.add_version.ensures.well })) (λ q e. (kind-used s.recency s.region s.registry s.counts c.args.self.now n.held c.args.id q _ e c.get-2.ensures ∙ c.in-Cache.is, c.requires.found q e (kind-used s.recency s.region s.registry s.counts c.args.self.now n.held c.args.id q _ e c.get-2.ensures ∙ c.in-Cache.is), c.requires.settled q e)) in ((it.0, ∣ subst (λ r. IsMemory g.row.S s.recency c.add_version.new.region r s.counts it.0) (sym c.set_updating.ensures) it.1 ∣₁), tt)

pub invariant_of-self : goal.invariant_of-self
invariant_of-self g c =
    let s = c.self.inside in let n = memory-now g.row.S s.recency s.region s.registry s.counts s.memory c.args.self.now c.self.view_is c.self.invariant.0 c.self.invariant.1 in
    let k = some_of (chain_at c.args.self.now c.args.id) c.requires.there in let st = chain-stands s.recency s.region s.registry s.counts c.args.self.now n.held c.args.id k.0 _ k.1 c.get.ensures in let it = over-cached g.row.S s.recency s.region s.registry s.counts c.args.self.now n c.add_version.new.region c.args.id st.partition st.at c.args.phase c.add_version.result c.requires.fits (subst (λ r. IsPut s.region c.add_version.new.region r c.add_version.result Inherit None c.args.phase) (sym st.root) (record { added = c.add_version.ensures.added; statics = c.add_version.ensures.statics; epoch = c.add_version.ensures.epoch; slots = c.add_version.ensures.slots; budget = c.add_version.ensures.budget; moved = c.add_version.ensures.moved; compacted = c.add_version.ensures.compacted; well = c.add_version.ensures.well })) (λ q e. (kind-used s.recency s.region s.registry s.counts c.args.self.now n.held c.args.id q _ e c.get-2.ensures ∙ c.in-Cache.is, c.requires.found q e (kind-used s.recency s.region s.registry s.counts c.args.self.now n.held c.args.id q _ e c.get-2.ensures ∙ c.in-Cache.is), c.requires.settled q e)) in (it.0, subst (λ r. IsMemory g.row.S s.recency c.add_version.new.region r s.counts it.0) (sym c.set_updating.ensures) it.1, c.self.invariant.2, c.self.invariant.3, c.self.invariant.4)

pub invariant_of-self-inside-in-Memtable : goal.invariant_of-self-inside-in-Memtable
invariant_of-self-inside-in-Memtable g c =
    let s = c.self.inside in let n = memory-now g.row.S s.recency s.region s.registry s.counts s.memory c.args.self.now c.self.view_is c.self.invariant.0 c.self.invariant.1 in
    let k = some_of (chain_at c.args.self.now c.args.id) c.requires.there in let st = chain-stands s.recency s.region s.registry s.counts c.args.self.now n.held c.args.id k.0 _ k.1 c.get.ensures in let it = over-memtable g.row.S s.recency s.region s.registry s.counts c.args.self.now n c.add_version.new.region c.args.id st.partition st.at c.args.phase c.add_version.result c.requires.fits (subst (λ r. IsPut s.region c.add_version.new.region r c.add_version.result Inherit None c.args.phase) (sym st.root) (record { added = c.add_version.ensures.added; statics = c.add_version.ensures.statics; epoch = c.add_version.ensures.epoch; slots = c.add_version.ensures.slots; budget = c.add_version.ensures.budget; moved = c.add_version.ensures.moved; compacted = c.add_version.ensures.compacted; well = c.add_version.ensures.well })) (λ q e. (kind-used s.recency s.region s.registry s.counts c.args.self.now n.held c.args.id q _ e c.get-2.ensures ∙ c.in-Memtable.is, c.requires.settled q e)) in ((it.0, ∣ it.1 ∣₁), tt)

pub invariant_of-self-in-Memtable : goal.invariant_of-self-in-Memtable
invariant_of-self-in-Memtable g c =
    let s = c.self.inside in let n = memory-now g.row.S s.recency s.region s.registry s.counts s.memory c.args.self.now c.self.view_is c.self.invariant.0 c.self.invariant.1 in
    let k = some_of (chain_at c.args.self.now c.args.id) c.requires.there in let st = chain-stands s.recency s.region s.registry s.counts c.args.self.now n.held c.args.id k.0 _ k.1 c.get.ensures in let it = over-memtable g.row.S s.recency s.region s.registry s.counts c.args.self.now n c.add_version.new.region c.args.id st.partition st.at c.args.phase c.add_version.result c.requires.fits (subst (λ r. IsPut s.region c.add_version.new.region r c.add_version.result Inherit None c.args.phase) (sym st.root) (record { added = c.add_version.ensures.added; statics = c.add_version.ensures.statics; epoch = c.add_version.ensures.epoch; slots = c.add_version.ensures.slots; budget = c.add_version.ensures.budget; moved = c.add_version.ensures.moved; compacted = c.add_version.ensures.compacted; well = c.add_version.ensures.well })) (λ q e. (kind-used s.recency s.region s.registry s.counts c.args.self.now n.held c.args.id q _ e c.get-2.ensures ∙ c.in-Memtable.is, c.requires.settled q e)) in (it.0, it.1, c.self.invariant.2, c.self.invariant.3, c.self.invariant.4)

pub returns-in-Cache-clause-added : goal.returns-in-Cache-clause-added
returns-in-Cache-clause-added g c =
    let s = c.self.inside in let n = memory-now g.row.S s.recency s.region s.registry s.counts s.memory c.args.self.now c.self.view_is c.self.invariant.0 c.self.invariant.1 in
    let k = some_of (chain_at c.args.self.now c.args.id) c.requires.there in let st = chain-stands s.recency s.region s.registry s.counts c.args.self.now n.held c.args.id k.0 _ k.1 c.get.ensures in let it = over-cached g.row.S s.recency s.region s.registry s.counts c.args.self.now n c.add_version.new.region c.args.id st.partition st.at c.args.phase c.add_version.result c.requires.fits (subst (λ r. IsPut s.region c.add_version.new.region r c.add_version.result Inherit None c.args.phase) (sym st.root) (record { added = c.add_version.ensures.added; statics = c.add_version.ensures.statics; epoch = c.add_version.ensures.epoch; slots = c.add_version.ensures.slots; budget = c.add_version.ensures.budget; moved = c.add_version.ensures.moved; compacted = c.add_version.ensures.compacted; well = c.add_version.ensures.well })) (λ q e. (kind-used s.recency s.region s.registry s.counts c.args.self.now n.held c.args.id q _ e c.get-2.ensures ∙ c.in-Cache.is, c.requires.found q e (kind-used s.recency s.region s.registry s.counts c.args.self.now n.held c.args.id q _ e c.get-2.ensures ∙ c.in-Cache.is), c.requires.settled q e)) in let is = kept-is g.row.S s.recency c.add_version.new.region c.set_updating.new.self s.counts c.self-1.given.0 it.0 (subst (λ r. IsMemory g.row.S s.recency c.add_version.new.region r s.counts it.0) (sym c.set_updating.ensures) it.1).held in
    subst (IsChainChanged c.args.id (on_shown (with_version_over c.args.phase)) c.args.self.now.recency c.args.self.now) (sym is) it.2

pub returns-in-Memtable-clause-added : goal.returns-in-Memtable-clause-added
returns-in-Memtable-clause-added g c =
    let s = c.self.inside in let n = memory-now g.row.S s.recency s.region s.registry s.counts s.memory c.args.self.now c.self.view_is c.self.invariant.0 c.self.invariant.1 in
    let k = some_of (chain_at c.args.self.now c.args.id) c.requires.there in let st = chain-stands s.recency s.region s.registry s.counts c.args.self.now n.held c.args.id k.0 _ k.1 c.get.ensures in let it = over-memtable g.row.S s.recency s.region s.registry s.counts c.args.self.now n c.add_version.new.region c.args.id st.partition st.at c.args.phase c.add_version.result c.requires.fits (subst (λ r. IsPut s.region c.add_version.new.region r c.add_version.result Inherit None c.args.phase) (sym st.root) (record { added = c.add_version.ensures.added; statics = c.add_version.ensures.statics; epoch = c.add_version.ensures.epoch; slots = c.add_version.ensures.slots; budget = c.add_version.ensures.budget; moved = c.add_version.ensures.moved; compacted = c.add_version.ensures.compacted; well = c.add_version.ensures.well })) (λ q e. (kind-used s.recency s.region s.registry s.counts c.args.self.now n.held c.args.id q _ e c.get-2.ensures ∙ c.in-Memtable.is, c.requires.settled q e)) in let is = kept-is g.row.S s.recency c.add_version.new.region s.registry s.counts c.self-in-Memtable-1.given.0 it.0 it.1.held in
    subst (IsChainChanged c.args.id (on_shown (with_version_over c.args.phase)) c.args.self.now.recency c.args.self.now) (sym is) it.2

pub returns-in-Cache-clause-spare : goal.returns-in-Cache-clause-spare
returns-in-Cache-clause-spare g c =
    let s = c.self.inside in let n = memory-now g.row.S s.recency s.region s.registry s.counts s.memory c.args.self.now c.self.view_is c.self.invariant.0 c.self.invariant.1 in
    let k = some_of (chain_at c.args.self.now c.args.id) c.requires.there in let st = chain-stands s.recency s.region s.registry s.counts c.args.self.now n.held c.args.id k.0 _ k.1 c.get.ensures in let it = over-cached g.row.S s.recency s.region s.registry s.counts c.args.self.now n c.add_version.new.region c.args.id st.partition st.at c.args.phase c.add_version.result c.requires.fits (subst (λ r. IsPut s.region c.add_version.new.region r c.add_version.result Inherit None c.args.phase) (sym st.root) (record { added = c.add_version.ensures.added; statics = c.add_version.ensures.statics; epoch = c.add_version.ensures.epoch; slots = c.add_version.ensures.slots; budget = c.add_version.ensures.budget; moved = c.add_version.ensures.moved; compacted = c.add_version.ensures.compacted; well = c.add_version.ensures.well })) (λ q e. (kind-used s.recency s.region s.registry s.counts c.args.self.now n.held c.args.id q _ e c.get-2.ensures ∙ c.in-Cache.is, c.requires.found q e (kind-used s.recency s.region s.registry s.counts c.args.self.now n.held c.args.id q _ e c.get-2.ensures ∙ c.in-Cache.is), c.requires.settled q e)) in let is = kept-is g.row.S s.recency c.add_version.new.region c.set_updating.new.self s.counts c.self-1.given.0 it.0 (subst (λ r. IsMemory g.row.S s.recency c.add_version.new.region r s.counts it.0) (sym c.set_updating.ensures) it.1).held in
    let same = ap (λ (m : Memory). spare_of g.row.S m.region.usages) is ∙ ap (λ (v : View). spare_of g.row.S v.usages) it.1.held.region in let before = ap (λ (v : View). spare_of g.row.S v.usages) n.held.region in let after = c.add_version.ensures.spare in omega (arith, same, before, after)

pub returns-in-Memtable-clause-spare : goal.returns-in-Memtable-clause-spare
returns-in-Memtable-clause-spare g c =
    let s = c.self.inside in let n = memory-now g.row.S s.recency s.region s.registry s.counts s.memory c.args.self.now c.self.view_is c.self.invariant.0 c.self.invariant.1 in
    let k = some_of (chain_at c.args.self.now c.args.id) c.requires.there in let st = chain-stands s.recency s.region s.registry s.counts c.args.self.now n.held c.args.id k.0 _ k.1 c.get.ensures in let it = over-memtable g.row.S s.recency s.region s.registry s.counts c.args.self.now n c.add_version.new.region c.args.id st.partition st.at c.args.phase c.add_version.result c.requires.fits (subst (λ r. IsPut s.region c.add_version.new.region r c.add_version.result Inherit None c.args.phase) (sym st.root) (record { added = c.add_version.ensures.added; statics = c.add_version.ensures.statics; epoch = c.add_version.ensures.epoch; slots = c.add_version.ensures.slots; budget = c.add_version.ensures.budget; moved = c.add_version.ensures.moved; compacted = c.add_version.ensures.compacted; well = c.add_version.ensures.well })) (λ q e. (kind-used s.recency s.region s.registry s.counts c.args.self.now n.held c.args.id q _ e c.get-2.ensures ∙ c.in-Memtable.is, c.requires.settled q e)) in let is = kept-is g.row.S s.recency c.add_version.new.region s.registry s.counts c.self-in-Memtable-1.given.0 it.0 it.1.held in
    let same = ap (λ (m : Memory). spare_of g.row.S m.region.usages) is ∙ ap (λ (v : View). spare_of g.row.S v.usages) it.1.held.region in let before = ap (λ (v : View). spare_of g.row.S v.usages) n.held.region in let after = c.add_version.ensures.spare in omega (arith, same, before, after)
