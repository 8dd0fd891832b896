use Rattle.std.proofs.Common.{◌≡◌, [], ◌∷◌, sym, ap, ◌∙◌, subst, arith}
use Rattle.lsa_pool.specs.Room.{spare_of}
use Rattle.lsa_region.specs.Region.{View}
use Rattle.rc_memory.specs.Partitions.{AreStanding, StandingVersion, among, standing}
use Rattle.rc_core.specs.Version.{Version}
use Rattle.rc_memory.specs.Memory.{KeptChain, Memory, chain_at}
use Rattle.rc_memory.specs.Kept.{IsMemory}
use Rattle.rc_memory.specs.laws.One.{kept-is}
use Rattle.rc_chain.specs.Lives.{IsEndAlone, IsChainDropped}
use Rattle.rc_chain.proofs.Bare.{alone-at, bare-at, some-chain, slot-after}
use Rattle.rc_chain.proofs.Making.{IsTakenAway, gone-here}
use Rattle.rc_chain.proofs.Living.{has-chain, only-version}
use Rattle.rc_chain.proofs.Reading.{memory-now, there}
use Rattle.rc_chain.proofs.chains.Chains.close.Goals as goal

pub get-requires : goal.get-requires
get-requires g c =
    let s = c.self.inside in let n = memory-now g.row.S s.recency s.region s.registry s.counts s.memory c.args.self.now c.self.view_is c.self.invariant.0 c.self.invariant.1 in
    there s.recency s.region s.registry s.counts c.args.self.now n.held c.args.id (has-chain c.args.self.now c.args.id _ c.requires.bare)

pub drop_version-requires : goal.drop_version-requires
drop_version-requires g c =
    let s = c.self.inside in let n = memory-now g.row.S s.recency s.region s.registry s.counts s.memory c.args.self.now c.self.view_is c.self.invariant.0 c.self.invariant.1 in
    let k = some-chain (chain_at c.args.self.now c.args.id) (λ (k : KeptChain). (v : Version) × (k.chain.versions ≡ v ∷ []) × IsEndAlone v) c.requires.bare in let b = bare-at s.recency s.region s.registry s.counts c.args.self.now n.held c.args.id 0 c.version-n.result _ c.get.ensures (only-version c.args.self.now c.args.id c.requires.bare) c.requires.unlisted c.version-n.ensures in (omega arith, (s.recency, b.front, b.number.older, b.end, b.version.version, b.number.newer, b.back, n.held.listed, subst (λ (t : StandingVersion). AreStanding s.recency s.region (among b.front c.get.result.now.root b.number.older t b.number.newer b.back) n.held.listed) (λ i. standing (b.object i) (b.entries i) b.version.version) b.stands, b.statics, b.unlisted))

pub drop_root-requires : goal.drop_root-requires
drop_root-requires g c =
    let s = c.self.inside in let n = memory-now g.row.S s.recency s.region s.registry s.counts s.memory c.args.self.now c.self.view_is c.self.invariant.0 c.self.invariant.1 in
    let k = some-chain (chain_at c.args.self.now c.args.id) (λ (k : KeptChain). (v : Version) × (k.chain.versions ≡ v ∷ []) × IsEndAlone v) c.requires.bare in let b = bare-at s.recency s.region s.registry s.counts c.args.self.now n.held c.args.id 0 c.version-n.result _ c.get.ensures (only-version c.args.self.now c.args.id c.requires.bare) c.requires.unlisted c.version-n.ensures in (omega arith, slot-after s.recency s.region s.registry s.counts c.args.self.now n.held c.drop_version.new.region c.args.id c.version-n.result c.get.result.now.root b k.0 k.2.0 k.1 k.2.1 (subst (λ o. IsTakenAway s.region c.drop_version.new.region c.get.result.now.root o) (sym b.object) (record { dropped = c.drop_version.ensures.dropped; statics = c.drop_version.ensures.statics; epoch = c.drop_version.ensures.epoch; slots = c.drop_version.ensures.slots; budget = c.drop_version.ensures.budget; moved = c.drop_version.ensures.moved; compacted = c.drop_version.ensures.compacted; well = c.drop_version.ensures.well })))

pub invariant_of-self-inside : goal.invariant_of-self-inside
invariant_of-self-inside g c =
    let s = c.self.inside in let n = memory-now g.row.S s.recency s.region s.registry s.counts s.memory c.args.self.now c.self.view_is c.self.invariant.0 c.self.invariant.1 in
    let k = some-chain (chain_at c.args.self.now c.args.id) (λ (k : KeptChain). (v : Version) × (k.chain.versions ≡ v ∷ []) × IsEndAlone v) c.requires.bare in let b = bare-at s.recency s.region s.registry s.counts c.args.self.now n.held c.args.id 0 c.version-n.result _ c.get.ensures (only-version c.args.self.now c.args.id c.requires.bare) c.requires.unlisted c.version-n.ensures in let it = gone-here g.row.S s.recency s.region s.registry s.counts c.args.self.now n c.drop_version.new.region c.drop_root.new.self c.args.id c.get.result.now.root b.version (alone-at s.recency s.region s.registry s.counts c.args.self.now n.held c.args.id c.version-n.result c.get.result.now.root b k.0 k.2.0 k.1 k.2.1) c.requires.unlisted (subst (λ o. IsTakenAway s.region c.drop_version.new.region c.get.result.now.root o) (sym b.object) (record { dropped = c.drop_version.ensures.dropped; statics = c.drop_version.ensures.statics; epoch = c.drop_version.ensures.epoch; slots = c.drop_version.ensures.slots; budget = c.drop_version.ensures.budget; moved = c.drop_version.ensures.moved; compacted = c.drop_version.ensures.compacted; well = c.drop_version.ensures.well })) c.drop_root.ensures.dropped c.drop_root.ensures.same c.drop_root.ensures.well in ((it.0, ∣ subst (λ r. IsMemory g.row.S s.recency c.drop_root.new.self r s.counts it.0) (sym c.remove.ensures) it.1 ∣₁), tt)

pub invariant_of-self : goal.invariant_of-self
invariant_of-self g c =
    let s = c.self.inside in let n = memory-now g.row.S s.recency s.region s.registry s.counts s.memory c.args.self.now c.self.view_is c.self.invariant.0 c.self.invariant.1 in
    let k = some-chain (chain_at c.args.self.now c.args.id) (λ (k : KeptChain). (v : Version) × (k.chain.versions ≡ v ∷ []) × IsEndAlone v) c.requires.bare in let b = bare-at s.recency s.region s.registry s.counts c.args.self.now n.held c.args.id 0 c.version-n.result _ c.get.ensures (only-version c.args.self.now c.args.id c.requires.bare) c.requires.unlisted c.version-n.ensures in let it = gone-here g.row.S s.recency s.region s.registry s.counts c.args.self.now n c.drop_version.new.region c.drop_root.new.self c.args.id c.get.result.now.root b.version (alone-at s.recency s.region s.registry s.counts c.args.self.now n.held c.args.id c.version-n.result c.get.result.now.root b k.0 k.2.0 k.1 k.2.1) c.requires.unlisted (subst (λ o. IsTakenAway s.region c.drop_version.new.region c.get.result.now.root o) (sym b.object) (record { dropped = c.drop_version.ensures.dropped; statics = c.drop_version.ensures.statics; epoch = c.drop_version.ensures.epoch; slots = c.drop_version.ensures.slots; budget = c.drop_version.ensures.budget; moved = c.drop_version.ensures.moved; compacted = c.drop_version.ensures.compacted; well = c.drop_version.ensures.well })) c.drop_root.ensures.dropped c.drop_root.ensures.same c.drop_root.ensures.well in (it.0, subst (λ r. IsMemory g.row.S s.recency c.drop_root.new.self r s.counts it.0) (sym c.remove.ensures) it.1, c.self.invariant.2, c.self.invariant.3, c.self.invariant.4)

pub returns-clause-dropped : goal.returns-clause-dropped
returns-clause-dropped g c =
    let s = c.self.inside in let n = memory-now g.row.S s.recency s.region s.registry s.counts s.memory c.args.self.now c.self.view_is c.self.invariant.0 c.self.invariant.1 in
    let k = some-chain (chain_at c.args.self.now c.args.id) (λ (k : KeptChain). (v : Version) × (k.chain.versions ≡ v ∷ []) × IsEndAlone v) c.requires.bare in let b = bare-at s.recency s.region s.registry s.counts c.args.self.now n.held c.args.id 0 c.version-n.result _ c.get.ensures (only-version c.args.self.now c.args.id c.requires.bare) c.requires.unlisted c.version-n.ensures in let it = gone-here g.row.S s.recency s.region s.registry s.counts c.args.self.now n c.drop_version.new.region c.drop_root.new.self c.args.id c.get.result.now.root b.version (alone-at s.recency s.region s.registry s.counts c.args.self.now n.held c.args.id c.version-n.result c.get.result.now.root b k.0 k.2.0 k.1 k.2.1) c.requires.unlisted (subst (λ o. IsTakenAway s.region c.drop_version.new.region c.get.result.now.root o) (sym b.object) (record { dropped = c.drop_version.ensures.dropped; statics = c.drop_version.ensures.statics; epoch = c.drop_version.ensures.epoch; slots = c.drop_version.ensures.slots; budget = c.drop_version.ensures.budget; moved = c.drop_version.ensures.moved; compacted = c.drop_version.ensures.compacted; well = c.drop_version.ensures.well })) c.drop_root.ensures.dropped c.drop_root.ensures.same c.drop_root.ensures.well in let is = kept-is g.row.S s.recency c.drop_root.new.self c.remove.new.self s.counts c.self-1.given.0 it.0 (subst (λ r. IsMemory g.row.S s.recency c.drop_root.new.self r s.counts it.0) (sym c.remove.ensures) it.1).held in subst (IsChainDropped c.args.id c.args.self.now.recency c.args.self.now) (sym is) it.2

pub returns-clause-spare : goal.returns-clause-spare
returns-clause-spare g c =
    let s = c.self.inside in let n = memory-now g.row.S s.recency s.region s.registry s.counts s.memory c.args.self.now c.self.view_is c.self.invariant.0 c.self.invariant.1 in
    let k = some-chain (chain_at c.args.self.now c.args.id) (λ (k : KeptChain). (v : Version) × (k.chain.versions ≡ v ∷ []) × IsEndAlone v) c.requires.bare in let b = bare-at s.recency s.region s.registry s.counts c.args.self.now n.held c.args.id 0 c.version-n.result _ c.get.ensures (only-version c.args.self.now c.args.id c.requires.bare) c.requires.unlisted c.version-n.ensures in let it = gone-here g.row.S s.recency s.region s.registry s.counts c.args.self.now n c.drop_version.new.region c.drop_root.new.self c.args.id c.get.result.now.root b.version (alone-at s.recency s.region s.registry s.counts c.args.self.now n.held c.args.id c.version-n.result c.get.result.now.root b k.0 k.2.0 k.1 k.2.1) c.requires.unlisted (subst (λ o. IsTakenAway s.region c.drop_version.new.region c.get.result.now.root o) (sym b.object) (record { dropped = c.drop_version.ensures.dropped; statics = c.drop_version.ensures.statics; epoch = c.drop_version.ensures.epoch; slots = c.drop_version.ensures.slots; budget = c.drop_version.ensures.budget; moved = c.drop_version.ensures.moved; compacted = c.drop_version.ensures.compacted; well = c.drop_version.ensures.well })) c.drop_root.ensures.dropped c.drop_root.ensures.same c.drop_root.ensures.well in let is = kept-is g.row.S s.recency c.drop_root.new.self c.remove.new.self s.counts c.self-1.given.0 it.0 (subst (λ r. IsMemory g.row.S s.recency c.drop_root.new.self r s.counts it.0) (sym c.remove.ensures) it.1).held in ap (λ (m : Memory). spare_of g.row.S m.region.usages) is ∙ ap (λ (v : View). spare_of g.row.S v.usages) it.1.held.region ∙ ap (λ us. spare_of g.row.S us) c.drop_root.ensures.same.usages ∙ c.drop_version.ensures.spare ∙ sym (ap (λ (v : View). spare_of g.row.S v.usages) n.held.region)
