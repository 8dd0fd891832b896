use Rattle.std.proofs.Common.{sym, ap, ◌∙◌, subst, arith}
use Rattle.lsa_pool.specs.Room.{spare_of}
use Rattle.lsa_region.specs.Region.{View}
use Rattle.rc_memory.specs.Partitions.{AreStanding, StandingVersion, among, standing}
use Rattle.rc_memory.specs.Memory.{Memory}
use Rattle.rc_memory.specs.Kept.{IsMemory}
use Rattle.rc_memory.specs.laws.One.{kept-is}
use Rattle.rc_chain.specs.Lives.{IsVersionDropped}
use Rattle.rc_chain.proofs.Bare.{bare-at}
use Rattle.rc_chain.proofs.Making.{IsTakenAway, fewer-here}
use Rattle.rc_chain.proofs.Living.{has-chain}
use Rattle.rc_chain.proofs.Reading.{memory-now, there}
use Rattle.rc_chain.proofs.chains.Chains.drop_bare.Goals as goal

pub get-requires : goal.get-requires
get-requires g c =
    let s = c.self.inside in let n = memory-now g.row.S s.recency s.region s.registry s.counts s.memory c.args.self.now c.self.view_is c.self.invariant.0 c.self.invariant.1 in
    there s.recency s.region s.registry s.counts c.args.self.now n.held c.args.id (has-chain c.args.self.now c.args.id _ c.requires.bare)

pub drop_version-requires : goal.drop_version-requires
drop_version-requires g c =
    let s = c.self.inside in let n = memory-now g.row.S s.recency s.region s.registry s.counts s.memory c.args.self.now c.self.view_is c.self.invariant.0 c.self.invariant.1 in
    let b = bare-at s.recency s.region s.registry s.counts c.args.self.now n.held c.args.id c.args.number c.version-n.result _ c.get.ensures c.requires.bare c.requires.unlisted c.version-n.ensures in (omega arith, (s.recency, b.front, b.number.older, b.end, b.version.version, b.number.newer, b.back, n.held.listed, subst (λ (t : StandingVersion). AreStanding s.recency s.region (among b.front c.get.result.now.root b.number.older t b.number.newer b.back) n.held.listed) (λ i. standing (b.object i) (b.entries i) b.version.version) b.stands, b.statics, b.unlisted))

pub invariant_of-self-inside : goal.invariant_of-self-inside
invariant_of-self-inside g c =
    let s = c.self.inside in let n = memory-now g.row.S s.recency s.region s.registry s.counts s.memory c.args.self.now c.self.view_is c.self.invariant.0 c.self.invariant.1 in
    let b = bare-at s.recency s.region s.registry s.counts c.args.self.now n.held c.args.id c.args.number c.version-n.result _ c.get.ensures c.requires.bare c.requires.unlisted c.version-n.ensures in let it = fewer-here g.row.S s.recency s.region s.registry s.counts c.args.self.now n c.drop_version.new.region c.args.id c.args.number b.partition b.version b.there b.number c.requires.free c.requires.unlisted (subst (λ r. IsTakenAway s.region c.drop_version.new.region r b.version.object) (sym b.root) (subst (λ o. IsTakenAway s.region c.drop_version.new.region c.get.result.now.root o) (sym b.object) (record { dropped = c.drop_version.ensures.dropped; statics = c.drop_version.ensures.statics; epoch = c.drop_version.ensures.epoch; slots = c.drop_version.ensures.slots; budget = c.drop_version.ensures.budget; moved = c.drop_version.ensures.moved; compacted = c.drop_version.ensures.compacted; well = c.drop_version.ensures.well }))) in ((it.0, ∣ subst (λ r. IsMemory g.row.S s.recency c.drop_version.new.region r s.counts it.0) (sym c.renumber.ensures) it.1 ∣₁), tt)

pub invariant_of-self : goal.invariant_of-self
invariant_of-self g c =
    let s = c.self.inside in let n = memory-now g.row.S s.recency s.region s.registry s.counts s.memory c.args.self.now c.self.view_is c.self.invariant.0 c.self.invariant.1 in
    let b = bare-at s.recency s.region s.registry s.counts c.args.self.now n.held c.args.id c.args.number c.version-n.result _ c.get.ensures c.requires.bare c.requires.unlisted c.version-n.ensures in let it = fewer-here g.row.S s.recency s.region s.registry s.counts c.args.self.now n c.drop_version.new.region c.args.id c.args.number b.partition b.version b.there b.number c.requires.free c.requires.unlisted (subst (λ r. IsTakenAway s.region c.drop_version.new.region r b.version.object) (sym b.root) (subst (λ o. IsTakenAway s.region c.drop_version.new.region c.get.result.now.root o) (sym b.object) (record { dropped = c.drop_version.ensures.dropped; statics = c.drop_version.ensures.statics; epoch = c.drop_version.ensures.epoch; slots = c.drop_version.ensures.slots; budget = c.drop_version.ensures.budget; moved = c.drop_version.ensures.moved; compacted = c.drop_version.ensures.compacted; well = c.drop_version.ensures.well }))) in (it.0, subst (λ r. IsMemory g.row.S s.recency c.drop_version.new.region r s.counts it.0) (sym c.renumber.ensures) it.1, c.self.invariant.2, c.self.invariant.3, c.self.invariant.4)

pub returns-clause-dropped : goal.returns-clause-dropped
returns-clause-dropped g c =
    let s = c.self.inside in let n = memory-now g.row.S s.recency s.region s.registry s.counts s.memory c.args.self.now c.self.view_is c.self.invariant.0 c.self.invariant.1 in
    let b = bare-at s.recency s.region s.registry s.counts c.args.self.now n.held c.args.id c.args.number c.version-n.result _ c.get.ensures c.requires.bare c.requires.unlisted c.version-n.ensures in let it = fewer-here g.row.S s.recency s.region s.registry s.counts c.args.self.now n c.drop_version.new.region c.args.id c.args.number b.partition b.version b.there b.number c.requires.free c.requires.unlisted (subst (λ r. IsTakenAway s.region c.drop_version.new.region r b.version.object) (sym b.root) (subst (λ o. IsTakenAway s.region c.drop_version.new.region c.get.result.now.root o) (sym b.object) (record { dropped = c.drop_version.ensures.dropped; statics = c.drop_version.ensures.statics; epoch = c.drop_version.ensures.epoch; slots = c.drop_version.ensures.slots; budget = c.drop_version.ensures.budget; moved = c.drop_version.ensures.moved; compacted = c.drop_version.ensures.compacted; well = c.drop_version.ensures.well }))) in let is = kept-is g.row.S s.recency c.drop_version.new.region c.renumber.new.self s.counts c.self-1.given.0 it.0 (subst (λ r. IsMemory g.row.S s.recency c.drop_version.new.region r s.counts it.0) (sym c.renumber.ensures) it.1).held in subst (IsVersionDropped c.args.id c.args.number c.args.self.now) (sym is) it.2

pub returns-clause-spare : goal.returns-clause-spare
returns-clause-spare g c =
    let s = c.self.inside in let n = memory-now g.row.S s.recency s.region s.registry s.counts s.memory c.args.self.now c.self.view_is c.self.invariant.0 c.self.invariant.1 in
    let b = bare-at s.recency s.region s.registry s.counts c.args.self.now n.held c.args.id c.args.number c.version-n.result _ c.get.ensures c.requires.bare c.requires.unlisted c.version-n.ensures in let it = fewer-here g.row.S s.recency s.region s.registry s.counts c.args.self.now n c.drop_version.new.region c.args.id c.args.number b.partition b.version b.there b.number c.requires.free c.requires.unlisted (subst (λ r. IsTakenAway s.region c.drop_version.new.region r b.version.object) (sym b.root) (subst (λ o. IsTakenAway s.region c.drop_version.new.region c.get.result.now.root o) (sym b.object) (record { dropped = c.drop_version.ensures.dropped; statics = c.drop_version.ensures.statics; epoch = c.drop_version.ensures.epoch; slots = c.drop_version.ensures.slots; budget = c.drop_version.ensures.budget; moved = c.drop_version.ensures.moved; compacted = c.drop_version.ensures.compacted; well = c.drop_version.ensures.well }))) in let is = kept-is g.row.S s.recency c.drop_version.new.region c.renumber.new.self s.counts c.self-1.given.0 it.0 (subst (λ r. IsMemory g.row.S s.recency c.drop_version.new.region r s.counts it.0) (sym c.renumber.ensures) it.1).held in ap (λ (m : Memory). spare_of g.row.S m.region.usages) is ∙ ap (λ (v : View). spare_of g.row.S v.usages) it.1.held.region ∙ c.drop_version.ensures.spare ∙ sym (ap (λ (v : View). spare_of g.row.S v.usages) n.held.region)
