use Rattle.std.proofs.Common.{◌≤◌, [], refl, sym, ap, ◌∙◌, subst, arith}
use Rattle.std.proofs.lemmas.List.{append-nil}
use Rattle.lsa_pool.specs.Room.{spare_of}
use Rattle.lsa_region.specs.Region.{View}
use Rattle.rc_memory.specs.Partitions.{AreStanding}
use Rattle.rc_memory.specs.Memory.{Memory, listed_as}
use Rattle.rc_memory.specs.Kept.{IsMemory, present}
use Rattle.rc_memory.specs.laws.Counted.{room-for}
use Rattle.rc_memory.specs.laws.One.{kept-is}
use Rattle.rc_reading.specs.Roots.{stands-with_empty}
use Rattle.rc_chain.specs.Lives.{IsChainMade, IsSameButSlots}
use Rattle.rc_chain.proofs.Living.{no-root, slot-same, slots-itself}
use Rattle.rc_chain.proofs.Making.{IsPut, made-here, slot-here}
use Rattle.rc_chain.proofs.Reading.{memory-now}
use Rattle.rc_chain.proofs.Snapshots.{on-err}
use Rattle.rc_chain.proofs.chains.Chains.make_chain.Goals as goal

pub add_root-requires : goal.add_root-requires
add_root-requires g c =
    let s = c.self.inside in let n = memory-now g.row.S s.recency s.region s.registry s.counts s.memory c.args.self.now c.self.view_is c.self.invariant.0 c.self.invariant.1 in
    (omega arith, room-for s.recency s.region s.registry s.counts c.args.self.now n.held g.row.S n.sound c.known.ensures.sound c.known.ensures.few c.self.invariant.4)

pub insert-requires : goal.insert-requires
insert-requires g c =
    let s = c.self.inside in let n = memory-now g.row.S s.recency s.region s.registry s.counts s.memory c.args.self.now c.self.view_is c.self.invariant.0 c.self.invariant.1 in
    no-root s.recency s.region s.registry s.counts c.args.self.now n.held c.add_root.new.self c.in_ok-root.root c.in_ok-root.ensures.added

pub add_version-requires : goal.add_version-requires
add_version-requires g c =
    let s = c.self.inside in let n = memory-now g.row.S s.recency s.region s.registry s.counts s.memory c.args.self.now c.self.view_is c.self.invariant.0 c.self.invariant.1 in
    (omega arith, ((s.recency, present c.args.self.now.standing, [], [], n.held.listed, stands-with_empty s.recency s.region c.add_root.new.self (present c.args.self.now.standing) [] c.in_ok-root.root n.held.listed c.in_ok-root.ensures.added c.in_ok-root.ensures.same n.held.well (subst (λ ps. AreStanding s.recency s.region ps n.held.listed) (sym (append-nil (present c.args.self.now.standing))) n.held.stands)), (c.requires.fits, subst (λ us. 152 ≤ spare_of g.row.S us) (sym c.in_ok-root.ensures.same.usages) (subst (λ (v : View). 152 ≤ spare_of g.row.S v.usages) n.held.region c.requires.spare))))

pub invariant_of-self-inside-in-Ok : goal.invariant_of-self-inside-in-Ok
invariant_of-self-inside-in-Ok g c =
    let s = c.self.inside in let n = memory-now g.row.S s.recency s.region s.registry s.counts s.memory c.args.self.now c.self.view_is c.self.invariant.0 c.self.invariant.1 in
    let a = c.in_ok-root.ensures.added in let put = subst (λ f. IsPut c.add_root.new.self c.add_version.new.region c.in_ok-root.root c.add_version.result f c.args.pt c.args.phase) c.flag_of_new.ensures (record { added = c.add_version.ensures.added; statics = c.add_version.ensures.statics; epoch = c.add_version.ensures.epoch; slots = c.add_version.ensures.slots; budget = c.add_version.ensures.budget; moved = c.add_version.ensures.moved; compacted = c.add_version.ensures.compacted; well = c.add_version.ensures.well }) in let it = made-here g.row.S s.recency s.region s.registry s.counts c.args.self.now n c.add_root.new.self c.add_version.new.region c.in_ok-root.root a c.in_ok-root.ensures.same c.in_ok-root.ensures.well c.in-Ok.id c.args.kind c.args.pt c.args.phase c.add_version.result c.requires.fits c.in-Ok.ensures.vacant c.in-Ok.ensures.fresh put in ((it.0, ∣ subst (λ r. IsMemory g.row.S s.recency c.add_version.new.region r s.counts it.0) (sym c.in-Ok.ensures.made) it.1 ∣₁), tt)

pub invariant_of-self-in-Ok : goal.invariant_of-self-in-Ok
invariant_of-self-in-Ok g c =
    let s = c.self.inside in let n = memory-now g.row.S s.recency s.region s.registry s.counts s.memory c.args.self.now c.self.view_is c.self.invariant.0 c.self.invariant.1 in
    let a = c.in_ok-root.ensures.added in let put = subst (λ f. IsPut c.add_root.new.self c.add_version.new.region c.in_ok-root.root c.add_version.result f c.args.pt c.args.phase) c.flag_of_new.ensures (record { added = c.add_version.ensures.added; statics = c.add_version.ensures.statics; epoch = c.add_version.ensures.epoch; slots = c.add_version.ensures.slots; budget = c.add_version.ensures.budget; moved = c.add_version.ensures.moved; compacted = c.add_version.ensures.compacted; well = c.add_version.ensures.well }) in let it = made-here g.row.S s.recency s.region s.registry s.counts c.args.self.now n c.add_root.new.self c.add_version.new.region c.in_ok-root.root a c.in_ok-root.ensures.same c.in_ok-root.ensures.well c.in-Ok.id c.args.kind c.args.pt c.args.phase c.add_version.result c.requires.fits c.in-Ok.ensures.vacant c.in-Ok.ensures.fresh put in (it.0, subst (λ r. IsMemory g.row.S s.recency c.add_version.new.region r s.counts it.0) (sym c.in-Ok.ensures.made) it.1, c.self.invariant.2, c.self.invariant.3, c.self.invariant.4)

pub invariant_of-self-inside-in-Err : goal.invariant_of-self-inside-in-Err
invariant_of-self-inside-in-Err g c =
    let s = c.self.inside in let n = memory-now g.row.S s.recency s.region s.registry s.counts s.memory c.args.self.now c.self.view_is c.self.invariant.0 c.self.invariant.1 in
    ((listed_as c.args.self.now.recency c.drop_root.new.self c.args.self.now, ∣ subst (λ r. IsMemory g.row.S s.recency c.drop_root.new.self r s.counts (listed_as c.args.self.now.recency c.drop_root.new.self c.args.self.now)) (sym c.in-Err.ensures.err) (slot-here g.row.S s.recency s.region s.registry s.counts c.args.self.now n c.add_root.new.self c.drop_root.new.self c.in_ok-root.root c.in_ok-root.ensures.added c.in_ok-root.ensures.same c.in_ok-root.ensures.well c.drop_root.ensures.dropped c.drop_root.ensures.same c.drop_root.ensures.well) ∣₁), tt)

pub invariant_of-self-in-Err : goal.invariant_of-self-in-Err
invariant_of-self-in-Err g c =
    let s = c.self.inside in let n = memory-now g.row.S s.recency s.region s.registry s.counts s.memory c.args.self.now c.self.view_is c.self.invariant.0 c.self.invariant.1 in
    (listed_as c.args.self.now.recency c.drop_root.new.self c.args.self.now, subst (λ r. IsMemory g.row.S s.recency c.drop_root.new.self r s.counts (listed_as c.args.self.now.recency c.drop_root.new.self c.args.self.now)) (sym c.in-Err.ensures.err) (slot-here g.row.S s.recency s.region s.registry s.counts c.args.self.now n c.add_root.new.self c.drop_root.new.self c.in_ok-root.root c.in_ok-root.ensures.added c.in_ok-root.ensures.same c.in_ok-root.ensures.well c.drop_root.ensures.dropped c.drop_root.ensures.same c.drop_root.ensures.well), c.self.invariant.2, c.self.invariant.3, c.self.invariant.4)

pub returns-in-Ok-clause-made : goal.returns-in-Ok-clause-made
returns-in-Ok-clause-made g c =
    let s = c.self.inside in let n = memory-now g.row.S s.recency s.region s.registry s.counts s.memory c.args.self.now c.self.view_is c.self.invariant.0 c.self.invariant.1 in
    let a = c.in_ok-root.ensures.added in let put = subst (λ f. IsPut c.add_root.new.self c.add_version.new.region c.in_ok-root.root c.add_version.result f c.args.pt c.args.phase) c.flag_of_new.ensures (record { added = c.add_version.ensures.added; statics = c.add_version.ensures.statics; epoch = c.add_version.ensures.epoch; slots = c.add_version.ensures.slots; budget = c.add_version.ensures.budget; moved = c.add_version.ensures.moved; compacted = c.add_version.ensures.compacted; well = c.add_version.ensures.well }) in let it = made-here g.row.S s.recency s.region s.registry s.counts c.args.self.now n c.add_root.new.self c.add_version.new.region c.in_ok-root.root a c.in_ok-root.ensures.same c.in_ok-root.ensures.well c.in-Ok.id c.args.kind c.args.pt c.args.phase c.add_version.result c.requires.fits c.in-Ok.ensures.vacant c.in-Ok.ensures.fresh put in let is = kept-is g.row.S s.recency c.add_version.new.region c.insert.new.self s.counts c.self-in-Ok-1.given.0 it.0 (subst (λ r. IsMemory g.row.S s.recency c.add_version.new.region r s.counts it.0) (sym c.in-Ok.ensures.made) it.1).held in
    subst (IsChainMade c.in-Ok.id c.args.kind c.args.pt c.args.phase c.args.self.now.recency c.args.self.now) (sym is) it.2

pub returns-in-Ok-clause-spare : goal.returns-in-Ok-clause-spare
returns-in-Ok-clause-spare g c =
    let s = c.self.inside in let n = memory-now g.row.S s.recency s.region s.registry s.counts s.memory c.args.self.now c.self.view_is c.self.invariant.0 c.self.invariant.1 in
    let a = c.in_ok-root.ensures.added in let put = subst (λ f. IsPut c.add_root.new.self c.add_version.new.region c.in_ok-root.root c.add_version.result f c.args.pt c.args.phase) c.flag_of_new.ensures (record { added = c.add_version.ensures.added; statics = c.add_version.ensures.statics; epoch = c.add_version.ensures.epoch; slots = c.add_version.ensures.slots; budget = c.add_version.ensures.budget; moved = c.add_version.ensures.moved; compacted = c.add_version.ensures.compacted; well = c.add_version.ensures.well }) in let it = made-here g.row.S s.recency s.region s.registry s.counts c.args.self.now n c.add_root.new.self c.add_version.new.region c.in_ok-root.root a c.in_ok-root.ensures.same c.in_ok-root.ensures.well c.in-Ok.id c.args.kind c.args.pt c.args.phase c.add_version.result c.requires.fits c.in-Ok.ensures.vacant c.in-Ok.ensures.fresh put in let is = kept-is g.row.S s.recency c.add_version.new.region c.insert.new.self s.counts c.self-in-Ok-1.given.0 it.0 (subst (λ r. IsMemory g.row.S s.recency c.add_version.new.region r s.counts it.0) (sym c.in-Ok.ensures.made) it.1).held in let same = ap (λ (m : Memory). spare_of g.row.S m.region.usages) is ∙ ap (λ (v : View). spare_of g.row.S v.usages) it.1.held.region in let before = ap (λ (v : View). spare_of g.row.S v.usages) n.held.region in let mid = ap (λ us. spare_of g.row.S us) c.in_ok-root.ensures.same.usages in let after = c.add_version.ensures.spare in omega (arith, same, before, mid, after)

pub returns-in-Err-clause-err : goal.returns-in-Err-clause-err
returns-in-Err-clause-err g c =
    let s = c.self.inside in let n = memory-now g.row.S s.recency s.region s.registry s.counts s.memory c.args.self.now c.self.view_is c.self.invariant.0 c.self.invariant.1 in
    let is = kept-is g.row.S s.recency c.drop_root.new.self c.insert.new.self s.counts c.self-in-Err-1.given.0 (listed_as c.args.self.now.recency c.drop_root.new.self c.args.self.now) (subst (λ r. IsMemory g.row.S s.recency c.drop_root.new.self r s.counts (listed_as c.args.self.now.recency c.drop_root.new.self c.args.self.now)) (sym c.in-Err.ensures.err) (slot-here g.row.S s.recency s.region s.registry s.counts c.args.self.now n c.add_root.new.self c.drop_root.new.self c.in_ok-root.root c.in_ok-root.ensures.added c.in_ok-root.ensures.same c.in_ok-root.ensures.well c.drop_root.ensures.dropped c.drop_root.ensures.same c.drop_root.ensures.well)).held in
    subst (IsSameButSlots c.args.self.now) (sym is) (record { same = refl; region = slot-same s.recency s.region s.registry s.counts c.args.self.now n.held c.add_root.new.self c.drop_root.new.self c.in_ok-root.root c.in_ok-root.ensures.added c.in_ok-root.ensures.same c.drop_root.ensures.dropped c.drop_root.ensures.same c.drop_root.ensures.well })

pub returns-in_err-root-clause-err : goal.returns-in_err-root-clause-err
returns-in_err-root-clause-err g c =
    let s = c.self.inside in let n = memory-now g.row.S s.recency s.region s.registry s.counts s.memory c.args.self.now c.self.view_is c.self.invariant.0 c.self.invariant.1 in
    on-err _ c.from_residual.result (subst (IsSameButSlots c.args.self.now) (sym (kept-is g.row.S s.recency c.add_root.new.self s.registry s.counts c.in_err-root.self-1-own.given.0 c.args.self.now (subst (λ v. IsMemory g.row.S s.recency v s.registry s.counts c.args.self.now) (sym c.in_err-root.ensures.err) n).held)) (slots-itself c.args.self.now))
