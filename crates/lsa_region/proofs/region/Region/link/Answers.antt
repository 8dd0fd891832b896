use Rattle.std.proofs.Common.{◌≡◌, ◌<◌, None, refl, sym, subst}
use Rattle.lsa_store.specs.Room.{free_count}
use Rattle.lsa_region.specs.Region.{View, link_of, IsEnd, SameObjects}
use Rattle.lsa_region.proofs.Regions.{region-tie, same-objects}
use Rattle.lsa_region.proofs.region.Region.link.Goals as goal

pub invariant_of-self : goal.invariant_of-self
invariant_of-self g c =
    let i = c.self.inside in let e = c.tie.ensures in
    let v : View = record { cells = i.store.cells; roots = i.roots; usages = i.store.usages; epoch = i.epoch; moved = i.moved; compacted = i.compacted } in
    let w : View = record v { cells = c.tie.new.store.cells; roots = c.tie.new.roots; usages = c.tie.new.store.usages } in
    region-tie v w c.self.invariant e.ends (subst (λ l. 0 < free_count l) (sym e.usages) c.self.invariant.reserve) c.args.a c.args.b e.tied
    (subst (λ (u : View). link_of u c.args.a ≡ None) (sym c.self.view_is) c.requires.first_unset) (subst (λ (u : View). link_of u c.args.b ≡ None) (sym c.self.view_is) c.requires.second_unset) c.requires.differ
    (subst (λ (u : View). IsEnd u c.args.a) (sym c.self.view_is) c.requires.first) (subst (λ (u : View). IsEnd u c.args.b) (sym c.self.view_is) c.requires.second)

pub returns-clause-objects : goal.returns-clause-objects
returns-clause-objects g c =
    let i = c.self.inside in let e = c.tie.ensures in
    let v : View = record { cells = i.store.cells; roots = i.roots; usages = i.store.usages; epoch = i.epoch; moved = i.moved; compacted = i.compacted } in
    let w : View = record v { cells = c.tie.new.store.cells; roots = c.tie.new.roots; usages = c.tie.new.store.usages } in
    subst (λ (u : View). SameObjects u w) c.self.view_is (same-objects v w e.shape.bodies e.ends e.back e.slots e.usages refl refl refl)

pub returns-clause-well : goal.returns-clause-well
returns-clause-well g c = (invariant_of-self g c).well
