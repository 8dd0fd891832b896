use Rattle.std.proofs.Common.{◌<◌, arith, refl, sym, subst}
use Rattle.lsa_store.specs.Room.{free_count}
use Rattle.lsa_region.specs.Region.{View, IsEnd, SameObjects}
use Rattle.lsa_region.proofs.Regions.{region-exchange, same-objects}
use Rattle.lsa_region.proofs.region.Region.exchange.Goals as goal

pub exchange-requires : goal.exchange-requires
exchange-requires g c = (
  omega arith,
  (
    subst (λ (u : View). IsEnd u c.args.a) (sym c.self.view_is) c.requires.first,
    (
      subst (λ (u : View). IsEnd u c.args.b) (sym c.self.view_is) c.requires.second,
      (c.requires.differ, (c.self.invariant.well.paired, c.self.invariant.well.ends)),
    ),
  ),
)

pub invariant_of-self : goal.invariant_of-self
invariant_of-self g c =
    let i = c.self.inside in let e = c.exchange.ensures in
    let v : View = record { cells = i.store.cells; roots = i.roots; usages = i.store.usages; epoch = i.epoch; moved = i.moved; compacted = i.compacted } in
    let w : View = record v { cells = c.exchange.new.store.cells; roots = c.exchange.new.roots; usages = c.exchange.new.store.usages } in
    region-exchange v w c.self.invariant e.ends (subst (λ l. 0 < free_count l) (sym e.usages) c.self.invariant.reserve) c.args.a c.args.b e.exchanged c.requires.differ
    (subst (λ (u : View). IsEnd u c.args.a) (sym c.self.view_is) c.requires.first) (subst (λ (u : View). IsEnd u c.args.b) (sym c.self.view_is) c.requires.second)

pub returns-clause-objects : goal.returns-clause-objects
returns-clause-objects g c =
    let i = c.self.inside in let e = c.exchange.ensures in
    let v : View = record { cells = i.store.cells; roots = i.roots; usages = i.store.usages; epoch = i.epoch; moved = i.moved; compacted = i.compacted } in
    let w : View = record v { cells = c.exchange.new.store.cells; roots = c.exchange.new.roots; usages = c.exchange.new.store.usages } in
    subst (λ (u : View). SameObjects u w) c.self.view_is (same-objects v w e.shape.bodies e.ends e.back e.slots e.usages refl refl refl)

pub returns-clause-well : goal.returns-clause-well
returns-clause-well g c = (invariant_of-self g c).well
