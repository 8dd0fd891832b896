use Rattle.std.proofs.Common.{◌≡◌, None, refl, sym, subst}
use Rattle.lsa_region.specs.declared.end.End.TheVariants.{Slot}
use Rattle.lsa_region.specs.Region.{View, link_of, IsRootDropped}
use Rattle.lsa_region.proofs.Regions.{root-dropped, region-root-dropped}
use Rattle.lsa_region.proofs.region.Region.drop_root.Goals as goal

pub invariant_of-self : goal.invariant_of-self
invariant_of-self g c =
    let i = c.self.inside in let v : View = record { cells = i.store.cells; roots = i.roots; usages = i.store.usages; epoch = i.epoch; moved = i.moved; compacted = i.compacted } in
    let w : View = record v { roots = c.remove.new.self } in
    let unset = subst (λ (u : View). link_of u (Slot c.args.r) ≡ None) (sym c.self.view_is) c.requires.unset in
    region-root-dropped v w c.args.r c.self.invariant refl unset (root-dropped v w c.args.r.number refl unset c.remove.ensures)

pub returns-clause-dropped : goal.returns-clause-dropped
returns-clause-dropped g c =
    let i = c.self.inside in let v : View = record { cells = i.store.cells; roots = i.roots; usages = i.store.usages; epoch = i.epoch; moved = i.moved; compacted = i.compacted } in
    let w : View = record v { roots = c.remove.new.self } in
    let unset = subst (λ (u : View). link_of u (Slot c.args.r) ≡ None) (sym c.self.view_is) c.requires.unset in
    subst (λ (u : View). IsRootDropped u w c.args.r) c.self.view_is (root-dropped v w c.args.r.number refl unset c.remove.ensures)

pub returns-clause-well : goal.returns-clause-well
returns-clause-well g c = (invariant_of-self g c).well
