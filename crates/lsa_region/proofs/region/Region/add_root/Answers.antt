use Rattle.std.proofs.Common.{refl, subst, sym, ◌≡◌}
use Rattle.std.specs.Prelude.{IfOk, OnErr, Ok, Err}
use Rattle.std.specs.Prelude.{◌≡◌}
use Rattle.lsa_region.specs.calls.Ends.{IsSlotMade}
use Rattle.lsa_region.specs.Region.{View, IsRegion}
use Rattle.lsa_region.proofs.Regions.{root-added, region-root-added}
use Rattle.lsa_region.proofs.region.Region.add_root.Goals as goal

pub invariant_of-self : goal.invariant_of-self
invariant_of-self g c =
    let i = c.self.inside in
    let v : View = record { cells = i.store.cells; roots = i.roots; usages = i.store.usages; epoch = i.epoch; moved = i.moved; compacted = i.compacted } in
    let w : View = record v { roots = c.make.new.self } in
    elim c.make.result as (λ r. IfOk r (IsSlotMade v.roots w.roots) → OnErr r (w.roots ≡ v.roots) → IsRegion w) [
      | Ok n ↦ λ made same. region-root-added v w (record { number = n }) c.self.invariant refl (root-added v w n refl made)
      | Err e ↦ λ made same. subst (λ l. IsRegion (record v { roots = l })) (sym same) c.self.invariant
    ] c.make.ensures.made c.make.ensures.err

pub returns-clause-well : goal.returns-clause-well
returns-clause-well g c = (invariant_of-self g c).well
