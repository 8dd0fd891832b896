use Rattle.std.proofs.Common.{subst}
use Rattle.lsa_region.specs.Region.{View, HasLayout, IsSummed}
use Rattle.lsa_region.proofs.Layouts.{layout}
use Rattle.lsa_region.proofs.Summed.{summed}
use Rattle.lsa_region.proofs.region.Region.known.Goals as goal

pub returns-clause-layout : goal.returns-clause-layout
returns-clause-layout g c =
    let i = c.self.inside in let v : View = record { cells = i.store.cells; roots = i.roots; usages = i.store.usages; epoch = i.epoch; moved = i.moved; compacted = i.compacted } in subst HasLayout c.self.view_is (layout g.row.S v c.known.ensures c.self.invariant.reserve)

pub returns-clause-summed : goal.returns-clause-summed
returns-clause-summed g c =
    let i = c.self.inside in let v : View = record { cells = i.store.cells; roots = i.roots; usages = i.store.usages; epoch = i.epoch; moved = i.moved; compacted = i.compacted } in subst IsSummed c.self.view_is (summed g.row.S v c.known.ensures)
