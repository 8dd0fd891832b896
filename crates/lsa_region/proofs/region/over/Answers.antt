use Rattle.lsa_region.specs.Region.{View}
use Rattle.lsa_region.proofs.Regions.{region-open, none-open, bodies-open}
use Rattle.lsa_region.proofs.region.over.Goals as goal

pub invariant_of-result : goal.invariant_of-result
invariant_of-result g c =
    let v : View = record { cells = c.args.store.cells; roots = c.args.roots; usages = c.args.store.usages; epoch = 0; moved = 0; compacted = 0 } in region-open v c.requires.cells c.requires.roots c.requires.reserve

pub returns-clause-bodies : goal.returns-clause-bodies
returns-clause-bodies g c =
    let v : View = record { cells = c.args.store.cells; roots = c.args.roots; usages = c.args.store.usages; epoch = 0; moved = 0; compacted = 0 } in bodies-open v c.requires.cells

pub returns-clause-unset : goal.returns-clause-unset
returns-clause-unset g c =
    let v : View = record { cells = c.args.store.cells; roots = c.args.roots; usages = c.args.store.usages; epoch = 0; moved = 0; compacted = 0 } in none-open v c.requires.cells c.requires.roots

pub returns-clause-well : goal.returns-clause-well
returns-clause-well g c = (invariant_of-result g c).well
