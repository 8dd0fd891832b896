use Rattle.std.proofs.Common.{◌≡◌, subst}
use Rattle.std.specs.Prelude.{IsSomeAnd}
use Rattle.lsa_region.specs.Region.{body}
use Rattle.rc_version_walk.proofs.Entries.{row-there}
use Rattle.rc_version_walk.proofs.calls.has_row.Goals as goal

pub returns-in-RowEntry : goal.returns-in-RowEntry
returns-in-RowEntry c = λ _.
    let y = c.requires in let row = row-there c.args.region.now c.args.e y.0 y.1 (subst (λ k. IsSomeAnd (body c.args.region.now c.args.e) (λ b. b.0 ≡ k)) c.in-RowEntry.is c.kind.ensures) in
    (y.0, row.0, y.1, row.1)
