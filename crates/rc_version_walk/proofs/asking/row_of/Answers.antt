use Rattle.std.proofs.Common.{◌≡◌, arith, inr, subst}
use Rattle.std.specs.Prelude.{IsSomeAnd}
use Rattle.lsa_region.specs.Region.{body}
use Rattle.rc_version_walk.proofs.Entries.{row-there}
use Rattle.rc_version_walk.proofs.asking.row_of.Goals as goal

pub row_code-requires : goal.row_code-requires
row_code-requires c =
    let y = c.requires in let row = row-there c.args.region.now c.args.e y.0 y.1 (subst (λ k. IsSomeAnd (body c.args.region.now c.args.e) (λ b. b.0 ≡ k)) c.in-RowEntry.is c.kind.ensures) in
    (omega arith, (row.0, inr (y.0, y.1, row.1)))
