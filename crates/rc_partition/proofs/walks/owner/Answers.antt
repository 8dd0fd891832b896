use Rattle.std.proofs.Common.{◌≡◌, sym, ◌∙◌, arith}
use Rattle.lsa_kinds.specs.declared.kind.Kind.TheVariants.{RowEntry, Dummy, Static}
use Rattle.lsa_path.specs.laws.Renamed.{some-there}
use Rattle.lsa_region.specs.Region.{body}
use Rattle.rc_partition.specs.laws.Apart.{row-recency}
use Rattle.rc_partition.proofs.Passing.{row-entry, row-static, row-no_version}
use Rattle.rc_partition.proofs.walks.owner.Goals as goal

pub kind-requires : goal.kind-requires
kind-requires g c = (omega arith, some-there _ (body c.args.region.now c.args.r) (row-recency c.args.region.now c.requires.0 c.requires.1 c.args.r c.requires.2))

pub owner_of_entry-requires : goal.owner_of_entry-requires
owner_of_entry-requires g c = (omega arith, (c.requires.0, c.requires.1, row-entry c.args.region.now c.requires.0 c.requires.1 c.args.r c.requires.2 c.kind.result c.kind.ensures (λ e. let clash : RowEntry ≡ Static = sym c.in-RowEntry.is ∙ e in cc)))

pub owner_of_entry-requires-in-Dummy : goal.owner_of_entry-requires-in-Dummy
owner_of_entry-requires-in-Dummy g c = (omega arith, (c.requires.0, c.requires.1, row-entry c.args.region.now c.requires.0 c.requires.1 c.args.r c.requires.2 c.kind.result c.kind.ensures (λ e. let clash : Dummy ≡ Static = sym c.in-Dummy.is ∙ e in cc)))

pub owner_of_static-requires : goal.owner_of_static-requires
owner_of_static-requires g c = (omega arith, (c.requires.0.object, row-static c.args.region.now c.requires.0 c.requires.1 c.args.r c.requires.2 c.kind.result c.kind.ensures c.in-Static.is))

pub unreachable-requires : goal.unreachable-requires
unreachable-requires g c = row-no_version c.args.region.now c.requires.0 c.requires.1 c.args.r c.requires.2 c.kind.result c.kind.ensures c.in-Version.is

pub returns-in-RowEntry : goal.returns-in-RowEntry
returns-in-RowEntry g c = λ s h row. c.owner_of_entry.ensures s h (row-entry c.args.region.now s h c.args.r row c.kind.result c.kind.ensures (λ e. let clash : RowEntry ≡ Static = sym c.in-RowEntry.is ∙ e in cc))

pub returns-in-Dummy : goal.returns-in-Dummy
returns-in-Dummy g c = λ s h row. c.owner_of_entry-in-Dummy.ensures s h (row-entry c.args.region.now s h c.args.r row c.kind.result c.kind.ensures (λ e. let clash : Dummy ≡ Static = sym c.in-Dummy.is ∙ e in cc))

pub returns-in-Static : goal.returns-in-Static
returns-in-Static g c = λ s h row. c.owner_of_static.ensures s.object (row-static c.args.region.now s h c.args.r row c.kind.result c.kind.ensures c.in-Static.is)
