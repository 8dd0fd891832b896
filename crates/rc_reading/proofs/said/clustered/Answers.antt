use Rattle.std.proofs.Common.{arith, sym, ap, ◌∙◌, subst}
use Rattle.lsa_tree.specs.Search.{IsFound}
use Rattle.rc_core.specs.laws.Spots.{position-reached}
use Rattle.rc_core.specs.Slow.{spot_at}
use Rattle.rc_core.specs.Version.{finding_in}
use Rattle.rc_partition.specs.Holding.{each-earlier, never-all}
use Rattle.rc_reading.specs.calls.Reading.{IsFindingRead}
use Rattle.rc_reading.proofs.Findings.{found-gap, found-on}
use Rattle.rc_reading.proofs.said.clustered.Goals as goal

pub at_entry-requires : goal.at_entry-requires
at_entry-requires g c = let w = found-on c.args.region.now c.args.v c.requires.0 c.requires.1 c.requires.2 c.args.x.now c.in-Here-On.e (c.in-Here-On.ensures c.requires.0 c.requires.2.tree) in (omega arith, (w.0, w.1))

pub before_entry-requires : goal.before_entry-requires
before_entry-requires g c = let w = found-gap c.args.region.now c.args.v c.requires.0 c.requires.1 c.requires.2 c.args.x.now c.args.side c.in-Before-default.next (c.in-Before-default.ensures c.requires.0 c.requires.2.tree) in (omega arith, (w.0, w.1))

pub unreachable-requires : goal.unreachable-requires
unreachable-requires g c =
    let fits = subst (IsFound c.args.region.now c.requires.0 c.args.x.now) c.in-Last-default.is-0 (c.locate.ensures c.requires.0 c.requires.2.tree) in
    never-all c.args.x.now c.requires.1.entries (each-earlier c.args.region.now c.args.x.now c.requires.0 c.requires.1.entries c.requires.2.entries fits.before) (position-reached c.args.x.now c.requires.1.entries c.requires.2.version.ends)

pub returns-in-Here-On : goal.returns-in-Here-On
returns-in-Here-On g c = λ refs d h.
    let w = found-on c.args.region.now c.args.v refs d h c.args.x.now c.in-Here-On.e (c.in-Here-On.ensures refs h.tree) in
    subst (IsFindingRead c.args.region.now c.at_entry.result) (sym (ap (λ which. finding_in (spot_at which c.args.x.now) d.entries) c.in-Here-On.is-1 ∙ w.2)) (c.at_entry.ensures w.0 w.1)

pub returns-in-Before-default : goal.returns-in-Before-default
returns-in-Before-default g c = λ refs d h.
    let w = found-gap c.args.region.now c.args.v refs d h c.args.x.now c.args.side c.in-Before-default.next (c.in-Before-default.ensures refs h.tree) in
    subst (IsFindingRead c.args.region.now c.before_entry.result) (sym w.2) (c.before_entry.ensures w.0 w.1)
