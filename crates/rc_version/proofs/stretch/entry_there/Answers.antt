use Rattle.std.proofs.Common.{arith, subst}
use Rattle.rc_version.specs.Versions.{IsEntryFound}
use Rattle.rc_version.proofs.stretch.entry_there.Goals as goal

pub entry_at-requires : goal.entry_at-requires
entry_at-requires g c = (omega arith, (c.requires.0, c.requires.1, c.requires.2))

pub unreachable-requires : goal.unreachable-requires
unreachable-requires g c = (subst (IsEntryFound c.args.region.now c.requires.0 c.requires.1 c.args.x.now) c.in-None.is (c.entry_at.ensures c.requires.0 c.requires.1 c.requires.2)).1 c.requires.3

pub returns : goal.returns
returns g c = λ refs d h. let f = subst (IsEntryFound c.args.region.now refs d c.args.x.now) c.in-Some.is (c.entry_at.ensures refs d h) in (f.0, f.1)
