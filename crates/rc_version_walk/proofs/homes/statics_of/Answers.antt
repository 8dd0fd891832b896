use Rattle.std.proofs.Common.{arith, sym, ◌∙◌}
use Rattle.rc_version_walk.proofs.Entries.{static-there}
use Rattle.rc_version_walk.proofs.Pairs.{version-end}
use Rattle.rc_version_walk.proofs.homes.statics_of.Goals as goal

pub link_of-requires : goal.link_of-requires
link_of-requires c = (omega arith, version-end c.args.region.now c.args.v c.requires 3 (omega arith))

pub returns-in-Some-Obj : goal.returns-in-Some-Obj
returns-in-Some-Obj c =
    let v = c.requires in let k = static-there c.args.region.now c.args.v c.in-Some-Obj.s c.in-Some-Obj._field v.1.statics v.2.statics c.in-Some-Obj.field-0 (sym c.link_of.ensures ∙ c.in-Some-Obj.is) c.in-Some-Obj.field-0-is in
    (k.0, k.2)
