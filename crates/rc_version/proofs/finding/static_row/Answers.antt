use Rattle.std.proofs.Common.{arith, sym, ◌∙◌}
use Rattle.rc_version.specs.laws.Staying.{version-kind}
use Rattle.rc_version.proofs.Asked.{never-slot, none-named, row-named}
use Rattle.rc_version.proofs.StaticRows.{row-at-link, statics-unset, version-end}
use Rattle.rc_version.proofs.finding.static_row.Goals as goal

pub link_of-requires : goal.link_of-requires
link_of-requires g c = (omega arith, version-end c.args.region.now c.args.v 3 (version-kind c.args.region.now c.args.v c.requires.0 c.requires.1 c.requires.2) (omega arith))

pub unreachable-requires : goal.unreachable-requires
unreachable-requires g c = never-slot c.args.region.now c.args.v c.requires.0 c.requires.1 c.requires.2 c.in-Some-Slot.field-0 (sym c.link_of.ensures ∙ c.in-Some-Slot.is) c.in-Some-Slot._root c.in-Some-Slot.field-0-is

pub returns-in-Some-Obj-clause-named : goal.returns-in-Some-Obj-clause-named
returns-in-Some-Obj-clause-named g c = λ q. row-named c.args.region.now c.args.v c.requires.0 c.requires.1 c.requires.2 c.in-Some-Obj.field-0 (sym c.link_of.ensures ∙ c.in-Some-Obj.is) c.in-Some-Obj.s c.in-Some-Obj._field c.in-Some-Obj.field-0-is q

pub returns-in-Some-Obj-clause-held : goal.returns-in-Some-Obj-clause-held
returns-in-Some-Obj-clause-held g c = λ refs d h. row-at-link c.args.region.now c.args.v refs d h c.in-Some-Obj.field-0 c.in-Some-Obj.s c.in-Some-Obj._field (sym c.link_of.ensures ∙ c.in-Some-Obj.is) c.in-Some-Obj.field-0-is

pub returns-in-None-clause-named : goal.returns-in-None-clause-named
returns-in-None-clause-named g c = λ q. none-named c.args.region.now c.args.v q (sym c.link_of.ensures ∙ c.in-None.is)

pub returns-in-None-clause-held : goal.returns-in-None-clause-held
returns-in-None-clause-held g c = λ refs d h. statics-unset c.args.region.now c.args.v d.statics h.statics (sym c.link_of.ensures ∙ c.in-None.is)
