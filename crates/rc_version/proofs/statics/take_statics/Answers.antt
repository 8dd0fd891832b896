use Rattle.std.proofs.Common.{arith, sym, ap, ◌∙◌, subst}
use Rattle.lsa_pool.specs.Room.{spare_of}
use Rattle.lsa_region.specs.declared.end.End.TheVariants.{Obj}
use Rattle.lsa_region.specs.Paired.{IsParted}
use Rattle.lsa_region.specs.Region.{link_of}
use Rattle.rc_version.specs.laws.Staying.{version-kind}
use Rattle.rc_version.proofs.StaticRows.{named-row, none-version, none-weighed, take-gone, take-none, take-kept, take-links, take-live, take-there, take-unset, take-version, version-end}
use Rattle.rc_version.proofs.statics.take_statics.Goals as goal

pub link_of-requires : goal.link_of-requires
link_of-requires g c = (omega arith, version-end c.args.region.now c.args.v 3 (version-kind c.args.region.now c.args.v c.requires.version.0 c.requires.version.1 c.requires.version.2) (omega arith))

pub free_obj-requires : goal.free_obj-requires
free_obj-requires g c =
    let k = named-row c.args.region.now c.args.v c.requires.version.0 c.requires.version.1 c.requires.version.2 c.unlink.result c.in-Some-Obj.field-0 c.in-Some-Obj.s c.in-Some-Obj._field (sym c.link_of.ensures ∙ c.in-Some-Obj.is) c.in-Some-Obj.field-0-is c.unlink.ensures.mate in
    let parted = subst (λ e. IsParted (link_of c.args.region.now) (link_of c.unlink.new.self) (Obj c.args.v 3) e) k.is c.unlink.ensures.parted in
    (omega arith, (take-there g.row.S c.args.region.now c.unlink.new.self c.args.v c.in-Some-Obj.s k.row c.requires.version.0 c.requires.version.1 c.requires.version.2 k.link k.held parted c.unlink.ensures.objects c.unlink.ensures.well (c.requires.unlisted c.in-Some-Obj.s k.link), take-unset g.row.S c.args.region.now c.unlink.new.self c.args.v c.in-Some-Obj.s k.row c.requires.version.0 c.requires.version.1 c.requires.version.2 k.link k.held parted c.unlink.ensures.objects c.unlink.ensures.well (c.requires.unlisted c.in-Some-Obj.s k.link)))

pub returns-in-Some-Obj-clause-taken : goal.returns-in-Some-Obj-clause-taken
returns-in-Some-Obj-clause-taken g c =
    let k = named-row c.args.region.now c.args.v c.requires.version.0 c.requires.version.1 c.requires.version.2 c.unlink.result c.in-Some-Obj.field-0 c.in-Some-Obj.s c.in-Some-Obj._field (sym c.link_of.ensures ∙ c.in-Some-Obj.is) c.in-Some-Obj.field-0-is c.unlink.ensures.mate in
    let parted = subst (λ e. IsParted (link_of c.args.region.now) (link_of c.unlink.new.self) (Obj c.args.v 3) e) k.is c.unlink.ensures.parted in
    take-version g.row.S c.args.region.now c.unlink.new.self c.args.v c.in-Some-Obj.s k.row c.requires.version.0 c.requires.version.1 c.requires.version.2 k.link k.held parted c.unlink.ensures.objects c.unlink.ensures.well (c.requires.unlisted c.in-Some-Obj.s k.link) c.free_obj.new.self c.free_obj.ensures.freed c.free_obj.ensures.budget c.free_obj.ensures.moved c.free_obj.ensures.compacted c.free_obj.ensures.epoch

pub returns-in-Some-Obj-clause-links : goal.returns-in-Some-Obj-clause-links
returns-in-Some-Obj-clause-links g c =
    let k = named-row c.args.region.now c.args.v c.requires.version.0 c.requires.version.1 c.requires.version.2 c.unlink.result c.in-Some-Obj.field-0 c.in-Some-Obj.s c.in-Some-Obj._field (sym c.link_of.ensures ∙ c.in-Some-Obj.is) c.in-Some-Obj.field-0-is c.unlink.ensures.mate in
    let parted = subst (λ e. IsParted (link_of c.args.region.now) (link_of c.unlink.new.self) (Obj c.args.v 3) e) k.is c.unlink.ensures.parted in
    take-links g.row.S c.args.region.now c.unlink.new.self c.args.v c.in-Some-Obj.s k.row c.requires.version.0 c.requires.version.1 c.requires.version.2 k.link k.held parted c.unlink.ensures.objects c.unlink.ensures.well (c.requires.unlisted c.in-Some-Obj.s k.link) c.free_obj.new.self c.free_obj.ensures.freed c.free_obj.ensures.budget c.free_obj.ensures.moved c.free_obj.ensures.compacted c.free_obj.ensures.epoch

pub returns-in-Some-Obj-clause-gone : goal.returns-in-Some-Obj-clause-gone
returns-in-Some-Obj-clause-gone g c =
    let k = named-row c.args.region.now c.args.v c.requires.version.0 c.requires.version.1 c.requires.version.2 c.unlink.result c.in-Some-Obj.field-0 c.in-Some-Obj.s c.in-Some-Obj._field (sym c.link_of.ensures ∙ c.in-Some-Obj.is) c.in-Some-Obj.field-0-is c.unlink.ensures.mate in
    let parted = subst (λ e. IsParted (link_of c.args.region.now) (link_of c.unlink.new.self) (Obj c.args.v 3) e) k.is c.unlink.ensures.parted in
    take-gone g.row.S c.args.region.now c.unlink.new.self c.args.v c.in-Some-Obj.s k.row c.requires.version.0 c.requires.version.1 c.requires.version.2 k.link k.held parted c.unlink.ensures.objects c.unlink.ensures.well (c.requires.unlisted c.in-Some-Obj.s k.link) c.free_obj.new.self c.free_obj.ensures.freed c.free_obj.ensures.budget c.free_obj.ensures.moved c.free_obj.ensures.compacted c.free_obj.ensures.epoch

pub returns-in-Some-Obj-clause-kept : goal.returns-in-Some-Obj-clause-kept
returns-in-Some-Obj-clause-kept g c =
    let k = named-row c.args.region.now c.args.v c.requires.version.0 c.requires.version.1 c.requires.version.2 c.unlink.result c.in-Some-Obj.field-0 c.in-Some-Obj.s c.in-Some-Obj._field (sym c.link_of.ensures ∙ c.in-Some-Obj.is) c.in-Some-Obj.field-0-is c.unlink.ensures.mate in
    let parted = subst (λ e. IsParted (link_of c.args.region.now) (link_of c.unlink.new.self) (Obj c.args.v 3) e) k.is c.unlink.ensures.parted in
    take-kept g.row.S c.args.region.now c.unlink.new.self c.args.v c.in-Some-Obj.s k.row c.requires.version.0 c.requires.version.1 c.requires.version.2 k.link k.held parted c.unlink.ensures.objects c.unlink.ensures.well (c.requires.unlisted c.in-Some-Obj.s k.link) c.free_obj.new.self c.free_obj.ensures.freed c.free_obj.ensures.budget c.free_obj.ensures.moved c.free_obj.ensures.compacted c.free_obj.ensures.epoch

pub returns-in-Some-Obj-clause-spare : goal.returns-in-Some-Obj-clause-spare
returns-in-Some-Obj-clause-spare g c = c.free_obj.ensures.spare ∙ ap (spare_of g.row.S) c.unlink.ensures.objects.usages

pub returns-in-Some-Obj-clause-live : goal.returns-in-Some-Obj-clause-live
returns-in-Some-Obj-clause-live g c = λ rs d h.
    let k = named-row c.args.region.now c.args.v c.requires.version.0 c.requires.version.1 c.requires.version.2 c.unlink.result c.in-Some-Obj.field-0 c.in-Some-Obj.s c.in-Some-Obj._field (sym c.link_of.ensures ∙ c.in-Some-Obj.is) c.in-Some-Obj.field-0-is c.unlink.ensures.mate in
    let parted = subst (λ e. IsParted (link_of c.args.region.now) (link_of c.unlink.new.self) (Obj c.args.v 3) e) k.is c.unlink.ensures.parted in
    take-live g.row.S c.args.region.now c.unlink.new.self c.args.v c.in-Some-Obj.s k.row c.requires.version.0 c.requires.version.1 c.requires.version.2 k.link k.held parted c.unlink.ensures.objects c.unlink.ensures.well (c.requires.unlisted c.in-Some-Obj.s k.link) c.free_obj.new.self c.free_obj.ensures.freed c.free_obj.ensures.budget c.free_obj.ensures.moved c.free_obj.ensures.compacted c.free_obj.ensures.epoch rs d h c.free_obj.ensures.live

pub returns-in-None-clause-taken : goal.returns-in-None-clause-taken
returns-in-None-clause-taken g c = λ rs d h. none-version c.args.region.now c.args.v rs d (sym c.link_of.ensures ∙ c.in-None.is) h

pub returns-in-None-clause-live : goal.returns-in-None-clause-live
returns-in-None-clause-live g c = λ rs d h. none-weighed c.args.region.now c.args.v rs d (sym c.link_of.ensures ∙ c.in-None.is) h

pub returns-in-Some-Obj-clause-none : goal.returns-in-Some-Obj-clause-none
returns-in-Some-Obj-clause-none g c =
    let k = named-row c.args.region.now c.args.v c.requires.version.0 c.requires.version.1 c.requires.version.2 c.unlink.result c.in-Some-Obj.field-0 c.in-Some-Obj.s c.in-Some-Obj._field (sym c.link_of.ensures ∙ c.in-Some-Obj.is) c.in-Some-Obj.field-0-is c.unlink.ensures.mate in
    let parted = subst (λ e. IsParted (link_of c.args.region.now) (link_of c.unlink.new.self) (Obj c.args.v 3) e) k.is c.unlink.ensures.parted in
    take-none g.row.S c.args.region.now c.unlink.new.self c.args.v c.in-Some-Obj.s k.row c.requires.version.0 c.requires.version.1 c.requires.version.2 k.link k.held parted c.unlink.ensures.objects c.unlink.ensures.well (c.requires.unlisted c.in-Some-Obj.s k.link) c.free_obj.new.self c.free_obj.ensures.freed c.free_obj.ensures.budget c.free_obj.ensures.moved c.free_obj.ensures.compacted c.free_obj.ensures.epoch
