use Rattle.std.proofs.Common.{arith, inl, sym, ◌∙◌, subst}
use Rattle.rc_rowcode.specs.Objects.{static_size}
use Rattle.rc_rowcode.specs.Spelling.{row_code}
use Rattle.std.specs.Prelude.{length}
use Rattle.rc_core.specs.Change.{joined_onto}
use Rattle.rc_object.specs.Objects.{HasRoomFor, HoldsStatic, IsMade}
use Rattle.rc_version.specs.laws.Staying.{version-kind}
use Rattle.rc_version.proofs.StaticRows.{row-at-link, statics-unset, version-end}
use Rattle.rc_version.proofs.statics.make_statics_like.Goals as goal

pub link_of-requires : goal.link_of-requires
link_of-requires g c = (omega arith, version-end c.args.region.now c.args.v 3 (version-kind c.args.region.now c.args.v c.requires.1 c.requires.2 c.requires.4.version) (omega arith))

pub make_joined_static-requires : goal.make_joined_static-requires
make_joined_static-requires g c =
    let k = row-at-link c.args.region.now c.args.v c.requires.1 c.requires.2 c.requires.4.version c.in-Some-Obj.field-0 c.in-Some-Obj.s c.in-Some-Obj._field (sym c.link_of.ensures ∙ c.in-Some-Obj.is) c.in-Some-Obj.field-0-is in
    (omega arith, (k.0, c.requires.0, inl k.2, inl c.requires.3, subst (λ r. HasRoomFor g.row.S c.args.region.now (static_size (joined_onto r c.requires.0)) c.args.sc.now.size (length (row_code (joined_onto r c.requires.0)))) k.1 c.requires.4.room))

pub make_static_like-requires : goal.make_static_like-requires
make_static_like-requires g c =
    let none = statics-unset c.args.region.now c.args.v c.requires.2.statics c.requires.4.version.statics (sym c.link_of.ensures ∙ c.in-None.is) in
    (omega arith, (c.requires.0, inl c.requires.3, subst (λ r. HasRoomFor g.row.S c.args.region.now (static_size (joined_onto r c.requires.0)) c.args.sc.now.size (length (row_code (joined_onto r c.requires.0)))) none c.requires.4.room))

pub returns-in-Some-Obj-clause-holds : goal.returns-in-Some-Obj-clause-holds
returns-in-Some-Obj-clause-holds g c = λ row refs d held h.
    let k = row-at-link c.args.region.now c.args.v refs d h c.in-Some-Obj.field-0 c.in-Some-Obj.s c.in-Some-Obj._field (sym c.link_of.ensures ∙ c.in-Some-Obj.is) c.in-Some-Obj.field-0-is in
    subst (λ r. HoldsStatic c.make_joined_static.new.region c.make_joined_static.result (joined_onto r row)) (sym k.1) (c.make_joined_static.ensures.holds k.0 row (inl k.2) (inl held))

pub returns-in-Some-Obj-clause-made : goal.returns-in-Some-Obj-clause-made
returns-in-Some-Obj-clause-made g c = λ row refs d held h.
    let k = row-at-link c.args.region.now c.args.v refs d h c.in-Some-Obj.field-0 c.in-Some-Obj.s c.in-Some-Obj._field (sym c.link_of.ensures ∙ c.in-Some-Obj.is) c.in-Some-Obj.field-0-is in
    subst (λ r. IsMade g.row.S c.args.region.now c.make_joined_static.new.region c.make_joined_static.result (static_size (joined_onto r row))) (sym k.1) (c.make_joined_static.ensures.made k.0 row (inl k.2) (inl held))

pub returns-in-None-clause-holds : goal.returns-in-None-clause-holds
returns-in-None-clause-holds g c = λ row refs d held h.
    let none = statics-unset c.args.region.now c.args.v d.statics h.statics (sym c.link_of.ensures ∙ c.in-None.is) in
    subst (λ r. HoldsStatic c.make_static_like.new.region c.make_static_like.result (joined_onto r row)) (sym none) (c.make_static_like.ensures.holds row (inl held))

pub returns-in-None-clause-made : goal.returns-in-None-clause-made
returns-in-None-clause-made g c = λ row refs d held h.
    let none = statics-unset c.args.region.now c.args.v d.statics h.statics (sym c.link_of.ensures ∙ c.in-None.is) in
    subst (λ r. IsMade g.row.S c.args.region.now c.make_static_like.new.region c.make_static_like.result (static_size (joined_onto r row))) (sym none) (c.make_static_like.ensures.made row (inl held))
