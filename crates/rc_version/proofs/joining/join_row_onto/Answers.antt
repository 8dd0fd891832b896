use Rattle.std.proofs.Common.{arith, sym, subst}
use Rattle.std.specs.Prelude.{Contains}
use Rattle.lsa_path.specs.laws.Members.{member-here}
use Rattle.rc_position.specs.Position.{row_pos}
use Rattle.rc_version.proofs.Joins.{key-before_end, onto-join, onto-room, onto-there, onto-unset, swap-asks}
use Rattle.rc_version.proofs.joining.join_row_onto.Goals as goal

pub make_joined-r-requires : goal.make_joined-r-requires
make_joined-r-requires g c =
    let k = onto-room g.row.S c.args.region.now c.args.v c.args.old (row_pos c.args._key.now) c.requires.row.0 c.args.sc.now.size c.requires.row.1 c.requires.row.2 c.requires.row.4 (c.requires.found c.requires.row.1 c.requires.row.2 c.requires.row.4.version) in
    (omega arith, (k.0, c.requires.row.0, k.1, c.requires.row.3, k.2))

pub replace-requires : goal.replace-requires
replace-requires g c = (omega arith, swap-asks g.row.S c.args.region.now c.make_joined-r.new.region c.args.v c.args.old c.make_joined-r.result (row_pos c.args._key.now) c.requires.row.0 (λ e h. c.make_joined-r.ensures.made e c.requires.row.0 h c.requires.row.3) (λ e h. c.make_joined-r.ensures.holds e c.requires.row.0 h c.requires.row.3) c.requires.found c.requires.row.1 c.requires.row.2 c.requires.row.4.version)

pub free_obj-requires : goal.free_obj-requires
free_obj-requires g c = (
  omega arith,
  (
    onto-there g.row.S c.args.region.now c.make_joined-r.new.region c.replace.new.region c.replace.new.region c.args.v c.args.old c.make_joined-r.result (row_pos c.args._key.now) c.requires.row.0 (λ e h. c.make_joined-r.ensures.made e c.requires.row.0 h c.requires.row.3) (λ e h. c.make_joined-r.ensures.holds e c.requires.row.0 h c.requires.row.3) (key-before_end c.args._key.now) c.known.ensures.well c.make_joined-r.ensures.well c.replace.ensures.well (c.requires.row.4.unlisted c.args.old (subst (λ l. Contains l c.args.old) (sym (c.requires.found c.requires.row.1 c.requires.row.2 c.requires.row.4.version).2) (member-here (c.requires.found c.requires.row.1 c.requires.row.2 c.requires.row.4.version).0 (c.requires.found c.requires.row.1 c.requires.row.2 c.requires.row.4.version).1 c.args.old)) (c.requires.found c.requires.row.1 c.requires.row.2 c.requires.row.4.version).3) c.requires.found
        c.replace.ensures.replaced c.replace.ensures.others c.replace.ensures.elsewhere c.replace.ensures.objects c.replace.ensures.out c.requires.row.1 c.requires.row.2 c.requires.row.4.version,
    onto-unset g.row.S c.args.region.now c.make_joined-r.new.region c.replace.new.region c.replace.new.region c.args.v c.args.old c.make_joined-r.result (row_pos c.args._key.now) c.requires.row.0 (λ e h. c.make_joined-r.ensures.made e c.requires.row.0 h c.requires.row.3) (λ e h. c.make_joined-r.ensures.holds e c.requires.row.0 h c.requires.row.3) (key-before_end c.args._key.now) c.known.ensures.well c.make_joined-r.ensures.well c.replace.ensures.well (c.requires.row.4.unlisted c.args.old (subst (λ l. Contains l c.args.old) (sym (c.requires.found c.requires.row.1 c.requires.row.2 c.requires.row.4.version).2) (member-here (c.requires.found c.requires.row.1 c.requires.row.2 c.requires.row.4.version).0 (c.requires.found c.requires.row.1 c.requires.row.2 c.requires.row.4.version).1 c.args.old)) (c.requires.found c.requires.row.1 c.requires.row.2 c.requires.row.4.version).3) c.requires.found
        c.replace.ensures.replaced c.replace.ensures.others c.replace.ensures.elsewhere c.replace.ensures.objects c.replace.ensures.out c.requires.row.1 c.requires.row.2 c.requires.row.4.version,
  ),
)

pub returns-clause-joined : goal.returns-clause-joined
returns-clause-joined g c = λ row code.
    onto-join g.row.S c.args.region.now c.make_joined-r.new.region c.replace.new.region c.free_obj.new.self c.args.v c.args.old c.make_joined-r.result (row_pos c.args._key.now) row (λ e h. c.make_joined-r.ensures.made e row h code) (λ e h. c.make_joined-r.ensures.holds e row h code) (key-before_end c.args._key.now) c.known.ensures.well c.make_joined-r.ensures.well c.replace.ensures.well (c.requires.row.4.unlisted c.args.old (subst (λ l. Contains l c.args.old) (sym (c.requires.found c.requires.row.1 c.requires.row.2 c.requires.row.4.version).2) (member-here (c.requires.found c.requires.row.1 c.requires.row.2 c.requires.row.4.version).0 (c.requires.found c.requires.row.1 c.requires.row.2 c.requires.row.4.version).1 c.args.old)) (c.requires.found c.requires.row.1 c.requires.row.2 c.requires.row.4.version).3) c.requires.found
    c.replace.ensures.replaced c.replace.ensures.others c.replace.ensures.elsewhere c.replace.ensures.objects c.replace.ensures.out c.requires.row.1 c.requires.row.2 c.requires.row.4.version c.free_obj.ensures.freed c.free_obj.ensures.budget c.free_obj.ensures.moved c.free_obj.ensures.compacted c.free_obj.ensures.epoch c.free_obj.ensures.spare c.free_obj.ensures.live
