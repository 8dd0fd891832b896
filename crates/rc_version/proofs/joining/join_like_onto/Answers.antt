use Rattle.std.proofs.Common.{arith, inr, sym, subst}
use Rattle.std.specs.Prelude.{Contains}
use Rattle.lsa_path.specs.laws.Members.{member-here}
use Rattle.rc_position.specs.Position.{IsBefore}
use Rattle.rc_core.specs.declared.entries.Entry.{Entry}
use Rattle.rc_core.specs.Version.{end_position}
use Rattle.rc_version.specs.laws.Objects.{entry-once}
use Rattle.rc_version.proofs.Joins.{onto-join, onto-room, onto-there, onto-unset, swap-asks}
use Rattle.rc_version.proofs.joining.join_like_onto.Goals as goal

pub make_joined_like-r-requires : goal.make_joined_like-r-requires
make_joined_like-r-requires g c =
    let k = onto-room g.row.S c.args.region.now c.args.v c.args.there c.requires.row.0.position c.requires.row.1 c.args.sc.now.size c.requires.row.2 c.requires.row.3 c.requires.row.7 (c.requires.found c.requires.row.2 c.requires.row.3 c.requires.row.0 c.requires.row.7.version c.requires.row.4) in
    (omega arith, (k.0, c.requires.row.1, k.1, inr (c.requires.row.0, c.requires.row.4, c.requires.row.5), k.2))

pub replace-requires : goal.replace-requires
replace-requires g c = (omega arith, swap-asks g.row.S c.args.region.now c.make_joined_like-r.new.region c.args.v c.args.there c.make_joined_like-r.result c.requires.row.0.position c.requires.row.1 (λ k h. c.make_joined_like-r.ensures.made k c.requires.row.1 h (inr (c.requires.row.0, c.requires.row.4, c.requires.row.5))) (λ k h. c.make_joined_like-r.ensures.holds k c.requires.row.1 h (inr (c.requires.row.0, c.requires.row.4, c.requires.row.5))) (λ refs v h. c.requires.found refs v c.requires.row.0 h c.requires.row.4) c.requires.row.2 c.requires.row.3 c.requires.row.7.version)

pub free_obj-requires : goal.free_obj-requires
free_obj-requires g c = (
  omega arith,
  (
    onto-there g.row.S c.args.region.now c.make_joined_like-r.new.region c.replace.new.region c.replace.new.region c.args.v c.args.there c.make_joined_like-r.result c.requires.row.0.position c.requires.row.1 (λ k h. c.make_joined_like-r.ensures.made k c.requires.row.1 h (inr (c.requires.row.0, c.requires.row.4, c.requires.row.5))) (λ k h. c.make_joined_like-r.ensures.holds k c.requires.row.1 h (inr (c.requires.row.0, c.requires.row.4, c.requires.row.5))) c.requires.row.6 c.known.ensures.well c.make_joined_like-r.ensures.well c.replace.ensures.well (c.requires.row.7.unlisted c.args.there (subst (λ l. Contains l c.args.there) (sym (c.requires.found c.requires.row.2 c.requires.row.3 c.requires.row.0 c.requires.row.7.version c.requires.row.4).2) (member-here (c.requires.found c.requires.row.2 c.requires.row.3 c.requires.row.0 c.requires.row.7.version c.requires.row.4).0 (c.requires.found c.requires.row.2 c.requires.row.3 c.requires.row.0 c.requires.row.7.version c.requires.row.4).1 c.args.there)) (c.requires.found c.requires.row.2 c.requires.row.3 c.requires.row.0 c.requires.row.7.version c.requires.row.4).3)
        (λ refs v h. c.requires.found refs v c.requires.row.0 h c.requires.row.4) c.replace.ensures.replaced c.replace.ensures.others c.replace.ensures.elsewhere c.replace.ensures.objects c.replace.ensures.out c.requires.row.2 c.requires.row.3 c.requires.row.7.version,
    onto-unset g.row.S c.args.region.now c.make_joined_like-r.new.region c.replace.new.region c.replace.new.region c.args.v c.args.there c.make_joined_like-r.result c.requires.row.0.position c.requires.row.1 (λ k h. c.make_joined_like-r.ensures.made k c.requires.row.1 h (inr (c.requires.row.0, c.requires.row.4, c.requires.row.5))) (λ k h. c.make_joined_like-r.ensures.holds k c.requires.row.1 h (inr (c.requires.row.0, c.requires.row.4, c.requires.row.5))) c.requires.row.6 c.known.ensures.well c.make_joined_like-r.ensures.well c.replace.ensures.well (c.requires.row.7.unlisted c.args.there (subst (λ l. Contains l c.args.there) (sym (c.requires.found c.requires.row.2 c.requires.row.3 c.requires.row.0 c.requires.row.7.version c.requires.row.4).2) (member-here (c.requires.found c.requires.row.2 c.requires.row.3 c.requires.row.0 c.requires.row.7.version c.requires.row.4).0 (c.requires.found c.requires.row.2 c.requires.row.3 c.requires.row.0 c.requires.row.7.version c.requires.row.4).1 c.args.there)) (c.requires.found c.requires.row.2 c.requires.row.3 c.requires.row.0 c.requires.row.7.version c.requires.row.4).3)
        (λ refs v h. c.requires.found refs v c.requires.row.0 h c.requires.row.4) c.replace.ensures.replaced c.replace.ensures.others c.replace.ensures.elsewhere c.replace.ensures.objects c.replace.ensures.out c.requires.row.2 c.requires.row.3 c.requires.row.7.version,
  ),
)

pub returns-clause-joined : goal.returns-clause-joined
returns-clause-joined g c = λ y row hold is.
    onto-join g.row.S c.args.region.now c.make_joined_like-r.new.region c.replace.new.region c.free_obj.new.self c.args.v c.args.there c.make_joined_like-r.result y.position row (λ k h. c.make_joined_like-r.ensures.made k row h (inr (y, hold, is))) (λ k h. c.make_joined_like-r.ensures.holds k row h (inr (y, hold, is))) (subst (λ (z : Entry). IsBefore z.position end_position) (entry-once c.args.region.now c.args.e c.requires.row.0 y c.requires.row.4 hold) c.requires.row.6) c.known.ensures.well c.make_joined_like-r.ensures.well c.replace.ensures.well (c.requires.row.7.unlisted c.args.there (subst (λ l. Contains l c.args.there) (sym (c.requires.found c.requires.row.2 c.requires.row.3 c.requires.row.0 c.requires.row.7.version c.requires.row.4).2) (member-here (c.requires.found c.requires.row.2 c.requires.row.3 c.requires.row.0 c.requires.row.7.version c.requires.row.4).0 (c.requires.found c.requires.row.2 c.requires.row.3 c.requires.row.0 c.requires.row.7.version c.requires.row.4).1 c.args.there)) (c.requires.found c.requires.row.2 c.requires.row.3 c.requires.row.0 c.requires.row.7.version c.requires.row.4).3)
    (λ refs v h. c.requires.found refs v y h hold) c.replace.ensures.replaced c.replace.ensures.others c.replace.ensures.elsewhere c.replace.ensures.objects c.replace.ensures.out c.requires.row.2 c.requires.row.3 c.requires.row.7.version c.free_obj.ensures.freed c.free_obj.ensures.budget c.free_obj.ensures.moved c.free_obj.ensures.compacted c.free_obj.ensures.epoch c.free_obj.ensures.spare c.free_obj.ensures.live
