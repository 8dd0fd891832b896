use Rattle.std.proofs.Common.{◌∷◌, Some, arith, subst}
use Rattle.rc_position.specs.Position.{IsBefore}
use Rattle.lsa_tree.specs.Tree.{IsTree}
use Rattle.rc_core.specs.declared.entries.Entry.{Entry}
use Rattle.rc_core.specs.Version.{end_position}
use Rattle.rc_object.specs.Objects.{HoldsEntry, entry_of}
use Rattle.rc_version.specs.Versions.{bytes_at, tree_of}
use Rattle.rc_version.specs.laws.Objects.{entry-once}
use Rattle.rc_version.proofs.Gaps.{entry-of}
use Rattle.rc_version.proofs.Joins.{gap-join, gap-room}
use Rattle.rc_version.proofs.Putting.{put-loose, put-belongs}
use Rattle.rc_version.proofs.joining.join_like_before.Goals as goal

pub marks-requires : goal.marks-requires
marks-requires g c =
    let f = (c.requires.found c.requires.row.2 c.requires.row.3 c.requires.row.0 c.requires.row.7.version c.requires.row.4) in
    let w = entry-of c.args.region.now c.args.v c.requires.row.2 c.requires.row.3 c.requires.row.7.version f.0 c.args.next f.1 f.2 in (omega arith, (w.here, w.holds))

pub make_row_like-r-requires : goal.make_row_like-r-requires
make_row_like-r-requires g c = (omega arith, (c.requires.row.0, c.requires.row.1, c.requires.row.4, c.requires.row.5, gap-room g.row.S c.args.region.now c.args.v c.args.next c.requires.row.0.position c.requires.row.1 c.args.sc.now.size c.requires.row.2 c.requires.row.3 c.requires.row.7 (c.requires.found c.requires.row.2 c.requires.row.3 c.requires.row.0 c.requires.row.7.version c.requires.row.4)))

pub insert-requires : goal.insert-requires
insert-requires g c =
    let f = (c.requires.found c.requires.row.2 c.requires.row.3 c.requires.row.0 c.requires.row.7.version c.requires.row.4) in let k = c.make_row_like-r.ensures in let m = c.marks.result.1 in
    let mid = c.make_row_like-r.new.region in let x = c.requires.row.0.position in let e = entry_of x (Some c.requires.row.1) m m in
    let made = k.made c.requires.row.0 c.requires.row.1 c.requires.row.4 c.requires.row.5 in let held = subst (λ row. HoldsEntry mid c.make_row_like-r.result (entry_of x row m m)) c.requires.row.5 (k.holds c.requires.row.0 c.requires.row.4) in (
      omega arith,
      (
        put-loose g.row.S c.args.region.now mid c.args.v c.make_row_like-r.result (bytes_at x (Some c.requires.row.1)) e made held,
        put-belongs g.row.S c.args.region.now mid c.args.v c.make_row_like-r.result (bytes_at x (Some c.requires.row.1)) e made held f.0 (c.args.next ∷ f.1) (subst (IsTree (tree_of c.args.v) c.args.region.now) f.2 c.requires.row.7.version.tree) f.3,
      ),
    )

pub returns-clause-joined : goal.returns-clause-joined
returns-clause-joined g c = λ y row hold is.
    let k = c.make_row_like-r.ensures in let i = c.insert.ensures in let m = c.marks.result.1 in let mid = c.make_row_like-r.new.region in
    gap-join g.row.S c.args.region.now mid c.insert.new.region c.args.v c.make_row_like-r.result c.args.next y.position row m (k.made y row hold is)
    (subst (λ row. HoldsEntry mid c.make_row_like-r.result (entry_of y.position row m m)) is (k.holds y hold))
    (subst (λ (z : Entry). IsBefore z.position end_position) (entry-once c.args.region.now c.args.e c.requires.row.0 y c.requires.row.4 hold) c.requires.row.6) c.known.ensures.well k.well (λ e held. (c.marks.ensures e held).1)
    (λ refs v h. c.requires.found refs v y h hold) i.inserted i.others i.elsewhere i.objects c.requires.row.2 c.requires.row.3 c.requires.row.7.version
