use Rattle.std.proofs.Common.{◌∷◌, Some, arith, subst}
use Rattle.rc_position.specs.Position.{row_pos}
use Rattle.lsa_tree.specs.Tree.{IsTree}
use Rattle.rc_object.specs.Objects.{entry_of}
use Rattle.rc_version.specs.Versions.{bytes_at, tree_of}
use Rattle.rc_version.proofs.Gaps.{entry-of}
use Rattle.rc_version.proofs.Joins.{gap-join, gap-room, key-before_end}
use Rattle.rc_version.proofs.Putting.{put-loose, put-belongs}
use Rattle.rc_version.proofs.joining.join_row_before.Goals as goal

pub marks-requires : goal.marks-requires
marks-requires g c =
    let h = c.requires.row.4.version in let f = c.requires.found c.requires.row.1 c.requires.row.2 h in
    let w = entry-of c.args.region.now c.args.v c.requires.row.1 c.requires.row.2 h f.0 c.args.next f.1 f.2 in (omega arith, (w.here, w.holds))

pub make_row-r-requires : goal.make_row-r-requires
make_row-r-requires g c =
    let h = c.requires.row.4.version in let f = c.requires.found c.requires.row.1 c.requires.row.2 h in (
      omega arith,
      (c.requires.limits, (c.requires.row.0, c.requires.row.3, gap-room g.row.S c.args.region.now c.args.v c.args.next (row_pos c.args.key.now) c.requires.row.0 c.args.sc.now.size c.requires.row.1 c.requires.row.2 c.requires.row.4 f)),
    )

pub insert-requires : goal.insert-requires
insert-requires g c =
    let h = c.requires.row.4.version in let f = c.requires.found c.requires.row.1 c.requires.row.2 h in let k = c.make_row-r.ensures in
    let old = c.args.region.now in let mid = c.make_row-r.new.region in let row = c.requires.row.0 in let x = row_pos c.args.key.now in let e = entry_of x (Some row) c.marks.result.1 c.marks.result.1 in
    let made = k.made row c.requires.row.3 in let held = k.holds row c.requires.row.3 in (
      omega arith,
      (
        put-loose g.row.S old mid c.args.v c.make_row-r.result (bytes_at x (Some row)) e made held,
        put-belongs g.row.S old mid c.args.v c.make_row-r.result (bytes_at x (Some row)) e made held f.0 (c.args.next ∷ f.1) (subst (IsTree (tree_of c.args.v) old) f.2 h.tree) f.3,
      ),
    )

pub returns-clause-joined : goal.returns-clause-joined
returns-clause-joined g c = λ row code.
    let k = c.make_row-r.ensures in let i = c.insert.ensures in
    gap-join g.row.S c.args.region.now c.make_row-r.new.region c.insert.new.region c.args.v c.make_row-r.result c.args.next (row_pos c.args.key.now) row c.marks.result.1 (k.made row code) (k.holds row code)
    (key-before_end c.args.key.now) c.known.ensures.well k.well (λ e held. (c.marks.ensures e held).1) c.requires.found i.inserted i.others i.elsewhere i.objects c.requires.row.1 c.requires.row.2 c.requires.row.4.version
