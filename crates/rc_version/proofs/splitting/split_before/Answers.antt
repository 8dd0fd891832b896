use Rattle.std.proofs.Common.{◌∷◌, arith, subst}
use Rattle.rc_rowcode.specs.Objects.{dummy_size}
use Rattle.lsa_tree.specs.Tree.{IsTree}
use Rattle.rc_core.specs.Change.{dummy}
use Rattle.rc_version.specs.Versions.{tree_of}
use Rattle.rc_version.proofs.Gaps.{entry-of}
use Rattle.rc_version.proofs.Putting.{put-loose, put-belongs}
use Rattle.rc_version.proofs.Splits.{gap-split}
use Rattle.rc_version.proofs.splitting.split_before.Goals as goal

pub marks-requires : goal.marks-requires
marks-requires g c =
    let h = c.requires.version.2 in let f = c.requires.found c.requires.version.0 c.requires.version.1 h in
    let w = entry-of c.args.region.now c.args.v c.requires.version.0 c.requires.version.1 h f.0 c.args.next f.1 f.2 in (omega arith, (w.here, w.holds))

pub insert-requires : goal.insert-requires
insert-requires g c =
    let h = c.requires.version.2 in let f = c.requires.found c.requires.version.0 c.requires.version.1 h in let k = c.make_dummy-r.ensures in
    let old = c.args.region.now in let mid = c.make_dummy-r.new.region in let e = dummy c.args.x.now c.marks.result.1 in (
      omega arith,
      (
        put-loose g.row.S old mid c.args.v c.make_dummy-r.result (dummy_size c.args.x.now) e k.made k.holds,
        put-belongs g.row.S old mid c.args.v c.make_dummy-r.result (dummy_size c.args.x.now) e k.made k.holds f.0 (c.args.next ∷ f.1) (subst (IsTree (tree_of c.args.v) old) f.2 h.tree) f.3,
      ),
    )

pub returns-clause-split : goal.returns-clause-split
returns-clause-split g c =
    let k = c.make_dummy-r.ensures in let i = c.insert.ensures in
    gap-split g.row.S c.args.region.now c.make_dummy-r.new.region c.insert.new.region c.args.v c.make_dummy-r.result c.args.next c.args.x.now c.marks.result.1 k.made k.holds c.known.ensures.well k.well
    (λ e held. (c.marks.ensures e held).1) c.requires.found i.inserted i.others i.elsewhere i.objects c.requires.version.0 c.requires.version.1 c.requires.version.2
