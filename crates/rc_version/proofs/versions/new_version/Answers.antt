use Rattle.std.proofs.Common.{[], None, arith}
use Rattle.rc_core.specs.Change.{dummy, mark}
use Rattle.rc_core.specs.Version.{end_position}
use Rattle.rc_version.proofs.NewVersions.{new-tree, new-version, new-kept, new-own, new-parts, new-spare, new-live}
use Rattle.rc_version.proofs.Putting.{fresh-unlisted, put-loose, put-belongs}
use Rattle.rc_version.proofs.versions.new_version.Goals as goal
use Rattle.rc_version.specs.Versions.{MayChange}

pub insert-requires : goal.insert-requires
insert-requires g c =
    let first = c.make_head-v.new.region in let mid = c.make_end-end.new.region in let k = c.make_end-end.ensures in let e = dummy end_position (mark c.args.flag None) in (
      omega arith,
      (
        put-loose g.row.S first mid c.make_head-v.result c.make_end-end.result 88 e k.made k.holds,
        put-belongs g.row.S first mid c.make_head-v.result c.make_end-end.result 88 e k.made k.holds [] []
            (new-tree g.row.S c.args.region.now first c.make_head-v.result _ c.make_head-v.ensures.made c.make_head-v.ensures.holds) (record { before = tt; behind = tt }),
      ),
    )

pub returns-clause-made : goal.returns-clause-made
returns-clause-made g c =
    let h = c.make_head-v.ensures in let k = c.make_end-end.ensures in let i = c.insert.ensures in
    (c.make_end-end.result, new-version g.row.S c.args.region.now c.make_head-v.new.region c.make_end-end.new.region c.insert.new.region c.make_head-v.result c.make_end-end.result c.args.flag c.args.pt c.args.phase h.made h.holds k.made k.holds k.well i.others i.elsewhere i.objects i.inserted)

pub returns-clause-unlisted : goal.returns-clause-unlisted
returns-clause-unlisted g c =
    let h = c.make_head-v.ensures in let k = c.make_end-end.ensures in let i = c.insert.ensures in
    fresh-unlisted (MayChange c.args.region.now c.make_head-v.result) c.make_head-v.result c.args.region.now c.insert.new.region c.known.ensures.well
    (new-kept g.row.S c.args.region.now c.make_head-v.new.region c.make_end-end.new.region c.insert.new.region c.make_head-v.result c.make_end-end.result c.args.flag c.args.pt c.args.phase h.made h.holds k.made k.holds k.well i.others i.elsewhere i.objects)

pub returns-clause-kept : goal.returns-clause-kept
returns-clause-kept g c =
    let h = c.make_head-v.ensures in let k = c.make_end-end.ensures in let i = c.insert.ensures in
    new-kept g.row.S c.args.region.now c.make_head-v.new.region c.make_end-end.new.region c.insert.new.region c.make_head-v.result c.make_end-end.result c.args.flag c.args.pt c.args.phase h.made h.holds k.made k.holds k.well i.others i.elsewhere i.objects

pub returns-clause-spare : goal.returns-clause-spare
returns-clause-spare g c =
    let h = c.make_head-v.ensures in let k = c.make_end-end.ensures in let i = c.insert.ensures in
    new-spare g.row.S c.args.region.now c.make_head-v.new.region c.make_end-end.new.region c.insert.new.region c.make_head-v.result c.make_end-end.result c.args.flag c.args.pt c.args.phase h.made h.holds k.made k.holds k.well i.others i.elsewhere i.objects

pub returns-clause-live : goal.returns-clause-live
returns-clause-live g c =
    let h = c.make_head-v.ensures in let k = c.make_end-end.ensures in let i = c.insert.ensures in
    new-live g.row.S c.args.region.now c.make_head-v.new.region c.make_end-end.new.region c.insert.new.region c.make_head-v.result c.make_end-end.result c.args.flag c.args.pt c.args.phase h.made h.holds k.made k.holds k.well i.others i.elsewhere i.objects

pub returns-clause-own : goal.returns-clause-own
returns-clause-own g c =
    let h = c.make_head-v.ensures in let k = c.make_end-end.ensures in let i = c.insert.ensures in
    new-own g.row.S c.args.region.now c.make_head-v.new.region c.make_end-end.new.region c.insert.new.region c.make_head-v.result c.make_end-end.result c.args.flag c.args.pt c.args.phase h.made h.holds k.made k.holds k.well i.others i.elsewhere i.objects
    (new-version g.row.S c.args.region.now c.make_head-v.new.region c.make_end-end.new.region c.insert.new.region c.make_head-v.result c.make_end-end.result c.args.flag c.args.pt c.args.phase h.made h.holds k.made k.holds k.well i.others i.elsewhere i.objects i.inserted).tree

pub returns-clause-parts : goal.returns-clause-parts
returns-clause-parts g c =
    let h = c.make_head-v.ensures in let k = c.make_end-end.ensures in let i = c.insert.ensures in
    new-parts g.row.S c.args.region.now c.make_head-v.new.region c.make_end-end.new.region c.insert.new.region c.make_head-v.result c.make_end-end.result c.args.flag c.args.pt c.args.phase h.made h.holds k.made k.holds k.well i.others i.elsewhere i.objects
    (new-version g.row.S c.args.region.now c.make_head-v.new.region c.make_end-end.new.region c.insert.new.region c.make_head-v.result c.make_end-end.result c.args.flag c.args.pt c.args.phase h.made h.holds k.made k.holds k.well i.others i.elsewhere i.objects i.inserted)
