use Rattle.std.proofs.Common.{◌+◌, ◌≤◌, None, arith, ap, sym, ◌∙◌, subst}
use Rattle.lsa_pool.specs.Room.{live_sum, spare_of}
use Rattle.lsa_region.specs.declared.end.End.TheVariants.{Obj}
use Rattle.rc_rowcode.specs.Objects.{dummy_size}
use Rattle.rc_core.specs.Change.{gap_split}
use Rattle.rc_core.specs.Continuity.{with_entries}
use Rattle.rc_object.specs.Objects.{entry_length}
use Rattle.rc_version.specs.Versions.{IsVersionOf, MayChange, version_bytes}
use Rattle.rc_version.proofs.Putting.{fresh-unlisted}
use Rattle.rc_version.proofs.Ranges.{both, both-wider, left-spare, range-kept, range-live, range-own, range-marking, two-spare}
use Rattle.rc_version.proofs.joining.join_range.Goals as goal

pub split-last-requires : goal.split-last-requires
split-last-requires g c = let k = c.split-first.ensures.split.entries c.requires.version.0 c.requires.version.1 c.requires.version.2 in (
  omega arith,
  (
    c.requires.to,
    (
      record {
        fits = c.requires.to_room.fits;
        spare = left-spare (spare_of g.row.S c.args.region.now.usages) (spare_of g.row.S c.split-first.new.region.usages) (dummy_size c.args.from.now) (dummy_size c.args.to.now) c.requires.spare c.split-first.ensures.split.spare;
        inside = subst (λ n. entry_length c.args.to.now None ≤ n) (sym c.split-first.ensures.size) c.requires.to_room.inside;
      },
      (k.0, with_entries (gap_split c.args.from.now c.requires.version.1.entries) c.requires.version.1, k.2),
    ),
  ),
)

pub mark_stretch-requires : goal.mark_stretch-requires
mark_stretch-requires g c = let k = range-marking g.row.S c.args.region.now c.split-first.new.region c.split-last.new.region c.args.v c.split-first.result c.split-last.result c.args.from.now c.args.to.now c.args.tomb c.split-first.ensures.split c.split-last.ensures.split c.requires.ascend c.requires.version.0 c.requires.version.1 c.requires.version.2 in (omega arith, (both g.row.S c.args.region.now c.split-first.new.region c.split-last.new.region c.args.v c.split-first.result c.split-last.result c.args.from.now c.args.to.now c.args.tomb c.split-first.ensures.split c.split-last.ensures.split c.requires.ascend c.requires.version.0 c.requires.version.1 c.requires.version.2, c.requires.version.1, k.0, k.1))

pub returns-clause-joined : goal.returns-clause-joined
returns-clause-joined g c = λ rs d h. let k = range-marking g.row.S c.args.region.now c.split-first.new.region c.split-last.new.region c.args.v c.split-first.result c.split-last.result c.args.from.now c.args.to.now c.args.tomb c.split-first.ensures.split c.split-last.ensures.split c.requires.ascend rs d h in
    (both g.row.S c.args.region.now c.split-first.new.region c.split-last.new.region c.args.v c.split-first.result c.split-last.result c.args.from.now c.args.to.now c.args.tomb c.split-first.ensures.split c.split-last.ensures.split c.requires.ascend rs d h, both-wider g.row.S c.args.region.now c.split-first.new.region c.split-last.new.region c.args.v c.split-first.result c.split-last.result c.args.from.now c.args.to.now c.args.tomb c.split-first.ensures.split c.split-last.ensures.split c.requires.ascend rs d h, subst (λ es. IsVersionOf c.mark_stretch.new.region c.args.v (both g.row.S c.args.region.now c.split-first.new.region c.split-last.new.region c.args.v c.split-first.result c.split-last.result c.args.from.now c.args.to.now c.args.tomb c.split-first.ensures.split c.split-last.ensures.split c.requires.ascend rs d h) (with_entries es d)) (sym k.2) (c.mark_stretch.ensures.marked (both g.row.S c.args.region.now c.split-first.new.region c.split-last.new.region c.args.v c.split-first.result c.split-last.result c.args.from.now c.args.to.now c.args.tomb c.split-first.ensures.split c.split-last.ensures.split c.requires.ascend rs d h) d k.0 k.1))

pub returns-clause-unlisted : goal.returns-clause-unlisted
returns-clause-unlisted g c = let k = range-marking g.row.S c.args.region.now c.split-first.new.region c.split-last.new.region c.args.v c.split-first.result c.split-last.result c.args.from.now c.args.to.now c.args.tomb c.split-first.ensures.split c.split-last.ensures.split c.requires.ascend c.requires.version.0 c.requires.version.1 c.requires.version.2 in
    fresh-unlisted (MayChange c.args.region.now c.args.v) c.args.v c.args.region.now c.mark_stretch.new.region c.known.ensures.well (range-kept g.row.S c.args.region.now c.split-first.new.region c.split-last.new.region c.args.v c.split-first.result c.split-last.result c.args.from.now c.args.to.now c.args.tomb c.split-first.ensures.split c.split-last.ensures.split c.requires.ascend c.requires.version.0 c.requires.version.1 c.requires.version.2 c.mark_stretch.new.region (c.mark_stretch.ensures.kept (both g.row.S c.args.region.now c.split-first.new.region c.split-last.new.region c.args.v c.split-first.result c.split-last.result c.args.from.now c.args.to.now c.args.tomb c.split-first.ensures.split c.split-last.ensures.split c.requires.ascend c.requires.version.0 c.requires.version.1 c.requires.version.2) c.requires.version.1 k.0 k.1))

pub returns-clause-kept : goal.returns-clause-kept
returns-clause-kept g c = let k = range-marking g.row.S c.args.region.now c.split-first.new.region c.split-last.new.region c.args.v c.split-first.result c.split-last.result c.args.from.now c.args.to.now c.args.tomb c.split-first.ensures.split c.split-last.ensures.split c.requires.ascend c.requires.version.0 c.requires.version.1 c.requires.version.2 in
    range-kept g.row.S c.args.region.now c.split-first.new.region c.split-last.new.region c.args.v c.split-first.result c.split-last.result c.args.from.now c.args.to.now c.args.tomb c.split-first.ensures.split c.split-last.ensures.split c.requires.ascend c.requires.version.0 c.requires.version.1 c.requires.version.2 c.mark_stretch.new.region (c.mark_stretch.ensures.kept (both g.row.S c.args.region.now c.split-first.new.region c.split-last.new.region c.args.v c.split-first.result c.split-last.result c.args.from.now c.args.to.now c.args.tomb c.split-first.ensures.split c.split-last.ensures.split c.requires.ascend c.requires.version.0 c.requires.version.1 c.requires.version.2) c.requires.version.1 k.0 k.1)

pub returns-clause-spare : goal.returns-clause-spare
returns-clause-spare g c = subst (λ us. spare_of g.row.S c.args.region.now.usages ≤ spare_of g.row.S us + (dummy_size c.args.from.now + dummy_size c.args.to.now)) (sym c.mark_stretch.ensures.usages)
    (two-spare (spare_of g.row.S c.args.region.now.usages) (spare_of g.row.S c.split-first.new.region.usages) (spare_of g.row.S c.split-last.new.region.usages) (dummy_size c.args.from.now) (dummy_size c.args.to.now) c.split-first.ensures.split.spare c.split-last.ensures.split.spare)

pub returns-clause-live : goal.returns-clause-live
returns-clause-live g c = λ rs d h. ap (λ us. live_sum us + version_bytes d) c.mark_stretch.ensures.usages ∙ range-live g.row.S c.args.region.now c.split-first.new.region c.split-last.new.region c.args.v c.split-first.result c.split-last.result c.args.from.now c.args.to.now c.args.tomb c.split-first.ensures.split c.split-last.ensures.split c.requires.ascend rs d h

pub returns-clause-own : goal.returns-clause-own
returns-clause-own g c = let k = range-marking g.row.S c.args.region.now c.split-first.new.region c.split-last.new.region c.args.v c.split-first.result c.split-last.result c.args.from.now c.args.to.now c.args.tomb c.split-first.ensures.split c.split-last.ensures.split c.requires.ascend c.requires.version.0 c.requires.version.1 c.requires.version.2 in
    range-own g.row.S c.args.region.now c.split-first.new.region c.split-last.new.region c.args.v c.split-first.result c.split-last.result c.args.from.now c.args.to.now c.args.tomb c.split-first.ensures.split c.split-last.ensures.split c.requires.ascend c.requires.version.0 c.requires.version.1 c.requires.version.2 c.mark_stretch.new.region (c.mark_stretch.ensures.kept (both g.row.S c.args.region.now c.split-first.new.region c.split-last.new.region c.args.v c.split-first.result c.split-last.result c.args.from.now c.args.to.now c.args.tomb c.split-first.ensures.split c.split-last.ensures.split c.requires.ascend c.requires.version.0 c.requires.version.1 c.requires.version.2) c.requires.version.1 k.0 k.1) (c.mark_stretch.ensures.marked (both g.row.S c.args.region.now c.split-first.new.region c.split-last.new.region c.args.v c.split-first.result c.split-last.result c.args.from.now c.args.to.now c.args.tomb c.split-first.ensures.split c.split-last.ensures.split c.requires.ascend c.requires.version.0 c.requires.version.1 c.requires.version.2) c.requires.version.1 k.0 k.1).tree c.mark_stretch.ensures.links

pub returns-clause-statics : goal.returns-clause-statics
returns-clause-statics g c = c.mark_stretch.ensures.links (Obj c.args.v 3) ∙ c.split-last.ensures.split.statics ∙ c.split-first.ensures.split.statics
