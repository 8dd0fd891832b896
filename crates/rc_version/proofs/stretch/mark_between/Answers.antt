use Rattle.std.proofs.Common.{arith, sym, subst, inl, inr, ap, ◌∙◌}
use Rattle.std.specs.Prelude.{Contains}
use Rattle.lsa_pool.specs.Room.{live_sum, spare_of}
use Rattle.lsa_region.specs.declared.end.End.TheVariants.{Obj}
use Rattle.lsa_region.specs.Region.{body}
use Rattle.lsa_path.specs.laws.Renamed.{some-there}
use Rattle.rc_core.specs.Continuity.{with_entries}
use Rattle.rc_version.specs.Versions.{IsVersionOf, MayChange, mark_after}
use Rattle.rc_version.specs.laws.Marked.{none-there}
use Rattle.rc_version.specs.laws.Staying.{entries-kind, kept-wider}
use Rattle.rc_version.proofs.Between.{stretch-marking}
use Rattle.rc_version.proofs.stretch.mark_between.Goals as goal

pub entry_there-first-requires : goal.entry_there-first-requires
entry_there-first-requires g c = (omega arith, (c.requires.version.0, c.requires.version.1, c.requires.version.2, c.requires.version.3))

pub entry_there-last-requires : goal.entry_there-last-requires
entry_there-last-requires g c = (omega arith, (c.requires.version.0, c.requires.version.1, c.requires.version.2, c.requires.version.4))

pub mark_stretch-requires : goal.mark_stretch-requires
mark_stretch-requires g c =
    let refs = c.requires.version.0 in let d = c.requires.version.1 in let h = c.requires.version.2 in let a = c.entry_there-first.ensures refs d h in let z = c.entry_there-last.ensures refs d h in
    let s = stretch-marking c.args.region.now c.args.v c.entry_there-first.result c.entry_there-last.result c.args.from.now c.args.to.now (mark_after c.args.marking) refs d.entries d h a.0 z.0 a.1 z.1 c.requires.ascend in
    (omega arith, (refs, d, s.0, s.1))

pub returns-clause-marked : goal.returns-clause-marked
returns-clause-marked g c = λ refs d h.
    let a = c.entry_there-first.ensures refs d h in let z = c.entry_there-last.ensures refs d h in
    let s = stretch-marking c.args.region.now c.args.v c.entry_there-first.result c.entry_there-last.result c.args.from.now c.args.to.now (mark_after c.args.marking) refs d.entries d h a.0 z.0 a.1 z.1 c.requires.ascend in
    subst (λ es. IsVersionOf c.mark_stretch.new.region c.args.v refs (with_entries es d)) (sym s.2) (c.mark_stretch.ensures.marked refs d s.0 s.1)

pub returns-clause-none : goal.returns-clause-none
returns-clause-none g c = λ r gone.
    let refs = c.requires.version.0 in let d = c.requires.version.1 in let h = c.requires.version.2 in let a = c.entry_there-first.ensures refs d h in let z = c.entry_there-last.ensures refs d h in
    let s = stretch-marking c.args.region.now c.args.v c.entry_there-first.result c.entry_there-last.result c.args.from.now c.args.to.now (mark_after c.args.marking) refs d.entries d h a.0 z.0 a.1 z.1 c.requires.ascend in
    (c.mark_stretch.ensures.kept refs d s.0 s.1).bodies r (λ k. none-there (body c.args.region.now r) gone (some-there _ (body c.args.region.now r) (entries-kind c.args.region.now c.args.v refs d h r k))) ∙ gone

pub returns-clause-statics : goal.returns-clause-statics
returns-clause-statics g c = c.mark_stretch.ensures.links (Obj c.args.v 3)

pub returns-clause-kept : goal.returns-clause-kept
returns-clause-kept g c =
    let refs = c.requires.version.0 in let d = c.requires.version.1 in let h = c.requires.version.2 in let a = c.entry_there-first.ensures refs d h in let z = c.entry_there-last.ensures refs d h in
    let s = stretch-marking c.args.region.now c.args.v c.entry_there-first.result c.entry_there-last.result c.args.from.now c.args.to.now (mark_after c.args.marking) refs d.entries d h a.0 z.0 a.1 z.1 c.requires.ascend in
    kept-wider (Contains refs) (MayChange c.args.region.now c.args.v) c.args.v c.args.region.now c.mark_stretch.new.region (λ q k. inr (inr (inl (refs, h.tree, k)))) (c.mark_stretch.ensures.kept refs d s.0 s.1)

pub returns-clause-spare : goal.returns-clause-spare
returns-clause-spare g c = ap (spare_of g.row.S) c.mark_stretch.ensures.usages

pub returns-clause-live : goal.returns-clause-live
returns-clause-live g c = ap live_sum c.mark_stretch.ensures.usages
