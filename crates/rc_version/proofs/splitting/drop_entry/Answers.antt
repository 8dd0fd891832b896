use Rattle.std.proofs.Common.{◌∷◌, ◌++◌, arith, sym, ◌∙◌, subst}
use Rattle.rc_core.specs.Change.{drop_at}
use Rattle.rc_core.specs.Continuity.{with_entries}
use Rattle.rc_version.specs.laws.Holding.{both-around}
use Rattle.rc_object.specs.Objects.{HoldsEntry, entry_of}
use Rattle.rc_version.specs.Versions.{IsVersionOf}
use Rattle.rc_version.proofs.Taken.{first-none, last-at-end, next-split}
use Rattle.rc_version.proofs.Dropped.{drop-unset, drop-there, drop-next, drop-kept, drop-spare, drop-gone, drop-none, drop-statics, drop-version, drop-live}
use Rattle.rc_version.proofs.splitting.drop_entry.Goals as goal

pub remove-requires : goal.remove-requires
remove-requires g c = (omega arith, (c.requires.version.0, c.requires.version.1, c.requires.version.3.tree))

pub free_obj-requires : goal.free_obj-requires
free_obj-requires g c =
    let s = next-split c.requires.version.1 c.in-Some.next (sym (c.next.ensures c.requires.version.0 c.requires.version.1 c.requires.version.3.tree) ∙ c.in-Some.is) in
    let held = subst (λ l. IsVersionOf c.args.region.now c.args.v (c.requires.version.0 ++ (c.args.e ∷ l)) c.requires.version.2) s.1 c.requires.version.3 in (
      omega arith,
      (
        drop-there g.row.S c.args.region.now c.remove.new.region c.remove.new.region c.remove.new.region c.args.v c.args.e c.in-Some.next c.requires.version.0 s.0 c.requires.version.2 held c.known.ensures.well c.remove.ensures.well c.remove.ensures.well c.requires.unlisted
            c.remove.ensures.others c.remove.ensures.elsewhere (c.remove.ensures.objects (c.requires.version.0 ++ (c.args.e ∷ c.in-Some.next ∷ s.0)) held.tree) (c.remove.ensures.removed c.requires.version.0 (c.in-Some.next ∷ s.0) held.tree) c.remove.ensures.out,
        drop-unset g.row.S c.args.region.now c.remove.new.region c.remove.new.region c.remove.new.region c.args.v c.args.e c.in-Some.next c.requires.version.0 s.0 c.requires.version.2 held c.known.ensures.well c.remove.ensures.well c.remove.ensures.well c.requires.unlisted
            c.remove.ensures.others c.remove.ensures.elsewhere (c.remove.ensures.objects (c.requires.version.0 ++ (c.args.e ∷ c.in-Some.next ∷ s.0)) held.tree) (c.remove.ensures.removed c.requires.version.0 (c.in-Some.next ∷ s.0) held.tree) c.remove.ensures.out,
      ),
    )

pub marks-requires : goal.marks-requires
marks-requires g c =
    let s = next-split c.requires.version.1 c.in-Some.next (sym (c.next.ensures c.requires.version.0 c.requires.version.1 c.requires.version.3.tree) ∙ c.in-Some.is) in
    let held = subst (λ l. IsVersionOf c.args.region.now c.args.v (c.requires.version.0 ++ (c.args.e ∷ l)) c.requires.version.2) s.1 c.requires.version.3 in (
      omega arith,
      (
        _,
        drop-next g.row.S c.args.region.now c.remove.new.region c.free_obj.new.self c.free_obj.new.self c.args.v c.args.e c.in-Some.next c.requires.version.0 s.0 c.requires.version.2 held c.known.ensures.well c.remove.ensures.well c.free_obj.ensures.well c.requires.unlisted
            c.remove.ensures.others c.remove.ensures.elsewhere (c.remove.ensures.objects (c.requires.version.0 ++ (c.args.e ∷ c.in-Some.next ∷ s.0)) held.tree) (c.remove.ensures.removed c.requires.version.0 (c.in-Some.next ∷ s.0) held.tree) c.remove.ensures.out c.free_obj.ensures.freed c.free_obj.ensures.budget c.free_obj.ensures.moved c.free_obj.ensures.compacted c.free_obj.ensures.epoch,
      ),
    )

pub set_marks-requires : goal.set_marks-requires
set_marks-requires g c =
    let s = next-split c.requires.version.1 c.in-Some.next (sym (c.next.ensures c.requires.version.0 c.requires.version.1 c.requires.version.3.tree) ∙ c.in-Some.is) in
    let held = subst (λ l. IsVersionOf c.args.region.now c.args.v (c.requires.version.0 ++ (c.args.e ∷ l)) c.requires.version.2) s.1 c.requires.version.3 in (
      omega arith,
      (
        _,
        drop-next g.row.S c.args.region.now c.remove.new.region c.free_obj.new.self c.free_obj.new.self c.args.v c.args.e c.in-Some.next c.requires.version.0 s.0 c.requires.version.2 held c.known.ensures.well c.remove.ensures.well c.free_obj.ensures.well c.requires.unlisted
            c.remove.ensures.others c.remove.ensures.elsewhere (c.remove.ensures.objects (c.requires.version.0 ++ (c.args.e ∷ c.in-Some.next ∷ s.0)) held.tree) (c.remove.ensures.removed c.requires.version.0 (c.in-Some.next ∷ s.0) held.tree) c.remove.ensures.out c.free_obj.ensures.freed c.free_obj.ensures.budget c.free_obj.ensures.moved c.free_obj.ensures.compacted c.free_obj.ensures.epoch,
      ),
    )

pub unreachable-requires : goal.unreachable-requires
unreachable-requires g c =
    let none = first-none c.requires.version.1 (sym (c.next.ensures c.requires.version.0 c.requires.version.1 c.requires.version.3.tree) ∙ c.in-None.is) in
    c.requires.inner (last-at-end c.args.region.now c.args.v c.args.e c.requires.version.0 c.requires.version.2 (subst (λ l. IsVersionOf c.args.region.now c.args.v (c.requires.version.0 ++ (c.args.e ∷ l)) c.requires.version.2) none c.requires.version.3))

pub returns-clause-dropped : goal.returns-clause-dropped
returns-clause-dropped g c = λ front back v x h stands.
    let s = next-split back c.in-Some.next (sym (c.next.ensures front back h.tree) ∙ c.in-Some.is) in
    let held = subst (λ l. IsVersionOf c.args.region.now c.args.v (front ++ (c.args.e ∷ l)) v) s.1 h in
    let next = drop-next g.row.S c.args.region.now c.remove.new.region c.free_obj.new.self c.set_marks.new.region c.args.v c.args.e c.in-Some.next front s.0 v held c.known.ensures.well c.remove.ensures.well c.free_obj.ensures.well c.requires.unlisted
    c.remove.ensures.others c.remove.ensures.elsewhere (c.remove.ensures.objects (front ++ (c.args.e ∷ c.in-Some.next ∷ s.0)) held.tree) (c.remove.ensures.removed front (c.in-Some.next ∷ s.0) held.tree) c.remove.ensures.out c.free_obj.ensures.freed c.free_obj.ensures.budget c.free_obj.ensures.moved c.free_obj.ensures.compacted c.free_obj.ensures.epoch in
    let there = (both-around c.args.region.now front c.args.e c.in-Some.next s.0 v.entries held.entries).there in let marks = c.marks.ensures there next in
    subst (λ l. IsVersionOf c.set_marks.new.region c.args.v (front ++ l) (with_entries (drop_at x v.entries) v)) (sym s.1) (drop-version g.row.S c.args.region.now c.remove.new.region c.free_obj.new.self c.set_marks.new.region c.args.v c.args.e c.in-Some.next front s.0 v held c.known.ensures.well c.remove.ensures.well c.free_obj.ensures.well c.requires.unlisted
    c.remove.ensures.others c.remove.ensures.elsewhere (c.remove.ensures.objects (front ++ (c.args.e ∷ c.in-Some.next ∷ s.0)) held.tree) (c.remove.ensures.removed front (c.in-Some.next ∷ s.0) held.tree) c.remove.ensures.out c.free_obj.ensures.freed c.free_obj.ensures.budget c.free_obj.ensures.moved c.free_obj.ensures.compacted c.free_obj.ensures.epoch c.set_marks.ensures.rewritten c.set_marks.ensures.alike
    (subst (HoldsEntry c.set_marks.new.region c.in-Some.next) (λ i. entry_of there.position there.row (marks.0 i) (c.mark_of_lost.ensures i)) (c.set_marks.ensures.holds there next)) x stands)

pub returns-clause-kept : goal.returns-clause-kept
returns-clause-kept g c =
    let s = next-split c.requires.version.1 c.in-Some.next (sym (c.next.ensures c.requires.version.0 c.requires.version.1 c.requires.version.3.tree) ∙ c.in-Some.is) in
    let held = subst (λ l. IsVersionOf c.args.region.now c.args.v (c.requires.version.0 ++ (c.args.e ∷ l)) c.requires.version.2) s.1 c.requires.version.3 in
    drop-kept g.row.S c.args.region.now c.remove.new.region c.free_obj.new.self c.set_marks.new.region c.args.v c.args.e c.in-Some.next c.requires.version.0 s.0 c.requires.version.2 held c.known.ensures.well c.remove.ensures.well c.free_obj.ensures.well c.requires.unlisted
    c.remove.ensures.others c.remove.ensures.elsewhere (c.remove.ensures.objects (c.requires.version.0 ++ (c.args.e ∷ c.in-Some.next ∷ s.0)) held.tree) (c.remove.ensures.removed c.requires.version.0 (c.in-Some.next ∷ s.0) held.tree) c.remove.ensures.out c.free_obj.ensures.freed c.free_obj.ensures.budget c.free_obj.ensures.moved c.free_obj.ensures.compacted c.free_obj.ensures.epoch c.set_marks.ensures.rewritten c.set_marks.ensures.alike

pub returns-clause-gone : goal.returns-clause-gone
returns-clause-gone g c =
    let s = next-split c.requires.version.1 c.in-Some.next (sym (c.next.ensures c.requires.version.0 c.requires.version.1 c.requires.version.3.tree) ∙ c.in-Some.is) in
    let held = subst (λ l. IsVersionOf c.args.region.now c.args.v (c.requires.version.0 ++ (c.args.e ∷ l)) c.requires.version.2) s.1 c.requires.version.3 in
    drop-gone g.row.S c.args.region.now c.remove.new.region c.free_obj.new.self c.set_marks.new.region c.args.v c.args.e c.in-Some.next c.requires.version.0 s.0 c.requires.version.2 held c.known.ensures.well c.remove.ensures.well c.free_obj.ensures.well c.requires.unlisted
    c.remove.ensures.others c.remove.ensures.elsewhere (c.remove.ensures.objects (c.requires.version.0 ++ (c.args.e ∷ c.in-Some.next ∷ s.0)) held.tree) (c.remove.ensures.removed c.requires.version.0 (c.in-Some.next ∷ s.0) held.tree) c.remove.ensures.out c.free_obj.ensures.freed c.free_obj.ensures.budget c.free_obj.ensures.moved c.free_obj.ensures.compacted c.free_obj.ensures.epoch c.set_marks.ensures.rewritten c.set_marks.ensures.alike

pub returns-clause-spare : goal.returns-clause-spare
returns-clause-spare g c =
    let s = next-split c.requires.version.1 c.in-Some.next (sym (c.next.ensures c.requires.version.0 c.requires.version.1 c.requires.version.3.tree) ∙ c.in-Some.is) in
    let held = subst (λ l. IsVersionOf c.args.region.now c.args.v (c.requires.version.0 ++ (c.args.e ∷ l)) c.requires.version.2) s.1 c.requires.version.3 in
    drop-spare g.row.S c.args.region.now c.remove.new.region c.free_obj.new.self c.set_marks.new.region c.args.v c.args.e c.in-Some.next c.requires.version.0 s.0 c.requires.version.2 held c.known.ensures.well c.remove.ensures.well c.free_obj.ensures.well c.requires.unlisted
    c.remove.ensures.others c.remove.ensures.elsewhere (c.remove.ensures.objects (c.requires.version.0 ++ (c.args.e ∷ c.in-Some.next ∷ s.0)) held.tree) (c.remove.ensures.removed c.requires.version.0 (c.in-Some.next ∷ s.0) held.tree) c.remove.ensures.out c.free_obj.ensures.freed c.free_obj.ensures.budget c.free_obj.ensures.moved c.free_obj.ensures.compacted c.free_obj.ensures.epoch c.set_marks.ensures.rewritten c.set_marks.ensures.alike c.free_obj.ensures.spare

pub returns-clause-live : goal.returns-clause-live
returns-clause-live g c = λ front back v x h stands.
    let s = next-split back c.in-Some.next (sym (c.next.ensures front back h.tree) ∙ c.in-Some.is) in
    let held = subst (λ l. IsVersionOf c.args.region.now c.args.v (front ++ (c.args.e ∷ l)) v) s.1 h in
    let next = drop-next g.row.S c.args.region.now c.remove.new.region c.free_obj.new.self c.set_marks.new.region c.args.v c.args.e c.in-Some.next front s.0 v held c.known.ensures.well c.remove.ensures.well c.free_obj.ensures.well c.requires.unlisted
    c.remove.ensures.others c.remove.ensures.elsewhere (c.remove.ensures.objects (front ++ (c.args.e ∷ c.in-Some.next ∷ s.0)) held.tree) (c.remove.ensures.removed front (c.in-Some.next ∷ s.0) held.tree) c.remove.ensures.out c.free_obj.ensures.freed c.free_obj.ensures.budget c.free_obj.ensures.moved c.free_obj.ensures.compacted c.free_obj.ensures.epoch in
    let there = (both-around c.args.region.now front c.args.e c.in-Some.next s.0 v.entries held.entries).there in let marks = c.marks.ensures there next in
    drop-live g.row.S c.args.region.now c.remove.new.region c.free_obj.new.self c.set_marks.new.region c.args.v c.args.e c.in-Some.next front s.0 v held c.known.ensures.well c.remove.ensures.well c.free_obj.ensures.well c.requires.unlisted
    c.remove.ensures.others c.remove.ensures.elsewhere (c.remove.ensures.objects (front ++ (c.args.e ∷ c.in-Some.next ∷ s.0)) held.tree) (c.remove.ensures.removed front (c.in-Some.next ∷ s.0) held.tree) c.remove.ensures.out c.free_obj.ensures.freed c.free_obj.ensures.budget c.free_obj.ensures.moved c.free_obj.ensures.compacted c.free_obj.ensures.epoch c.set_marks.ensures.rewritten c.set_marks.ensures.alike
    (subst (HoldsEntry c.set_marks.new.region c.in-Some.next) (λ i. entry_of there.position there.row (marks.0 i) (c.mark_of_lost.ensures i)) (c.set_marks.ensures.holds there next)) x stands c.free_obj.ensures.live

pub returns-clause-none : goal.returns-clause-none
returns-clause-none g c =
    let s = next-split c.requires.version.1 c.in-Some.next (sym (c.next.ensures c.requires.version.0 c.requires.version.1 c.requires.version.3.tree) ∙ c.in-Some.is) in
    let held = subst (λ l. IsVersionOf c.args.region.now c.args.v (c.requires.version.0 ++ (c.args.e ∷ l)) c.requires.version.2) s.1 c.requires.version.3 in
    drop-none g.row.S c.args.region.now c.remove.new.region c.free_obj.new.self c.set_marks.new.region c.args.v c.args.e c.in-Some.next c.requires.version.0 s.0 c.requires.version.2 held c.known.ensures.well c.remove.ensures.well c.free_obj.ensures.well c.requires.unlisted
    c.remove.ensures.others c.remove.ensures.elsewhere (c.remove.ensures.objects (c.requires.version.0 ++ (c.args.e ∷ c.in-Some.next ∷ s.0)) held.tree) (c.remove.ensures.removed c.requires.version.0 (c.in-Some.next ∷ s.0) held.tree) c.remove.ensures.out c.free_obj.ensures.freed c.free_obj.ensures.budget c.free_obj.ensures.moved c.free_obj.ensures.compacted c.free_obj.ensures.epoch c.set_marks.ensures.rewritten c.set_marks.ensures.alike

pub returns-clause-statics : goal.returns-clause-statics
returns-clause-statics g c =
    let s = next-split c.requires.version.1 c.in-Some.next (sym (c.next.ensures c.requires.version.0 c.requires.version.1 c.requires.version.3.tree) ∙ c.in-Some.is) in
    let held = subst (λ l. IsVersionOf c.args.region.now c.args.v (c.requires.version.0 ++ (c.args.e ∷ l)) c.requires.version.2) s.1 c.requires.version.3 in
    drop-statics g.row.S c.args.region.now c.remove.new.region c.free_obj.new.self c.set_marks.new.region c.args.v c.args.e c.in-Some.next c.requires.version.0 s.0 c.requires.version.2 held c.known.ensures.well c.remove.ensures.well c.free_obj.ensures.well c.requires.unlisted
    c.remove.ensures.others c.remove.ensures.elsewhere (c.remove.ensures.objects (c.requires.version.0 ++ (c.args.e ∷ c.in-Some.next ∷ s.0)) held.tree) (c.remove.ensures.removed c.requires.version.0 (c.in-Some.next ∷ s.0) held.tree) c.remove.ensures.out c.free_obj.ensures.freed c.free_obj.ensures.budget c.free_obj.ensures.moved c.free_obj.ensures.compacted c.free_obj.ensures.epoch c.set_marks.ensures.rewritten c.set_marks.ensures.alike
