use Rattle.std.proofs.Common.{◌≡◌, [], ◌∷◌, None, Some, arith, sym, ap, ◌∙◌, subst}
use Rattle.lsa_pool.specs.Room.{spare_of}
use Rattle.lsa_store.specs.declared.place.Ref.{Ref}
use Rattle.lsa_region.specs.Region.{body}
use Rattle.rc_version.specs.Versions.{IsUnlisted, IsVersionOf}
use Rattle.rc_version.proofs.Freed.{end-unset, end-there, head-there, head-unset, free-kept, free-none, end-gone, free-live}
use Rattle.rc_version.proofs.versions.free_version.Goals as goal

same_end : (r q : Ref) → Some r ≡ Some q → r ≡ q
same_end r q e = cc

pub remove-requires : goal.remove-requires
remove-requires g c =
    let same : c.requires.version.0 ≡ c.in-Some.end = same_end c.requires.version.0 c.in-Some.end (sym (c.first.ensures (c.requires.version.0 ∷ []) c.requires.version.2.tree) ∙ c.in-Some.is) in
    let held = subst (λ z. IsVersionOf c.args.region.now c.args.v (z ∷ []) c.requires.version.1) same c.requires.version.2 in
    (omega arith, ([], [], held.tree))

pub free_obj-requires : goal.free_obj-requires
free_obj-requires g c =
    let same : c.requires.version.0 ≡ c.in-Some.end = same_end c.requires.version.0 c.in-Some.end (sym (c.first.ensures (c.requires.version.0 ∷ []) c.requires.version.2.tree) ∙ c.in-Some.is) in
    let held = subst (λ z. IsVersionOf c.args.region.now c.args.v (z ∷ []) c.requires.version.1) same c.requires.version.2 in (
      omega arith,
      (
        end-there g.row.S c.args.region.now c.remove.new.region c.args.v c.in-Some.end c.requires.version.1 held c.requires.version.3 c.requires.unlisted (subst (IsUnlisted c.args.region.now) same c.requires.version.4) c.known.ensures.well c.remove.ensures.well
            c.remove.ensures.others c.remove.ensures.elsewhere (c.remove.ensures.objects (c.in-Some.end ∷ []) held.tree) (c.remove.ensures.removed [] [] held.tree) c.remove.ensures.out,
        end-unset g.row.S c.args.region.now c.remove.new.region c.args.v c.in-Some.end c.requires.version.1 held c.requires.version.3 c.requires.unlisted (subst (IsUnlisted c.args.region.now) same c.requires.version.4) c.known.ensures.well c.remove.ensures.well
            c.remove.ensures.others c.remove.ensures.elsewhere (c.remove.ensures.objects (c.in-Some.end ∷ []) held.tree) (c.remove.ensures.removed [] [] held.tree) c.remove.ensures.out,
      ),
    )

pub free_obj-requires-in-Some : goal.free_obj-requires-in-Some
free_obj-requires-in-Some g c =
    let same : c.requires.version.0 ≡ c.in-Some.end = same_end c.requires.version.0 c.in-Some.end (sym (c.first.ensures (c.requires.version.0 ∷ []) c.requires.version.2.tree) ∙ c.in-Some.is) in
    let held = subst (λ z. IsVersionOf c.args.region.now c.args.v (z ∷ []) c.requires.version.1) same c.requires.version.2 in (
      omega arith,
      (
        head-there g.row.S c.args.region.now c.remove.new.region c.args.v c.in-Some.end c.requires.version.1 held c.requires.version.3 c.requires.unlisted (subst (IsUnlisted c.args.region.now) same c.requires.version.4) c.known.ensures.well c.remove.ensures.well
            c.remove.ensures.others c.remove.ensures.elsewhere (c.remove.ensures.objects (c.in-Some.end ∷ []) held.tree) (c.remove.ensures.removed [] [] held.tree) c.remove.ensures.out c.free_obj.new.self c.free_obj.ensures.well c.free_obj.ensures.freed c.free_obj.ensures.budget c.free_obj.ensures.moved c.free_obj.ensures.compacted c.free_obj.ensures.epoch,
        head-unset g.row.S c.args.region.now c.remove.new.region c.args.v c.in-Some.end c.requires.version.1 held c.requires.version.3 c.requires.unlisted (subst (IsUnlisted c.args.region.now) same c.requires.version.4) c.known.ensures.well c.remove.ensures.well
            c.remove.ensures.others c.remove.ensures.elsewhere (c.remove.ensures.objects (c.in-Some.end ∷ []) held.tree) (c.remove.ensures.removed [] [] held.tree) c.remove.ensures.out c.free_obj.new.self c.free_obj.ensures.well c.free_obj.ensures.freed c.free_obj.ensures.budget c.free_obj.ensures.moved c.free_obj.ensures.compacted c.free_obj.ensures.epoch,
      ),
    )

pub unreachable-requires : goal.unreachable-requires
unreachable-requires g c = let clash = sym (c.first.ensures (c.requires.version.0 ∷ []) c.requires.version.2.tree) ∙ c.in-None.is in cc

pub returns-clause-end : goal.returns-clause-end
returns-clause-end g c = λ end v h.
    let same : c.requires.version.0 ≡ c.in-Some.end = same_end c.requires.version.0 c.in-Some.end (sym (c.first.ensures (c.requires.version.0 ∷ []) c.requires.version.2.tree) ∙ c.in-Some.is) in
    let held = subst (λ z. IsVersionOf c.args.region.now c.args.v (z ∷ []) c.requires.version.1) same c.requires.version.2 in
    let also : end ≡ c.in-Some.end = same_end end c.in-Some.end (sym (c.first.ensures (end ∷ []) h.tree) ∙ c.in-Some.is) in
    subst (λ z. body c.free_obj-in-Some.new.self z ≡ None) (sym also) (end-gone g.row.S c.args.region.now c.remove.new.region c.args.v c.in-Some.end c.requires.version.1 held c.requires.version.3 c.requires.unlisted (subst (IsUnlisted c.args.region.now) same c.requires.version.4) c.known.ensures.well c.remove.ensures.well
    c.remove.ensures.others c.remove.ensures.elsewhere (c.remove.ensures.objects (c.in-Some.end ∷ []) held.tree) (c.remove.ensures.removed [] [] held.tree) c.remove.ensures.out c.free_obj.new.self c.free_obj.ensures.well c.free_obj.ensures.freed c.free_obj.ensures.budget c.free_obj.ensures.moved c.free_obj.ensures.compacted c.free_obj.ensures.epoch c.free_obj-in-Some.new.self c.free_obj-in-Some.ensures.freed c.free_obj-in-Some.ensures.budget c.free_obj-in-Some.ensures.moved c.free_obj-in-Some.ensures.compacted c.free_obj-in-Some.ensures.epoch)

pub returns-clause-kept : goal.returns-clause-kept
returns-clause-kept g c =
    let same : c.requires.version.0 ≡ c.in-Some.end = same_end c.requires.version.0 c.in-Some.end (sym (c.first.ensures (c.requires.version.0 ∷ []) c.requires.version.2.tree) ∙ c.in-Some.is) in
    let held = subst (λ z. IsVersionOf c.args.region.now c.args.v (z ∷ []) c.requires.version.1) same c.requires.version.2 in
    free-kept g.row.S c.args.region.now c.remove.new.region c.args.v c.in-Some.end c.requires.version.1 held c.requires.version.3 c.requires.unlisted (subst (IsUnlisted c.args.region.now) same c.requires.version.4) c.known.ensures.well c.remove.ensures.well
    c.remove.ensures.others c.remove.ensures.elsewhere (c.remove.ensures.objects (c.in-Some.end ∷ []) held.tree) (c.remove.ensures.removed [] [] held.tree) c.remove.ensures.out c.free_obj.new.self c.free_obj.ensures.well c.free_obj.ensures.freed c.free_obj.ensures.budget c.free_obj.ensures.moved c.free_obj.ensures.compacted c.free_obj.ensures.epoch c.free_obj-in-Some.new.self c.free_obj-in-Some.ensures.freed c.free_obj-in-Some.ensures.budget c.free_obj-in-Some.ensures.moved c.free_obj-in-Some.ensures.compacted c.free_obj-in-Some.ensures.epoch

pub returns-clause-spare : goal.returns-clause-spare
returns-clause-spare g c =
    let same : c.requires.version.0 ≡ c.in-Some.end = same_end c.requires.version.0 c.in-Some.end (sym (c.first.ensures (c.requires.version.0 ∷ []) c.requires.version.2.tree) ∙ c.in-Some.is) in
    let held = subst (λ z. IsVersionOf c.args.region.now c.args.v (z ∷ []) c.requires.version.1) same c.requires.version.2 in
    c.free_obj-in-Some.ensures.spare ∙ c.free_obj.ensures.spare ∙ ap (spare_of g.row.S) (c.remove.ensures.objects (c.in-Some.end ∷ []) held.tree).usages

pub returns-clause-live : goal.returns-clause-live
returns-clause-live g c =
    let same : c.requires.version.0 ≡ c.in-Some.end = same_end c.requires.version.0 c.in-Some.end (sym (c.first.ensures (c.requires.version.0 ∷ []) c.requires.version.2.tree) ∙ c.in-Some.is) in
    let held = subst (λ z. IsVersionOf c.args.region.now c.args.v (z ∷ []) c.requires.version.1) same c.requires.version.2 in
    free-live g.row.S c.args.region.now c.remove.new.region c.args.v c.in-Some.end c.requires.version.1 held c.requires.version.3 c.requires.unlisted (subst (IsUnlisted c.args.region.now) same c.requires.version.4) c.known.ensures.well c.remove.ensures.well
    c.remove.ensures.others c.remove.ensures.elsewhere (c.remove.ensures.objects (c.in-Some.end ∷ []) held.tree) (c.remove.ensures.removed [] [] held.tree) c.remove.ensures.out c.free_obj.new.self c.free_obj.ensures.well c.free_obj.ensures.freed c.free_obj.ensures.budget c.free_obj.ensures.moved c.free_obj.ensures.compacted c.free_obj.ensures.epoch c.free_obj-in-Some.new.self c.free_obj-in-Some.ensures.freed c.free_obj-in-Some.ensures.budget c.free_obj-in-Some.ensures.moved c.free_obj-in-Some.ensures.compacted c.free_obj-in-Some.ensures.epoch c.free_obj.ensures.live c.free_obj-in-Some.ensures.live

pub returns-clause-none : goal.returns-clause-none
returns-clause-none g c =
    let same : c.requires.version.0 ≡ c.in-Some.end = same_end c.requires.version.0 c.in-Some.end (sym (c.first.ensures (c.requires.version.0 ∷ []) c.requires.version.2.tree) ∙ c.in-Some.is) in
    let held = subst (λ z. IsVersionOf c.args.region.now c.args.v (z ∷ []) c.requires.version.1) same c.requires.version.2 in
    free-none g.row.S c.args.region.now c.remove.new.region c.args.v c.in-Some.end c.requires.version.1 held c.requires.version.3 c.requires.unlisted (subst (IsUnlisted c.args.region.now) same c.requires.version.4) c.known.ensures.well c.remove.ensures.well
    c.remove.ensures.others c.remove.ensures.elsewhere (c.remove.ensures.objects (c.in-Some.end ∷ []) held.tree) (c.remove.ensures.removed [] [] held.tree) c.remove.ensures.out c.free_obj.new.self c.free_obj.ensures.well c.free_obj.ensures.freed c.free_obj.ensures.budget c.free_obj.ensures.moved c.free_obj.ensures.compacted c.free_obj.ensures.epoch c.free_obj-in-Some.new.self c.free_obj-in-Some.ensures.freed c.free_obj-in-Some.ensures.budget c.free_obj-in-Some.ensures.moved c.free_obj-in-Some.ensures.compacted c.free_obj-in-Some.ensures.epoch
