use Rattle.std.proofs.Common.{◌≡◌, [], ◌∷◌, is_some, arith, refl, sym, ap, ◌∙◌, subst}
use Rattle.lsa_path.specs.laws.Members.{member-here}
use Rattle.lsa_pool.specs.Room.{spare_of}
use Rattle.lsa_region.specs.declared.end.End.TheVariants.{Obj, Slot}
use Rattle.lsa_region.specs.Paired.{IsParted}
use Rattle.lsa_region.specs.Region.{link_of}
use Rattle.rc_version_walk.proofs.Pairs.{entry-alone, half-left, head-alone, pair-kept, same-end, slot-there, static-unlisted, version-parted}
use Rattle.rc_version_walk.proofs.calls.release.Goals as goal

pub drop_static-requires : goal.drop_static-requires
drop_static-requires c = let m = c.requires.pair.0 in let h = c.requires.pair.1 in (omega arith, (h.here, static-unlisted c.args.this c.args._other c.args.region.now c.args.v m h))

pub unlink-end-requires : goal.unlink-end-requires
unlink-end-requires c =
    let m = c.requires.pair.0 in let k = c.drop_static.ensures in let b = c.requires.bare in
    let p = pair-kept c.args.this c.args._other c.args.region.now c.drop_static.new.region c.args.v m _ c.requires.pair.1 k.kept (b.0 ∷ [], _, k.dropped (b.0 ∷ []) b.1 b.2) in
    (omega arith, (slot-there c.args.this c.args._other c.drop_static.new.region c.args.v m p c.known.ensures.well, ap is_some p.first))

pub free_version-requires : goal.free_version-requires
free_version-requires c =
    let m = c.requires.pair.0 in let k = c.drop_static.ensures in let b = c.requires.bare in let mid = c.drop_static.new.region in let out = c.unlink-end.new.self in let n = c.args.v in let is = k.dropped (b.0 ∷ []) b.1 b.2 in
    let p = pair-kept c.args.this c.args._other c.args.region.now mid n m _ c.requires.pair.1 k.kept (b.0 ∷ [], _, is) in
    let same : c.unlink-end.result ≡ Obj n 1 = same-end c.unlink-end.result (Obj n 1) (sym c.unlink-end.ensures.mate ∙ p.first) in
    let parted = subst (λ e. IsParted (link_of mid) (link_of out) (Slot c.args.this) e) same c.unlink-end.ensures.parted in let kept = c.unlink-end.ensures.objects in (
      omega arith,
      (
        (b.0, _, version-parted mid out c.args.this n parted kept n (b.0 ∷ []) _ is, refl, entry-alone c.args.this c.args._other mid n m p c.known.ensures.well out parted kept b.0 (b.0 ∷ []) _ is (member-here [] [] b.0)),
        head-alone c.args.this c.args._other mid n m p c.known.ensures.well out parted kept,
      ),
    )

pub returns-clause-half : goal.returns-clause-half
returns-clause-half c =
    let m = c.requires.pair.0 in let k = c.drop_static.ensures in let b = c.requires.bare in let mid = c.drop_static.new.region in let out = c.unlink-end.new.self in let n = c.args.v in let is = k.dropped (b.0 ∷ []) b.1 b.2 in
    let p = pair-kept c.args.this c.args._other c.args.region.now mid n m _ c.requires.pair.1 k.kept (b.0 ∷ [], _, is) in
    let same : c.unlink-end.result ≡ Obj n 1 = same-end c.unlink-end.result (Obj n 1) (sym c.unlink-end.ensures.mate ∙ p.first) in
    let parted = subst (λ e. IsParted (link_of mid) (link_of out) (Slot c.args.this) e) same c.unlink-end.ensures.parted in
    (m, half-left c.args.this c.args._other mid n m p c.known.ensures.well out parted c.unlink-end.ensures.objects c.free_version.new.region _ c.free_version.ensures.kept)

pub returns-clause-spare : goal.returns-clause-spare
returns-clause-spare c = c.free_version.ensures.spare ∙ ap (spare_of 131072) c.unlink-end.ensures.objects.usages ∙ c.drop_static.ensures.spare
