use Rattle.std.proofs.Common.{◌≡◌, None, ◌+◌, ◌≤◌, Some, arith, inl, inr, refl, sym, ap, ◌∙◌, subst}
use Rattle.lsa_pool.specs.Room.{spare_of}
use Rattle.lsa_region.specs.declared.end.End.TheVariants.{Obj}
use Rattle.lsa_region.specs.laws.Ends.{some_and_none}
use Rattle.lsa_region.specs.Region.{body}
use Rattle.rc_core.specs.Steps.{set_statics}
use Rattle.rc_rowcode.specs.Objects.{static_size}
use Rattle.rc_version.specs.Versions.{MayChange, version_bytes}
use Rattle.rc_version.specs.laws.Staying.{kept-then, made-added, made-version, version-kind}
use Rattle.rc_version.proofs.Putting.{fresh-unlisted}
use Rattle.rc_version.proofs.SetStatics.{set-alone, set-apart, set-first, set-kept, set-live, set-only, set-second, set-spare, set-unset, set-version}
use Rattle.rc_version.proofs.Written.{head-kept_by, own-rewritten, rewritten-live, rewritten-others, rewritten-usages}
use Rattle.rc_version.proofs.statics.set_static.Goals as goal

pub take_statics-requires : goal.take_statics-requires
take_statics-requires g c =
    let made = c.make_static-s.ensures.made c.requires.row.0 c.requires.row.1 in let links = (made-added g.row.S c.args.region.now c.make_static-s.new.region c.make_static-s.result _ made).links in (
      omega arith,
      (
        (c.requires.version.0, c.requires.version.1, (made-version g.row.S c.args.region.now c.make_static-s.new.region c.make_static-s.result _ made c.args.v c.requires.version.0 c.requires.version.1 c.requires.version.2)),
        (λ s named field low. links (Obj s field) ∙ c.requires.unlisted s (sym (links (Obj c.args.v 3)) ∙ named) field low),
      ),
    )

pub link-requires : goal.link-requires
link-requires g c = (
  omega arith,
  (
    set-first g.row.S c.args.region.now c.make_static-s.new.region c.take_statics.new.region c.take_statics.new.region c.args.v c.make_static-s.result c.requires.row.0 (c.make_static-s.ensures.made c.requires.row.0 c.requires.row.1) (c.make_static-s.ensures.holds c.requires.row.0 c.requires.row.1) c.known.ensures.well c.take_statics.ensures.links c.take_statics.ensures.kept c.take_statics.ensures.taken c.requires.version.0 c.requires.version.1 c.requires.version.2,
    (
      set-second g.row.S c.args.region.now c.make_static-s.new.region c.take_statics.new.region c.take_statics.new.region c.args.v c.make_static-s.result c.requires.row.0 (c.make_static-s.ensures.made c.requires.row.0 c.requires.row.1) (c.make_static-s.ensures.holds c.requires.row.0 c.requires.row.1) c.known.ensures.well c.take_statics.ensures.links c.take_statics.ensures.kept c.take_statics.ensures.taken,
      (set-unset g.row.S c.args.region.now c.make_static-s.new.region c.take_statics.new.region c.take_statics.new.region c.args.v c.make_static-s.result c.requires.row.0 (c.make_static-s.ensures.made c.requires.row.0 c.requires.row.1) (c.make_static-s.ensures.holds c.requires.row.0 c.requires.row.1) c.known.ensures.well c.take_statics.ensures.links c.take_statics.ensures.kept c.take_statics.ensures.taken c.requires.version.0 c.requires.version.1 c.requires.version.2, (set-alone g.row.S c.args.region.now c.make_static-s.new.region c.take_statics.new.region c.take_statics.new.region c.args.v c.make_static-s.result c.requires.row.0 (c.make_static-s.ensures.made c.requires.row.0 c.requires.row.1) (c.make_static-s.ensures.holds c.requires.row.0 c.requires.row.1) c.known.ensures.well c.take_statics.ensures.links c.take_statics.ensures.kept c.take_statics.ensures.taken, set-apart g.row.S c.args.region.now c.make_static-s.new.region c.take_statics.new.region c.take_statics.new.region c.args.v c.make_static-s.result c.requires.row.0 (c.make_static-s.ensures.made c.requires.row.0 c.requires.row.1) (c.make_static-s.ensures.holds c.requires.row.0 c.requires.row.1) c.known.ensures.well c.take_statics.ensures.links c.take_statics.ensures.kept c.take_statics.ensures.taken)),
    ),
  ),
)

pub set_static_flag-requires : goal.set_static_flag-requires
set_static_flag-requires g c = (omega arith, (c.requires.version.0, _, (set-version g.row.S c.args.region.now c.make_static-s.new.region c.take_statics.new.region c.link.new.self c.args.v c.make_static-s.result c.requires.row.0 (c.make_static-s.ensures.made c.requires.row.0 c.requires.row.1) (c.make_static-s.ensures.holds c.requires.row.0 c.requires.row.1) c.known.ensures.well c.take_statics.ensures.links c.take_statics.ensures.kept c.take_statics.ensures.taken c.link.ensures.tied c.link.ensures.objects c.requires.version.0 c.requires.version.1 c.requires.version.2)))

pub returns-clause-set : goal.returns-clause-set
returns-clause-set g c = λ rs d row h code. c.set_static_flag.ensures.set rs (set_statics (Some row) d.static_flag d) (set-version g.row.S c.args.region.now c.make_static-s.new.region c.take_statics.new.region c.link.new.self c.args.v c.make_static-s.result row (c.make_static-s.ensures.made row code) (c.make_static-s.ensures.holds row code) c.known.ensures.well c.take_statics.ensures.links c.take_statics.ensures.kept c.take_statics.ensures.taken c.link.ensures.tied c.link.ensures.objects rs d h)

pub returns-clause-kept : goal.returns-clause-kept
returns-clause-kept g c = kept-then (MayChange c.args.region.now c.args.v) c.args.v c.args.region.now c.link.new.self c.set_static_flag.new.region (set-kept g.row.S c.args.region.now c.make_static-s.new.region c.take_statics.new.region c.link.new.self c.args.v c.make_static-s.result c.requires.row.0 (c.make_static-s.ensures.made c.requires.row.0 c.requires.row.1) (c.make_static-s.ensures.holds c.requires.row.0 c.requires.row.1) c.known.ensures.well c.take_statics.ensures.links c.take_statics.ensures.kept c.take_statics.ensures.taken c.link.ensures.tied c.link.ensures.objects c.requires.version.0 c.requires.version.1 c.requires.version.2)
    (head-kept_by c.link.new.self c.set_static_flag.new.region c.args.v c.set_static_flag.ensures.rewritten c.requires.version.0 (set_statics (Some c.requires.row.0) c.requires.version.1.static_flag c.requires.version.1) (set-version g.row.S c.args.region.now c.make_static-s.new.region c.take_statics.new.region c.link.new.self c.args.v c.make_static-s.result c.requires.row.0 (c.make_static-s.ensures.made c.requires.row.0 c.requires.row.1) (c.make_static-s.ensures.holds c.requires.row.0 c.requires.row.1) c.known.ensures.well c.take_statics.ensures.links c.take_statics.ensures.kept c.take_statics.ensures.taken c.link.ensures.tied c.link.ensures.objects c.requires.version.0 c.requires.version.1 c.requires.version.2) (MayChange c.args.region.now c.args.v) (inr (inl refl)))

pub returns-clause-unlisted : goal.returns-clause-unlisted
returns-clause-unlisted g c = fresh-unlisted (MayChange c.args.region.now c.args.v) c.args.v c.args.region.now c.set_static_flag.new.region c.known.ensures.well (kept-then (MayChange c.args.region.now c.args.v) c.args.v c.args.region.now c.link.new.self c.set_static_flag.new.region (set-kept g.row.S c.args.region.now c.make_static-s.new.region c.take_statics.new.region c.link.new.self c.args.v c.make_static-s.result c.requires.row.0 (c.make_static-s.ensures.made c.requires.row.0 c.requires.row.1) (c.make_static-s.ensures.holds c.requires.row.0 c.requires.row.1) c.known.ensures.well c.take_statics.ensures.links c.take_statics.ensures.kept c.take_statics.ensures.taken c.link.ensures.tied c.link.ensures.objects c.requires.version.0 c.requires.version.1 c.requires.version.2)
    (head-kept_by c.link.new.self c.set_static_flag.new.region c.args.v c.set_static_flag.ensures.rewritten c.requires.version.0 (set_statics (Some c.requires.row.0) c.requires.version.1.static_flag c.requires.version.1) (set-version g.row.S c.args.region.now c.make_static-s.new.region c.take_statics.new.region c.link.new.self c.args.v c.make_static-s.result c.requires.row.0 (c.make_static-s.ensures.made c.requires.row.0 c.requires.row.1) (c.make_static-s.ensures.holds c.requires.row.0 c.requires.row.1) c.known.ensures.well c.take_statics.ensures.links c.take_statics.ensures.kept c.take_statics.ensures.taken c.link.ensures.tied c.link.ensures.objects c.requires.version.0 c.requires.version.1 c.requires.version.2) (MayChange c.args.region.now c.args.v) (inr (inl refl))))

pub returns-clause-spare : goal.returns-clause-spare
returns-clause-spare g c = λ row code. subst (λ us. spare_of g.row.S c.args.region.now.usages ≤ spare_of g.row.S us + static_size row) (sym (rewritten-usages c.link.new.self c.set_static_flag.new.region c.args.v c.set_static_flag.ensures.rewritten))
    (set-spare g.row.S c.args.region.now c.make_static-s.new.region c.take_statics.new.region c.link.new.self c.args.v c.make_static-s.result row (c.make_static-s.ensures.made row code) (c.make_static-s.ensures.holds row code) c.known.ensures.well c.take_statics.ensures.links c.take_statics.ensures.kept c.take_statics.ensures.taken c.link.ensures.tied c.link.ensures.objects c.take_statics.ensures.spare)

pub returns-clause-live : goal.returns-clause-live
returns-clause-live g c = λ rs d row h code. ap (λ k. k + version_bytes d) (rewritten-live c.link.new.self c.set_static_flag.new.region c.args.v c.set_static_flag.ensures.rewritten) ∙
    set-live g.row.S c.args.region.now c.make_static-s.new.region c.take_statics.new.region c.link.new.self c.args.v c.make_static-s.result row (c.make_static-s.ensures.made row code) (c.make_static-s.ensures.holds row code) c.known.ensures.well c.take_statics.ensures.links c.take_statics.ensures.kept c.take_statics.ensures.taken c.link.ensures.tied c.link.ensures.objects d (c.take_statics.ensures.live rs d (made-version g.row.S c.args.region.now c.make_static-s.new.region c.make_static-s.result _ (c.make_static-s.ensures.made row code) c.args.v rs d h)) c.args.flag

pub returns-clause-gone : goal.returns-clause-gone
returns-clause-gone g c = λ s named.
    let mid = c.link.new.self in
    let gone = c.link.ensures.objects.bodies s ∙ c.take_statics.ensures.gone s ((made-added g.row.S c.args.region.now c.make_static-s.new.region c.make_static-s.result _ (c.make_static-s.ensures.made c.requires.row.0 c.requires.row.1)).links (Obj c.args.v 3) ∙ named) in
    rewritten-others mid c.set_static_flag.new.region c.args.v c.set_static_flag.ensures.rewritten s
    (λ is. some_and_none (body mid c.args.v) _ (subst (λ q. body mid q ≡ None) is gone) (version-kind mid c.args.v c.requires.version.0 _ (set-version g.row.S c.args.region.now c.make_static-s.new.region c.take_statics.new.region c.link.new.self c.args.v c.make_static-s.result c.requires.row.0 (c.make_static-s.ensures.made c.requires.row.0 c.requires.row.1) (c.make_static-s.ensures.holds c.requires.row.0 c.requires.row.1) c.known.ensures.well c.take_statics.ensures.links c.take_statics.ensures.kept c.take_statics.ensures.taken c.link.ensures.tied c.link.ensures.objects c.requires.version.0 c.requires.version.1 c.requires.version.2))) ∙ gone

pub returns-clause-own : goal.returns-clause-own
returns-clause-own g c = own-rewritten c.args.region.now c.link.new.self c.set_static_flag.new.region c.args.v c.make_static-s.result c.set_static_flag.ensures.rewritten c.link.ensures.tied.first
    (set-only g.row.S c.args.region.now c.make_static-s.new.region c.take_statics.new.region c.link.new.self c.args.v c.make_static-s.result c.requires.row.0 (c.make_static-s.ensures.made c.requires.row.0 c.requires.row.1) (c.make_static-s.ensures.holds c.requires.row.0 c.requires.row.1) c.known.ensures.well c.take_statics.ensures.links c.take_statics.ensures.kept c.take_statics.ensures.taken c.link.ensures.tied c.link.ensures.objects)
