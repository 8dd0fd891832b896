use Rattle.std.proofs.Common.{arith, sym, ◌∙◌}
use Rattle.lsa_region.specs.declared.end.End.TheVariants.{Obj}
use Rattle.rc_core.specs.Change.{joined_onto}
use Rattle.rc_version.specs.Versions.{MayChange}
use Rattle.rc_version.specs.laws.Staying.{made-added, made-version}
use Rattle.rc_version.proofs.Putting.{fresh-unlisted}
use Rattle.rc_version.proofs.SetStatics.{set-alone, set-apart, set-first, set-kept, set-live, set-own, set-second, set-spare, set-unset, set-version}
use Rattle.rc_version.proofs.statics.join_statics_like.Goals as goal

pub take_statics-requires : goal.take_statics-requires
take_statics-requires g c =
    let made = c.make_statics_like-s.ensures.made c.requires.0 c.requires.1 c.requires.2 c.requires.3 c.requires.4.version in let links = (made-added g.row.S c.args.region.now c.make_statics_like-s.new.region c.make_statics_like-s.result _ made).links in (
      omega arith,
      (
        (c.requires.1, c.requires.2, made-version g.row.S c.args.region.now c.make_statics_like-s.new.region c.make_statics_like-s.result _ made c.args.v c.requires.1 c.requires.2 c.requires.4.version),
        (λ s named field low. links (Obj s field) ∙ c.requires.4.unlisted s (sym (links (Obj c.args.v 3)) ∙ named) field low),
      ),
    )

pub link-requires : goal.link-requires
link-requires g c = (
  omega arith,
  (
    set-first g.row.S c.args.region.now c.make_statics_like-s.new.region c.take_statics.new.region c.take_statics.new.region c.args.v c.make_statics_like-s.result (joined_onto c.requires.2.statics c.requires.0) (c.make_statics_like-s.ensures.made c.requires.0 c.requires.1 c.requires.2 c.requires.3 c.requires.4.version) (c.make_statics_like-s.ensures.holds c.requires.0 c.requires.1 c.requires.2 c.requires.3 c.requires.4.version) c.known.ensures.well c.take_statics.ensures.links c.take_statics.ensures.kept c.take_statics.ensures.taken c.requires.1 c.requires.2 c.requires.4.version,
    (
      set-second g.row.S c.args.region.now c.make_statics_like-s.new.region c.take_statics.new.region c.take_statics.new.region c.args.v c.make_statics_like-s.result (joined_onto c.requires.2.statics c.requires.0) (c.make_statics_like-s.ensures.made c.requires.0 c.requires.1 c.requires.2 c.requires.3 c.requires.4.version) (c.make_statics_like-s.ensures.holds c.requires.0 c.requires.1 c.requires.2 c.requires.3 c.requires.4.version) c.known.ensures.well c.take_statics.ensures.links c.take_statics.ensures.kept c.take_statics.ensures.taken,
      (set-unset g.row.S c.args.region.now c.make_statics_like-s.new.region c.take_statics.new.region c.take_statics.new.region c.args.v c.make_statics_like-s.result (joined_onto c.requires.2.statics c.requires.0) (c.make_statics_like-s.ensures.made c.requires.0 c.requires.1 c.requires.2 c.requires.3 c.requires.4.version) (c.make_statics_like-s.ensures.holds c.requires.0 c.requires.1 c.requires.2 c.requires.3 c.requires.4.version) c.known.ensures.well c.take_statics.ensures.links c.take_statics.ensures.kept c.take_statics.ensures.taken c.requires.1 c.requires.2 c.requires.4.version, (set-alone g.row.S c.args.region.now c.make_statics_like-s.new.region c.take_statics.new.region c.take_statics.new.region c.args.v c.make_statics_like-s.result (joined_onto c.requires.2.statics c.requires.0) (c.make_statics_like-s.ensures.made c.requires.0 c.requires.1 c.requires.2 c.requires.3 c.requires.4.version) (c.make_statics_like-s.ensures.holds c.requires.0 c.requires.1 c.requires.2 c.requires.3 c.requires.4.version) c.known.ensures.well c.take_statics.ensures.links c.take_statics.ensures.kept c.take_statics.ensures.taken, set-apart g.row.S c.args.region.now c.make_statics_like-s.new.region c.take_statics.new.region c.take_statics.new.region c.args.v c.make_statics_like-s.result (joined_onto c.requires.2.statics c.requires.0) (c.make_statics_like-s.ensures.made c.requires.0 c.requires.1 c.requires.2 c.requires.3 c.requires.4.version) (c.make_statics_like-s.ensures.holds c.requires.0 c.requires.1 c.requires.2 c.requires.3 c.requires.4.version) c.known.ensures.well c.take_statics.ensures.links c.take_statics.ensures.kept c.take_statics.ensures.taken)),
    ),
  ),
)

pub returns-clause-joined : goal.returns-clause-joined
returns-clause-joined g c = λ row hold. let kept = set-kept g.row.S c.args.region.now c.make_statics_like-s.new.region c.take_statics.new.region c.link.new.self c.args.v c.make_statics_like-s.result (joined_onto c.requires.2.statics c.requires.0) (c.make_statics_like-s.ensures.made c.requires.0 c.requires.1 c.requires.2 c.requires.3 c.requires.4.version) (c.make_statics_like-s.ensures.holds c.requires.0 c.requires.1 c.requires.2 c.requires.3 c.requires.4.version) c.known.ensures.well c.take_statics.ensures.links c.take_statics.ensures.kept c.take_statics.ensures.taken c.link.ensures.tied c.link.ensures.objects c.requires.1 c.requires.2 c.requires.4.version in record {
  statics = λ refs d h. set-version g.row.S c.args.region.now c.make_statics_like-s.new.region c.take_statics.new.region c.link.new.self c.args.v c.make_statics_like-s.result (joined_onto d.statics row) (c.make_statics_like-s.ensures.made row refs d hold h) (c.make_statics_like-s.ensures.holds row refs d hold h) c.known.ensures.well c.take_statics.ensures.links c.take_statics.ensures.kept c.take_statics.ensures.taken c.link.ensures.tied c.link.ensures.objects refs d h;
  named = c.link.ensures.tied.first;
  fresh = (made-added g.row.S c.args.region.now c.make_statics_like-s.new.region c.make_statics_like-s.result _ (c.make_statics_like-s.ensures.made c.requires.0 c.requires.1 c.requires.2 c.requires.3 c.requires.4.version)).fresh;
  gone = λ s named. c.link.ensures.objects.bodies s ∙ c.take_statics.ensures.gone s ((made-added g.row.S c.args.region.now c.make_statics_like-s.new.region c.make_statics_like-s.result _ (c.make_statics_like-s.ensures.made c.requires.0 c.requires.1 c.requires.2 c.requires.3 c.requires.4.version)).links (Obj c.args.v 3) ∙ named);
  unlisted = fresh-unlisted (MayChange c.args.region.now c.args.v) c.args.v c.args.region.now c.link.new.self c.known.ensures.well kept;
  own = set-own g.row.S c.args.region.now c.make_statics_like-s.new.region c.take_statics.new.region c.link.new.self c.args.v c.make_statics_like-s.result (joined_onto c.requires.2.statics c.requires.0) (c.make_statics_like-s.ensures.made c.requires.0 c.requires.1 c.requires.2 c.requires.3 c.requires.4.version) (c.make_statics_like-s.ensures.holds c.requires.0 c.requires.1 c.requires.2 c.requires.3 c.requires.4.version) c.known.ensures.well c.take_statics.ensures.links c.take_statics.ensures.kept c.take_statics.ensures.taken c.link.ensures.tied c.link.ensures.objects;
  kept = kept;
  spare = λ refs d h. set-spare g.row.S c.args.region.now c.make_statics_like-s.new.region c.take_statics.new.region c.link.new.self c.args.v c.make_statics_like-s.result (joined_onto d.statics row) (c.make_statics_like-s.ensures.made row refs d hold h) (c.make_statics_like-s.ensures.holds row refs d hold h) c.known.ensures.well c.take_statics.ensures.links c.take_statics.ensures.kept c.take_statics.ensures.taken c.link.ensures.tied c.link.ensures.objects c.take_statics.ensures.spare;
  live = λ refs d h. set-live g.row.S c.args.region.now c.make_statics_like-s.new.region c.take_statics.new.region c.link.new.self c.args.v c.make_statics_like-s.result (joined_onto d.statics row) (c.make_statics_like-s.ensures.made row refs d hold h) (c.make_statics_like-s.ensures.holds row refs d hold h) c.known.ensures.well c.take_statics.ensures.links c.take_statics.ensures.kept c.take_statics.ensures.taken c.link.ensures.tied c.link.ensures.objects d (c.take_statics.ensures.live refs d (made-version g.row.S c.args.region.now c.make_statics_like-s.new.region c.make_statics_like-s.result _ (c.make_statics_like-s.ensures.made row refs d hold h) c.args.v refs d h)) d.static_flag;
}
