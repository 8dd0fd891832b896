use Rattle.std.proofs.Common.{◌≡◌, ◌+◌, arith, inl, inr, None, refl, ap, ◌∙◌, subst}
use Rattle.lsa_pool.specs.Room.{spare_of}
use Rattle.lsa_region.specs.laws.Ends.{some_and_none}
use Rattle.lsa_region.specs.Region.{body}
use Rattle.rc_core.specs.Steps.{set_statics}
use Rattle.rc_version.specs.Versions.{IsStaticsOf, MayChange, version_bytes}
use Rattle.rc_version.specs.laws.Staying.{kept-then, kept-wider, version-kind}
use Rattle.rc_version.proofs.Written.{head-kept_by, rewritten-live, rewritten-none, rewritten-others, rewritten-usages}
use Rattle.rc_version.proofs.statics.drop_static.Goals as goal

pub set_static_flag-requires : goal.set_static_flag-requires
set_static_flag-requires g c = (omega arith, (c.requires.version.0, _, c.take_statics.ensures.taken c.requires.version.0 c.requires.version.1 c.requires.version.2))

pub returns-clause-dropped : goal.returns-clause-dropped
returns-clause-dropped g c = λ rs d h. c.set_static_flag.ensures.set rs (set_statics None d.static_flag d) (c.take_statics.ensures.taken rs d h)

pub returns-clause-gone : goal.returns-clause-gone
returns-clause-gone g c = λ s named.
    let old = c.args.region.now in let mid = c.take_statics.new.region in let new = c.set_static_flag.new.region in
    let taken = c.take_statics.ensures.taken c.requires.version.0 c.requires.version.1 c.requires.version.2 in let gone = c.take_statics.ensures.gone s named in
    rewritten-others mid new c.args.v c.set_static_flag.ensures.rewritten s
    (λ is. some_and_none (body mid c.args.v) _ (subst (λ q. body mid q ≡ None) is gone) (version-kind mid c.args.v c.requires.version.0 _ taken)) ∙ gone

pub returns-clause-kept : goal.returns-clause-kept
returns-clause-kept g c =
    let old = c.args.region.now in let mid = c.take_statics.new.region in let new = c.set_static_flag.new.region in let n = c.args.v in
    kept-then (MayChange old n) n old mid new (kept-wider (IsStaticsOf old n) (MayChange old n) n old mid (λ r is. inr (inr (inr is))) c.take_statics.ensures.kept)
    (head-kept_by mid new n c.set_static_flag.ensures.rewritten c.requires.version.0 (set_statics None c.requires.version.1.static_flag c.requires.version.1) (c.take_statics.ensures.taken c.requires.version.0 c.requires.version.1 c.requires.version.2) (MayChange old n) (inr (inl refl)))

pub returns-clause-spare : goal.returns-clause-spare
returns-clause-spare g c = ap (spare_of g.row.S) (rewritten-usages c.take_statics.new.region c.set_static_flag.new.region c.args.v c.set_static_flag.ensures.rewritten) ∙ c.take_statics.ensures.spare

pub returns-clause-live : goal.returns-clause-live
returns-clause-live g c = λ rs d h.
    ap (λ n. n + version_bytes d) (rewritten-live c.take_statics.new.region c.set_static_flag.new.region c.args.v c.set_static_flag.ensures.rewritten) ∙ c.take_statics.ensures.live rs d h

pub returns-clause-none : goal.returns-clause-none
returns-clause-none g c = λ q gone. rewritten-none c.take_statics.new.region c.set_static_flag.new.region c.args.v c.set_static_flag.ensures.rewritten q (c.take_statics.ensures.none q gone)
