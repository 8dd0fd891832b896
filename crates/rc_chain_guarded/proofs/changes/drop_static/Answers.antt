use Rattle.std.proofs.Common.{refl}
use Rattle.rc_chain_guarded.proofs.Fitting.{known-entries, limits-undone, undone-listed}
use Rattle.rc_core.specs.Continuity.{without_statics}
use Rattle.rc_chain_guarded.proofs.changes.drop_static.Goals as goal

pub returns : goal.returns
returns c =
    let m = c.args.chains.now in let n = c.drop_static.new.self in let id = c.args.at.chain in let j = c.args.at.version in
    known-entries m n id j without_statics c.drop_static.ensures.dropped.chains (c.has_version.ensures c.if-not-has_version.false) c.args.known.now c.forget_bare.new.self c.requires
    c.forget_bare.ensures.held c.forget_bare.ensures.full c.forget_bare.ensures.bare limits-undone (λ v. refl) (undone-listed m n id j c.drop_static.ensures.recency)
