use Rattle.rc_chain_guarded.proofs.Fitting.{known-kept}
use Rattle.rc_core.specs.Steps.{set_static_flag}
use Rattle.rc_memory.specs.laws.Rows.{keeps-static_flag}
use Rattle.rc_chain_guarded.proofs.changes.set_static_flag.Goals as goal

pub returns : goal.returns
returns c =
    known-kept c.args.chains.now c.set_static_flag.new.self c.args.at.chain c.args.at.version (set_static_flag c.args.flag) c.set_static_flag.ensures.set.chains (c.has_version.ensures c.if-not-has_version.false) c.args.known.now c.forget_bare.new.self c.requires
    c.forget_bare.ensures.held c.forget_bare.ensures.full c.forget_bare.ensures.bare (keeps-static_flag c.args.flag) c.set_static_flag.ensures.recency
