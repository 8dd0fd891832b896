use Rattle.rc_chain_guarded.proofs.Fitting.{known-kept}
use Rattle.rc_core.specs.Steps.{join_pt}
use Rattle.rc_memory.specs.laws.Rows.{keeps-head}
use Rattle.rc_chain_guarded.proofs.changes.join_pt.Goals as goal

pub returns : goal.returns
returns c =
    known-kept c.args.chains.now c.join_pt.new.self c.args.at.chain c.args.at.version (join_pt c.args.tomb) c.join_pt.ensures.joined.chains (c.has_version.ensures c.if-not-has_version.false) c.args.known.now c.forget_bare.new.self c.requires
    c.forget_bare.ensures.held c.forget_bare.ensures.full c.forget_bare.ensures.bare (keeps-head c.args.tomb) c.join_pt.ensures.recency
