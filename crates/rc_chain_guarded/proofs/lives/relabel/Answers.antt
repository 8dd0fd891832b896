use Rattle.rc_chain_guarded.proofs.Wholes.{known-relabelled}
use Rattle.rc_chain_guarded.proofs.lives.relabel.Goals as goal

pub returns : goal.returns
returns c =
    known-relabelled c.args.chains.now c.relabel.new.self c.args.to c.relabel.ensures.relabelled.chains c.args.known.now c.forget.new.self c.requires c.forget.ensures.held c.forget.ensures.full c.forget.ensures.bare
