use Rattle.rc_chain_guarded.proofs.Steps.{known-same, told-same}
use Rattle.rc_chain_guarded.proofs.lives.take_dropped.Goals as goal

pub returns : goal.returns
returns c =
    let told = told-same c.args.chains.now c.take_dropped.new.self c.take_dropped.result c.take_dropped.ensures in known-same c.args.chains.now c.take_dropped.new.self told.0 c.args._known.now told.1 c.requires
