use Rattle.rc_chain_guarded.proofs.Steps.{from-if}
use Rattle.rc_chain_guarded.proofs.Listed.{full-last}
use Rattle.rc_chain_guarded.proofs.homes.may_join.Goals as goal

pub returns-clause-last : goal.returns-clause-last
returns-clause-last c = λ yes. full-last c.args.chains.now c.args.id c.known.ensures.versions (from-if _ c.args.known.now.full c.args.id c.requires.full (c.is_full.ensures yes))
