use Rattle.rc_chain.proofs.chains.Chains.know_between.Goals as goal

pub returns-clause-known : goal.returns-clause-known
returns-clause-known g c = c.mark_between.ensures.marked
