use Rattle.std.proofs.Common.{arith}
use Rattle.rc_memory.specs.Memory.{chain_at}
use Rattle.rc_chain.proofs.Idle.{some-idle}
use Rattle.rc_chain.proofs.Ended.{true-false}
use Rattle.rc_chain.proofs.Reading.{some_of}
use Rattle.rc_chain.proofs.chains.Chains.sweep.Goals as goal

pub drop_idle-requires : goal.drop_idle-requires
drop_idle-requires g c =
    let k = some_of (chain_at c.args.self.now c.args.id) c.requires in (omega arith, some-idle c.args.self.now c.args.id k.0 k.1 ((c.is_idle.ensures k.0 k.1).0 c.if-is_idle.true))

pub returns-then-is_idle-clause-kept : goal.returns-then-is_idle-clause-kept
returns-then-is_idle-clause-kept g c =
    λ k e none. absurd (none ((c.is_idle.ensures k e).0 c.if-is_idle.true))

pub returns-else-is_idle-clause-dropped : goal.returns-else-is_idle-clause-dropped
returns-else-is_idle-clause-dropped g c =
    λ k e idle. absurd (true-false c.is_idle.result ((c.is_idle.ensures k e).1 idle) c.if-is_idle.false)

pub returns-then-is_idle-clause-dropped : goal.returns-then-is_idle-clause-dropped
returns-then-is_idle-clause-dropped g c =
    λ k e idle. c.drop_idle.ensures.dropped
