use Rattle.std.proofs.Common.{arith}
use Rattle.rc_memory.specs.Memory.{chain_at}
use Rattle.rc_chain.proofs.Dropping.{detached-settled, detached-there, detached-whole}
use Rattle.rc_chain.proofs.Reading.{some_of}
use Rattle.rc_chain.proofs.chains.Chains.detach.Goals as goal

pub unfind-requires : goal.unfind-requires
unfind-requires g c =
    let k = some_of (chain_at c.args.self.now c.args.id) c.requires in let it = c.end_update.ensures.ended k.0 k.1 in (omega arith, (detached-there c.args.self.now c.end_update.new.self c.args.id k.0 k.1 it.0 it.2, detached-settled c.args.self.now c.end_update.new.self c.args.id k.0 k.1 it.0 it.2))

pub returns-clause-detached : goal.returns-clause-detached
returns-clause-detached g c =
    λ k e. let it = c.end_update.ensures.ended k e in (it.0, it.1, detached-whole c.args.self.now c.end_update.new.self c.args.id k e it.0 it.2 c.unfind.new.self c.unfind.ensures)
